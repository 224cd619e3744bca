pub mod Leaves
pub mod Onto
