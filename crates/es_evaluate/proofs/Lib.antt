pub mod Leaves
pub mod Whole
