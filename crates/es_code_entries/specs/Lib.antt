pub mod Found
pub mod Own
pub mod Walked
