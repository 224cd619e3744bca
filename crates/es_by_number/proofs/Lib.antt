pub mod Sameness
pub mod Sorting
