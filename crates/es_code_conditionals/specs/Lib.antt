pub mod Comparisons
pub mod Ends
