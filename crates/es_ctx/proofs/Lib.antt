pub mod Around
pub mod Last
pub mod Placed
pub mod Rows
