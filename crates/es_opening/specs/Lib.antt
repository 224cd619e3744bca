pub mod Assigned
pub mod Gathered
pub mod Size
