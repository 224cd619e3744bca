pub mod Differences
pub mod Finding
pub mod Means
pub mod Parts
