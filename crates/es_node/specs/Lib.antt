pub mod Bearing
pub mod Falls
pub mod Stored
pub mod View
