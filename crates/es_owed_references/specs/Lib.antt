pub mod Moved
pub mod OwnNameReads
pub mod Reaching
