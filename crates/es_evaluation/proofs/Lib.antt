pub mod Follows
pub mod Opened
pub mod Same
