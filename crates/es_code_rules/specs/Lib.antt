pub mod Elsewhere
pub mod Indexed
pub mod Steps
pub mod Within
