pub mod Chaining
pub mod Inner
pub mod Moved
pub mod Noted
pub mod Strings
