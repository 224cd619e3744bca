pub mod Made
pub mod Reasons
pub mod Right
pub mod Wrong
