pub mod MovedFunctions
pub mod NameReads
pub mod Steps
