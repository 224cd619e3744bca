pub mod Bare
pub mod Targets
pub mod Words
