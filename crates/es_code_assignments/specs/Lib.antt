pub mod Binaries
pub mod Privates
