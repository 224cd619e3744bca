pub mod Defining
pub mod Opened
pub mod PrivateFunctions
