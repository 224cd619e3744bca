pub mod Declaring
pub mod Functions
pub mod Globals
pub mod Kinds
