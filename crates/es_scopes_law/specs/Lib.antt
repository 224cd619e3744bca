pub mod Build
pub mod Law
pub mod Symbols
pub mod Written
