pub mod ConstantKeys
pub mod Patterns
pub mod PropertyView
pub mod Written
