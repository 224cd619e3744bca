pub mod FirstNames
pub mod Resolving
