pub mod Accesses
pub mod Fields
pub mod Kept
pub mod Members
pub mod Setters
