pub mod Booleans
pub mod First
pub mod Unlowered
pub mod Quiet
pub mod Shapeless
