pub mod Classed
pub mod Unlowered
