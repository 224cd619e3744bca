pub mod Apart
pub mod Named
pub mod Steady
pub mod Touches
