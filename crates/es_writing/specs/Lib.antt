pub mod Kept
pub mod Lowered
pub mod Slots
pub mod Writing
