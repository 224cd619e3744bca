pub mod Heads
pub mod LoopView
