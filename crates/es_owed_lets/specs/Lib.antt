pub mod Exported
pub mod Heads
pub mod Lets
