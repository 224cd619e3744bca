pub mod Frames
pub mod References
