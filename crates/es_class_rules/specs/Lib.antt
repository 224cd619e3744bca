pub mod Public
pub mod Steps
