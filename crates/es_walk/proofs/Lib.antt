pub mod Assembly
pub mod Here
pub mod Lawful
pub mod Load
pub mod Most
pub mod Rewrites
pub mod Walked
