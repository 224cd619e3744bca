pub mod Bases
pub mod Keyed
pub mod Places
