pub mod Lent
pub mod Nearest
pub mod Places
