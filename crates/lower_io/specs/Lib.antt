pub mod Calls
pub mod Causes
pub mod Held
pub mod Memory
pub mod Rest
pub mod Room
pub mod Settings
pub mod Standard
