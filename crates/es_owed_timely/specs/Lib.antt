pub mod Functions
pub mod InTime
pub mod Needed
pub mod Search
pub mod Walk
