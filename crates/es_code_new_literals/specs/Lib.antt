pub mod Details
pub mod Keys
pub mod Literals
pub mod Views
