pub mod Created
pub mod Details
pub mod Law
pub mod Lending
pub mod Stack
