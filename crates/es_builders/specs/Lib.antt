pub mod Builders
pub mod Helpers
