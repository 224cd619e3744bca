pub mod Behind
pub mod Functions
