pub mod Declarators
pub mod Given
