pub mod Below
pub mod Called
