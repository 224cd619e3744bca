pub mod Called
pub mod Templates
