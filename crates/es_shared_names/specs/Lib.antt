pub mod Earlier
pub mod SharedParts
