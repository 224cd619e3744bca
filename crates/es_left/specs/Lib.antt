pub mod Law
pub mod Left
