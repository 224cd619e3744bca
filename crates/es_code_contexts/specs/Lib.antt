pub mod Inside
pub mod Terms
