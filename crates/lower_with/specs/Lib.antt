pub mod Judged
pub mod Law
