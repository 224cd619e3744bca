pub mod Comparison
pub mod Evaluated
pub mod Judged
pub mod Facts
