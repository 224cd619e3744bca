pub mod Assembled
pub mod Counted
pub mod Judging
