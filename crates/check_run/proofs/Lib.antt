pub mod Answered
pub mod Causes
pub mod Pairs
