pub mod Copies
pub mod Duplicated
pub mod Law
pub mod Reads
pub mod Repetition
