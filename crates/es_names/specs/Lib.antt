pub mod Candidates
pub mod Taken
pub mod Rows
