pub mod Declaring
pub mod Example
pub mod Holes
pub mod Law
pub mod Replacing
pub mod TreeHoles
pub mod Unasked
