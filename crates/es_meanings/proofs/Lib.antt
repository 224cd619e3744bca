pub mod Alike
pub mod Pairs
pub mod Reaching
pub mod Seeking
pub mod Sorted
