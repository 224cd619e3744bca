pub mod Lines
pub mod Outcome
pub mod Pair
pub mod PairErrors
pub mod ReadPair
