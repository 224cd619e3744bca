pub mod ClassNodes
pub mod Comparison
pub mod Counts
pub mod Derived
pub mod Forms
pub mod Supers
pub mod Touches
