pub mod Constants
pub mod Forms
pub mod Keys
pub mod Mutated
pub mod Outcomes
pub mod Reading
pub mod Tables
