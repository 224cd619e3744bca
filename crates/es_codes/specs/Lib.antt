pub mod CodeView
pub mod Constants
pub mod formers
pub mod Keyed
pub mod Stored
pub mod View
