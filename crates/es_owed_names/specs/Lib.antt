pub mod Keys
pub mod OwnNames
pub mod Single
