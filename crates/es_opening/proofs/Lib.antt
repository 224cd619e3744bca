pub mod Added
pub mod Appended
pub mod AssignedForms
pub mod Sizes
