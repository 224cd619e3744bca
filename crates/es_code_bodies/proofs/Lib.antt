pub mod CodeForms
pub mod Constructed
pub mod Follow
pub mod Forms
pub mod Found
pub mod Parts
pub mod Whole
