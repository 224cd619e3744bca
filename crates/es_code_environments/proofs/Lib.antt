pub mod Back
pub mod ClassForms
pub mod Codes
pub mod Copies
pub mod Fine
pub mod Led
pub mod Others
pub mod Runs
