pub mod CallForms
pub mod DefinitionNumbers
pub mod Depths
pub mod Forms
pub mod Runs
