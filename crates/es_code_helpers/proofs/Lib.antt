pub mod Arguments
pub mod Asserted
pub mod Branded
pub mod HelperForms
pub mod KeyForms
pub mod SuperSets
