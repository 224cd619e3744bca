pub mod ElementForms
pub mod ElementRuns
pub mod Forgetting
pub mod NoElements
pub mod Openings
pub mod SuperForms
