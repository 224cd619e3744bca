pub mod FormGroups
pub mod NodeForms
