pub mod NameForms
pub mod Places
pub mod PrivateForms
