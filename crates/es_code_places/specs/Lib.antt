pub mod NameForms
pub mod PrivateKeys
