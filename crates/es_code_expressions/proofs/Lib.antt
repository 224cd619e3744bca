pub mod Keys
pub mod NumericKeys
pub mod PropertyForms
