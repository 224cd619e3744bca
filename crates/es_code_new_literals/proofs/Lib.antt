pub mod DetailForms
pub mod KeyForms
pub mod LiteralForms
pub mod Literals
pub mod Operations
pub mod PropertyForms
pub mod TrueForms
