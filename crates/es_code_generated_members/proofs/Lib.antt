pub mod FieldForms
pub mod KeptForms
pub mod LooseForms
pub mod MemberForms
pub mod SetterForms
