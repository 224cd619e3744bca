pub mod HeadForms
