pub mod DeclaratorForms
pub mod GivenForms
pub mod LetForms
