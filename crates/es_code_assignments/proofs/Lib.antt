pub mod AssignmentForms
pub mod BinaryForms
pub mod PrivateForms
pub mod Signs
