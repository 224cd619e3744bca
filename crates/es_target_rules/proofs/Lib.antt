pub mod AssignmentForms
pub mod Members
pub mod TargetDepths
pub mod TargetForms
