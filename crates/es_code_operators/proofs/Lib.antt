pub mod ChainForms
pub mod DeleteForms
pub mod OperandForms
pub mod QuietForms
pub mod UnaryMembers
