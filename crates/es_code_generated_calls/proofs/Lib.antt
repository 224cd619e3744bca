pub mod ArrowForms
pub mod CallForms
pub mod MemberForms
pub mod ReceiverForms
pub mod SuperForms
