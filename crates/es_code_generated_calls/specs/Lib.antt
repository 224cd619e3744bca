pub mod Arrows
pub mod Calls
pub mod MemberCalls
pub mod Receivers
pub mod SuperCalls
