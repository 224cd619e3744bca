pub mod Bindings
pub mod Changing
pub mod Given
pub mod InnerFunctions
pub mod Outside
pub mod PrivateMembers
pub mod PrivateTargets
