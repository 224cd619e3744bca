pub mod Declarators
pub mod Declaring
pub mod FirstNames
pub mod Naming
pub mod PrivateKinds
pub mod Strings
pub mod SuperCalls
