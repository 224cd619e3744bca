pub mod Contexts
pub mod Letters
pub mod NameKinds
