pub mod AncestorKinds
pub mod Ancestors
pub mod Lending
pub mod Lists
pub mod Outcome
pub mod ScopesAround
pub mod Stores
