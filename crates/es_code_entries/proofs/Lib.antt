pub mod EachForms
pub mod EntryForms
pub mod Listed
pub mod NoNew
pub mod Others
pub mod Reached
pub mod Sizes
