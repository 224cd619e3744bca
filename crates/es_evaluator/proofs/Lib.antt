pub mod Forms
pub mod Given
pub mod Lists
pub mod SameValues
pub mod Strings
