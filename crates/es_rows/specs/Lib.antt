pub mod Lists
pub mod Owed
pub mod rows
pub mod witnesses
