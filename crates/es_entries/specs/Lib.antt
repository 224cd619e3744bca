pub mod Constructors
pub mod Entered
pub mod Lists
pub mod Methods
pub mod Parameters
