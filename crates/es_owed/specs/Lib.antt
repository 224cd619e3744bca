pub mod Elements
pub mod FreeStatements
pub mod Homes
pub mod KeptNodes
pub mod Listed
pub mod Lists
pub mod Numbers
