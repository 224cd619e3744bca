pub mod Paid
pub mod Searched
