pub mod TextNumbers
pub mod Written
