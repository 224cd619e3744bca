pub mod Asserting
pub mod Brands
pub mod HelperNames
pub mod Keys
