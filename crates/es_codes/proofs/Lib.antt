pub mod Forms
pub mod Injective
pub mod Keys
pub mod Sameness
