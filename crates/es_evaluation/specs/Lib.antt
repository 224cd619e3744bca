pub mod Agreement
pub mod Direct
pub mod Flat
