pub mod Firsts
pub mod Members
pub mod OfKinds
pub mod Reaching
pub mod Strings
pub mod Walked
