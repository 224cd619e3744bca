pub mod Bound
pub mod Carried
pub mod Forms
pub mod Pairs
pub mod Places
pub mod Words
