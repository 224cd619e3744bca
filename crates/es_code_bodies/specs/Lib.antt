pub mod Alone
pub mod Bodies
pub mod Constructing
