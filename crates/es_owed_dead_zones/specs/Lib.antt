pub mod Bodies
pub mod LookedUp
pub mod Own
pub mod Walk
