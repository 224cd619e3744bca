pub mod Laws
pub mod Printed
pub mod Suits
pub mod Typed
