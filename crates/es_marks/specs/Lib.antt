pub mod Around
pub mod InTime
pub mod Located
pub mod Marks
pub mod MethodFunctions
pub mod Named
pub mod Needing
