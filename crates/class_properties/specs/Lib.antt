pub mod Form
pub mod Least
pub mod Lowering
pub mod Options
pub mod Transform
