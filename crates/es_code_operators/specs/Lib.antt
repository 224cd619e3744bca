pub mod Chained
pub mod Deleting
pub mod Operands
pub mod Quiet
