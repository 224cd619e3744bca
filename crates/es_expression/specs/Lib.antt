pub mod Expression
pub mod Identifier
pub mod Literal
