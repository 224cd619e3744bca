pub mod Clauses
pub mod Nodes
pub mod References
