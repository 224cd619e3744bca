pub mod Hoisted
pub mod Leasts
pub mod Named
pub mod Seen
pub mod ScopeForms
pub mod Repeats
pub mod Evals
pub mod WholeProgram
