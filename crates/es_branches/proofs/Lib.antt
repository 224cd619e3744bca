pub mod Branching
