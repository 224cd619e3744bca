pub mod Assumptions
