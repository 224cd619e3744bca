pub mod Comparisons
pub mod EndForms
