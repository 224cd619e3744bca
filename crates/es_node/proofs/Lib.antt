pub mod Below
pub mod Shapes
pub mod Renumbered
pub mod KindRules
pub mod Rows
