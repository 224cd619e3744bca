pub mod FirstForm
pub mod Lines
pub mod Lowering
pub mod Outcome
