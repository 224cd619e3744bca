pub mod Inside
pub mod Leading
