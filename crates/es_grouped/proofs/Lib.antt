pub mod Adding
pub mod Having
pub mod SideBySide
