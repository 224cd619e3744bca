pub mod Causes
pub mod Forms
pub mod Owed
pub mod Rising
pub mod Trees
pub mod Written
