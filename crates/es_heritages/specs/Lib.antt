pub mod Agreement
pub mod Programs
