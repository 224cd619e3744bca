pub mod Class
pub mod Function
pub mod Module
pub mod Pattern
