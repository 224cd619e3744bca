pub mod HeldFunctions
pub mod InTime
pub mod Named
pub mod NeedingNames
