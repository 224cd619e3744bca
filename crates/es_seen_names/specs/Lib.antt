pub mod Declarations
pub mod Firsts
pub mod Frames
pub mod Items
pub mod PrivateMembers
pub mod Sides
pub mod Statements
pub mod SuperCalls
