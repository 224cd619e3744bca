pub mod Bare
pub mod Changed
pub mod Law
pub mod Meetings
pub mod Order
pub mod Reading
pub mod Roles
pub mod Visited
