pub mod InnerNames
pub mod Placed
pub mod StrayNames
pub mod SuperPlaces
