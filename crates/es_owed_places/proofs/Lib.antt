pub mod GivenNames
pub mod PlacedNodes
pub mod StrayNames
pub mod SuperPlaces
pub mod WrittenNames
