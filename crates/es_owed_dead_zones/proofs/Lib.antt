pub mod BodiesOfNodes
pub mod LookedUpByNumber
pub mod OwnTouches
pub mod Spots
pub mod Walked
