pub mod BoundKinds
pub mod BoundNodes
pub mod CarriedNodes
pub mod KeptParts
pub mod LoweredTargets
pub mod OddForms
pub mod PairSets
pub mod Optional
