pub mod PlaceNumbers
pub mod PrivateReads
pub mod SteadyKinds
pub mod TouchNumbers
pub mod TouchesAround
