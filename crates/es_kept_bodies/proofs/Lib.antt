pub mod IndexedBodies
pub mod KeptBodies
pub mod SameTouches
