pub mod AroundParts
pub mod ListHeads
