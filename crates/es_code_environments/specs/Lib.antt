pub mod Classes
pub mod FlatEntries
pub mod Parts
pub mod Results
pub mod Standing
