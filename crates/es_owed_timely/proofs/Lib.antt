pub mod CalledByClass
pub mod NeededNames
pub mod OwnMarks
pub mod SuperCalls
pub mod WalkedMarks
