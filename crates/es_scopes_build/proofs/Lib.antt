pub mod Stripped
pub mod WalkLemmas
pub mod WriteLemmas
pub mod BuildLemmas
