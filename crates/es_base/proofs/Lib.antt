pub mod Ascii
pub mod Conformity
pub mod FreshNumbers
pub mod NumberedLemmas
pub mod PreorderLemmas
pub mod Spelled
pub mod Spelling
pub mod WordLemmas
