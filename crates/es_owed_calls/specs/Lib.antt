pub mod Conversions
pub mod KeptKeys
pub mod KeyForms
pub mod Namings
pub mod StaticKeys
pub mod Strings
pub mod Tests
