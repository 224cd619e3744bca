pub mod CopiedTexts
pub mod NameCharacters
pub mod WrittenNodes
