pub mod SpelledNames
