pub mod ReferenceNumbers
