pub mod ClassLets
pub mod DefaultExports
pub mod HeadNames
pub mod NodeNumbers
