pub mod ConstantForms
pub mod KeyDetails
pub mod Numbers
pub mod Rests
pub mod Taking
pub mod Written
