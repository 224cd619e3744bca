pub mod Bodies
pub mod Declaring
pub mod ElementForms
pub mod FunctionNames
pub mod Methods
pub mod Returns
