pub mod Accounts
pub mod Declarations
pub mod OwnClassNames
pub mod SingleNames
