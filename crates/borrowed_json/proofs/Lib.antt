pub mod Agreement
pub mod Borrowing
pub mod Depths
pub mod Found
pub mod InOrder
pub mod Turns
