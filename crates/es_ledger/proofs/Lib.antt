mod Signs
mod Written
