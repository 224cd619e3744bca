mod Counted
mod Fresh
