mod Linked
mod NameNodes
