mod Nearest
mod SharedNodes
