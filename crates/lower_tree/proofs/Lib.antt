pub mod BuiltProgram
