mod Declarings
mod FunctionNodes
mod ScriptNames
