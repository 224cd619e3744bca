-- Calls that a lowering may have made, part by part.
use Rattle.std.specs.Prelude.{ℕ, Some}
use Rattle.es_base.specs.declared.ledger.GeneratedKind.{GeneratedKind}
use Rattle.es_steps.specs.Code.{Code, Codes, BodyOf, name, member, new_function, call, call_closure, super_call, plain, on_member}
use Rattle.es_steps.specs.Context.{Context, NameKind, Generated}
use Rattle.es_steps.specs.Expressions.{callee_of}
use Rattle.es_steps.specs.GeneratedForms.{new_function_call, new_member_call}
use Rattle.es_steps.specs.Values.{String}
use Rattle.es_code_generated_calls.specs.declared.call.NameCall.{NameCall}

-- what a name is called as
abbrev pub name_call : NameKind → NameCall
name_call (Generated GeneratedKind.Closure) = NameCall.Closure
name_call (Generated (GeneratedKind.SuperFn n)) = NameCall.SuperFunction n.0
name_call kind = NameCall.Other

-- of the name s of node k
abbrev pub name_called : ℕ → ℕ → String → NameKind → Codes → Code
name_called m k s (Generated GeneratedKind.Closure) es = call_closure s es
name_called m k s (Generated (GeneratedKind.SuperFn n)) es = super_call m n.0 (Some (BodyOf s)) es
name_called m k s kind es = call m (plain (name k s kind)) es

-- of what is neither a helper nor `super`
abbrev pub function_called : Context → ℕ → Code → Codes → Code
function_called c m (member k o key) es = new_member_call c m k o key es (call m (on_member k o key) es)
function_called c m (new_function f form ps body) es = new_function_call c form ps body es
function_called c m (name k s kind) es = name_called m k s kind es
function_called c m f es = call m (callee_of f) es
