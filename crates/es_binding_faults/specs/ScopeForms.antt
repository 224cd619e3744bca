-- The kinds of scopes in code, and the names of one statement of a body.
use Rattle.std.specs.Prelude.{List, ◌++◌}
use Rattle.es_base.specs.Tree.{Part}
use Rattle.es_steps.specs.Scopes as spec
use Rattle.es_steps.specs.Scopes.{Declaration}
use Rattle.es_binding_faults.specs.Hoisted.{hoisted_part}
use Rattle.es_binding_faults.specs.declared.hoisted.Hoist.{Hoist}
use Rattle.es_binding_faults.specs.declared.scopes.ScopeForm.{ScopeForm}

abbrev pub scope_of : ScopeForm → spec.ScopeForm
scope_of ScopeForm.Program = spec.program_scope
scope_of ScopeForm.Function = spec.function_scope
scope_of ScopeForm.OwnFunction = spec.own_function_scope
scope_of ScopeForm.Arrow = spec.arrow_scope
scope_of ScopeForm.OwnClass = spec.own_class_scope
scope_of ScopeForm.Block = spec.block_scope
scope_of ScopeForm.StaticBlock = spec.static_block_scope
scope_of ScopeForm.Loop = spec.loop_scope
scope_of ScopeForm.Switch = spec.switch_scope
scope_of ScopeForm.Catch = spec.catch_scope
scope_of ScopeForm.None = spec.no_scope

abbrev pub body_item : Part → List Declaration
body_item p = hoisted_part Hoist.Lexical p ++ hoisted_part Hoist.Var p
