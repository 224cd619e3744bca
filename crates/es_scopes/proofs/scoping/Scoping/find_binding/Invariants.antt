use Rattle.std.proofs.Common.{◌≡◌}
use Rattle.std.specs.List.{AllByRecursion}
use Rattle.std.specs.Str.{chars}
use Rattle.es_scopes.specs.Table.{HasScope, find_binding, first_binding}
use Rattle.es_scopes.proofs.scoping.Scoping.find_binding.Given as goal

-- what is looked for is in the scopes to come, which are of the table
abbrev pub invariant-loop-scope : goal.invariant-loop-scope
invariant-loop-scope l =
    (goal.iterator-loop-scope).can_next l.scope-iterator ×
    (goal.iterator-loop-scope).is_finite l.scope-iterator ×
    (find_binding l.self l.fn.scope_id (chars l.name) ≡ first_binding l.self (chars l.name) l.scope-iterator) ×
    AllByRecursion (HasScope l.self) l.scope-iterator
