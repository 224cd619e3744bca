use Rattle.std.proofs.Common.{◌≡◌}
use Rattle.es_ctx.specs.ScopesAround.{hoist_scope_from}
use Rattle.es_ctx.proofs.scopes.hoist_scope_from.Given as goal

-- what is looked for is in the places to come
abbrev pub invariant-loop-ancestor : goal.invariant-loop-ancestor
invariant-loop-ancestor l =
    (goal.iterator-loop-ancestor).can_next l.ancestor-iterator ×
    (goal.iterator-loop-ancestor).is_finite l.ancestor-iterator ×
    (hoist_scope_from l.fn.here l.fn.around ≡ hoist_scope_from l.inside l.ancestor-iterator)
