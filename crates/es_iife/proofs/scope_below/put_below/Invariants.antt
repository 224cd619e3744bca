use Rattle.std.proofs.Common.{◌≡◌, All, drop}
use Rattle.es_iife.specs.ScopeBelow.{CanStandBelow, with_parents}
use Rattle.es_scopes.specs.Table.{HasScope}
use Rattle.es_iife.proofs.scope_below.put_below.Given as goal

abbrev pub invariant-loop-scope : goal.invariant-loop-scope
invariant-loop-scope l = (with_parents l.parent (drop l.scope-index l.scopes) l.scoping ≡ with_parents l.parent l.scopes l.initial.scoping) × HasScope l.scoping l.parent × All (CanStandBelow l.scoping l.parent) l.scopes
