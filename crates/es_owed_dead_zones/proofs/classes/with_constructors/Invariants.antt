use Rattle.std.proofs.Common.{◌≡◌, ◌++◌, drop}
use Rattle.es_by_number.specs.Numbered.{pairs}
use Rattle.es_owed_dead_zones.specs.LookedUp.{with_constructors}
use Rattle.es_owed_dead_zones.proofs.classes.with_constructors.Given as goal

abbrev pub invariant-loop-node : goal.invariant-loop-node
invariant-loop-node l = pairs l.items.items ++ with_constructors (drop l.node-index l.nodes) ≡ with_constructors l.nodes
