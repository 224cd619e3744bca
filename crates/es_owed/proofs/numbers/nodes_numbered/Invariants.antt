use Rattle.std.proofs.Common.{◌≡◌, ◌++◌, drop, map}
use Rattle.es_base.specs.declared.ids.NodeId.{NodeId}
use Rattle.es_owed.proofs.numbers.nodes_numbered.Given as goal

abbrev pub invariant-loop-number : goal.invariant-loop-number
invariant-loop-number l = map (λ (x : NodeId). x.0) l.nodes.items ++ drop l.number-index l.numbers ≡ l.numbers
