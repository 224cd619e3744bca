use Rattle.std.proofs.Common.{◌≡◌, drop, map}
use Rattle.es_validity.specs.Faults.{first_with, fault_at}
use Rattle.es_validity.specs.Found.{found}
use Rattle.es_validity.proofs.first.each.Given as goal

abbrev pub invariant-loop-node : goal.invariant-loop-node
invariant-loop-node l = first_with (found l.first) (map (fault_at l.cause) (map (λ n. n.0) (drop l.node-index l.nodes))) ≡ first_with (found l.initial.first) (map (fault_at l.cause) (map (λ n. n.0) l.nodes))
