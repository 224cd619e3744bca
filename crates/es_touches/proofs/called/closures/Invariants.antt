use Rattle.std.proofs.Common.{◌≡◌, ◌++◌, drop}
use Rattle.es_binding_faults.specs.Seen.{seen}
use Rattle.es_lowered.specs.DeadZones as spec
use Rattle.es_touches.specs.Touches.{closures_of}
use Rattle.es_touches.proofs.called.closures.Given as goal

abbrev pub invariant-loop-node : goal.invariant-loop-node
invariant-loop-node l = closures_of l.closures.items ++ spec.closures l.ledger (seen (drop l.node-index l.nodes)) ≡ spec.closures l.ledger (seen l.nodes)
