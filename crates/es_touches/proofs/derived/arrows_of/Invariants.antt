use Rattle.std.proofs.Common.{◌≡◌, ◌++◌, drop}
use Rattle.es_binding_faults.specs.Seen.{seen}
use Rattle.es_lowered.specs.DeadZones as spec
use Rattle.es_touches.proofs.derived.arrows_of.Given as goal

abbrev pub invariant-loop-node : goal.invariant-loop-node
invariant-loop-node l = l.numbers.items ++ spec.derived_arrows l.constructors (seen (drop l.node-index l.nodes)) ≡ spec.derived_arrows l.constructors (seen l.nodes)
