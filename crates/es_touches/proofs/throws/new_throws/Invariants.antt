use Rattle.std.proofs.Common.{◌≡◌, ◌++◌, drop}
use Rattle.es_binding_faults.specs.Seen.{seen}
use Rattle.es_lowered.specs.DeadZones as spec
use Rattle.es_touches.proofs.throws.new_throws.Given as goal

abbrev pub invariant-loop-node : goal.invariant-loop-node
invariant-loop-node l = l.numbers.items ++ spec.new_throws l.first l.updates l.rights (seen (drop l.node-index l.nodes)) ≡ spec.new_throws l.first l.updates l.rights (seen l.nodes)
