use Rattle.std.proofs.Common.{◌≡◌, drop}
use Rattle.es_binding_faults.specs.Seen.{seen}
use Rattle.es_lowered.specs.DeadZones as spec
use Rattle.es_touches.proofs.derived.constructs.Given as goal

abbrev pub invariant-loop-node : goal.invariant-loop-node
invariant-loop-node l = spec.constructs l.function (seen (drop l.node-index l.nodes)) ≡ spec.constructs l.function (seen l.nodes)
