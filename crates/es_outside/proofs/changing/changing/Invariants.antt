use Rattle.std.proofs.Common.{◌≡◌, ◌++◌, drop}
use Rattle.es_binding_faults.specs.Seen.{seen}
use Rattle.es_steps.specs.References.{changing_in}
use Rattle.es_references.specs.Frames.{ids}
use Rattle.es_outside.proofs.changing.changing.Given as goal

abbrev pub invariant-loop-node : goal.invariant-loop-node
invariant-loop-node l = ids l.bindings.items ++ changing_in (seen (drop l.node-index l.nodes)) ≡ changing_in (seen l.nodes)
