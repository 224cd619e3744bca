use Rattle.std.proofs.Common.{◌≡◌, ◌++◌, drop}
use Rattle.es_binding_faults.specs.Seen.{seen}
use Rattle.es_steps.specs.ClassHeads.{named_among}
use Rattle.es_named_classes.proofs.named_classes.named_among.Given as goal

abbrev pub invariant-loop-node : goal.invariant-loop-node
invariant-loop-node l = l.found.items ++ named_among (seen (drop l.node-index l.nodes)) ≡ named_among (seen l.nodes)
