use Rattle.std.proofs.Common.{◌≡◌, drop}
use Rattle.es_binding_faults.specs.Seen.{seen}
use Rattle.es_steps.specs.KeptNodes.{numbers_in_class}
use Rattle.es_owed.proofs.classes.body_of_class.Given as goal

abbrev pub invariant-loop-node : goal.invariant-loop-node
invariant-loop-node l = numbers_in_class l.class (seen (drop l.node-index l.nodes)) ≡ numbers_in_class l.class (seen l.nodes)
