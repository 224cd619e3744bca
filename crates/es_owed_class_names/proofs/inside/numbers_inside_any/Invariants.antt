use Rattle.std.proofs.Common.{◌≡◌, ◌++◌, drop}
use Rattle.es_binding_faults.specs.Seen.{seen}
use Rattle.es_lowered.specs.ClassNames.{numbers_inside}
use Rattle.es_owed_class_names.proofs.inside.numbers_inside_any.Given as goal

abbrev pub invariant-loop-node : goal.invariant-loop-node
invariant-loop-node l = l.numbers.items ++ numbers_inside l.class (seen (drop l.node-index l.nodes)) ≡ numbers_inside l.class (seen l.nodes)
