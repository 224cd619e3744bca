use Rattle.std.proofs.Common.{◌≡◌, ◌++◌, drop}
use Rattle.es_validity.specs.Facts.{repeats_of_all}
use Rattle.es_binding_faults.specs.Repeats.{numbers}
use Rattle.es_binding_faults.specs.Seen.{seen}
use Rattle.es_binding_faults.proofs.facts.repeats.Given as goal

abbrev pub invariant-loop-node : goal.invariant-loop-node
invariant-loop-node l = numbers l.found.items ++ repeats_of_all l.lexical l.branches (seen (drop l.node-index l.nodes)) ≡ repeats_of_all l.lexical l.branches (seen l.nodes)
