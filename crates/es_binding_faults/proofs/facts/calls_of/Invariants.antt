use Rattle.std.proofs.Common.{◌≡◌, ◌++◌, drop}
use Rattle.es_validity.specs.Facts.{eval_calls_of_all}
use Rattle.es_binding_faults.specs.Repeats.{numbers}
use Rattle.es_binding_faults.specs.Seen.{seen}
use Rattle.es_binding_faults.proofs.facts.calls_of.Given as goal

abbrev pub invariant-loop-node : goal.invariant-loop-node
invariant-loop-node l = numbers l.found.items ++ eval_calls_of_all l.evals (seen (drop l.node-index l.nodes)) ≡ eval_calls_of_all l.evals (seen l.nodes)
