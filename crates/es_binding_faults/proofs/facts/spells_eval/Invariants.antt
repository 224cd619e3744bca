use Rattle.std.proofs.Common.{◌≡◌, drop}
use Rattle.es_binding_faults.specs.Evals.{spells_eval}
use Rattle.es_binding_faults.specs.Seen.{seen}
use Rattle.es_binding_faults.proofs.facts.spells_eval.Given as goal

abbrev pub invariant-loop-node : goal.invariant-loop-node
invariant-loop-node l = spells_eval (seen (drop l.node-index l.nodes)) ≡ spells_eval (seen l.nodes)
