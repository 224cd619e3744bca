use Rattle.std.proofs.Common.{◌≡◌, ◌++◌, drop}
use Rattle.es_binding_faults.specs.Seen.{seen}
use Rattle.es_by_number.specs.Numbered.{pairs}
use Rattle.es_steps.specs.Meaning.{declared_functions}
use Rattle.es_declarations.proofs.functions.functions_among.Given as goal

abbrev pub invariant-loop-node : goal.invariant-loop-node
invariant-loop-node l = pairs l.functions.items ++ declared_functions l.ledger (seen (drop l.node-index l.nodes)) ≡ declared_functions l.ledger (seen l.nodes)
