use Rattle.std.proofs.Common.{◌≡◌, ◌++◌, drop}
use Rattle.es_binding_faults.specs.Seen.{seen}
use Rattle.es_lowered.specs.ClassNames.{moved_functions}
use Rattle.es_owed_references.specs.Moved.{functions_of}
use Rattle.es_owed_references.proofs.moved.moved_functions.Given as goal

abbrev pub invariant-loop-node : goal.invariant-loop-node
invariant-loop-node l = functions_of l.functions.items ++ moved_functions l.ledger (seen (drop l.node-index l.nodes)) ≡ moved_functions l.ledger (seen l.nodes)
