use Rattle.std.proofs.Common.{◌≡◌, None, drop}
use Rattle.es_binding_faults.specs.Seen.{seen}
use Rattle.es_owed_initialized.specs.Order.{first_of_all}
use Rattle.es_owed_initialized.proofs.private_classes.first_of_all.Given as goal

abbrev pub invariant-loop-number : goal.invariant-loop-number
invariant-loop-number l = first_of_all l.first (drop l.number-index l.numbers) (seen l.names.lowered.now.nodes.items) ≡ first_of_all None l.numbers (seen l.names.lowered.now.nodes.items)
