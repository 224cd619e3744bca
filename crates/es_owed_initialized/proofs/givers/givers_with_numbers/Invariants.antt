use Rattle.std.proofs.Common.{◌≡◌, ◌++◌, drop}
use Rattle.es_by_number.specs.Numbered.{pairs}
use Rattle.es_owed_initialized.specs.Givers.{numbered_givers}
use Rattle.es_owed_initialized.proofs.givers.givers_with_numbers.Given as goal

abbrev pub invariant-loop-node : goal.invariant-loop-node
invariant-loop-node l = pairs l.items.items ++ numbered_givers l.spellings (drop l.node-index l.nodes) ≡ numbered_givers l.spellings l.nodes
