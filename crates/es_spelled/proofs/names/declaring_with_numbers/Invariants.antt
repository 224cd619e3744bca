use Rattle.std.proofs.Common.{◌≡◌, ◌++◌, drop}
use Rattle.es_by_number.specs.Numbered.{pairs}
use Rattle.es_spelled.specs.Spelled.{numbered_declaring}
use Rattle.es_spelled.proofs.names.declaring_with_numbers.Given as goal

abbrev pub invariant-loop-node : goal.invariant-loop-node
invariant-loop-node l = pairs l.items.items ++ numbered_declaring l.spellings (drop l.node-index l.nodes) ≡ numbered_declaring l.spellings l.nodes
