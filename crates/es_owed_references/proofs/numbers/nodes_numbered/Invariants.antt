use Rattle.std.proofs.Common.{◌≡◌, ◌++◌, drop}
use Rattle.es_references.specs.Frames.{ids}
use Rattle.es_owed_references.proofs.numbers.nodes_numbered.Given as goal

abbrev pub invariant-loop-number : goal.invariant-loop-number
invariant-loop-number l = ids l.nodes.items ++ drop l.number-index l.numbers ≡ l.numbers
