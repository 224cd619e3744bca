use Rattle.std.proofs.Common.{◌≡◌, drop}
use Rattle.es_steps.specs.KeptNodes.{are_new_or_among}
use Rattle.es_owed.proofs.numbers.are_new_or_in.Given as goal

abbrev pub invariant-loop-number : goal.invariant-loop-number
invariant-loop-number l = are_new_or_among l.first l.there (drop l.number-index l.numbers) ≡ are_new_or_among l.first l.there l.numbers
