use Rattle.std.proofs.Common.{◌≡◌, drop}
use Rattle.es_steps.specs.References.{has_number}
use Rattle.es_generated.proofs.numbers.has_number.Given as goal

abbrev pub invariant-loop-other : goal.invariant-loop-other
invariant-loop-other l = has_number l.number (drop l.other-index l.numbers) ≡ has_number l.number l.numbers
