use Rattle.std.proofs.Common.{◌≡◌, drop}
use Rattle.es_lowered.specs.ClassNames.{any_among}
use Rattle.es_touches.proofs.throws.any_among.Given as goal

abbrev pub invariant-loop-number : goal.invariant-loop-number
invariant-loop-number l = any_among l.others (drop l.number-index l.numbers) ≡ any_among l.others l.numbers
