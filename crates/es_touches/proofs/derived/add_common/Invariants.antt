use Rattle.std.proofs.Common.{◌≡◌, ◌++◌, drop}
use Rattle.es_lowered.specs.ClassNames as lists
use Rattle.es_touches.proofs.derived.add_common.Given as goal

abbrev pub invariant-loop-number : goal.invariant-loop-number
invariant-loop-number l = l.common.items ++ lists.common l.others (drop l.number-index l.numbers) ≡ l.fn.common.items ++ lists.common l.others l.numbers
