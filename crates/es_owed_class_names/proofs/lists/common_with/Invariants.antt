use Rattle.std.proofs.Common.{◌≡◌, ◌++◌, drop}
use Rattle.es_lowered.specs.ClassNames.{common}
use Rattle.es_owed_class_names.proofs.lists.common_with.Given as goal

abbrev pub invariant-loop-number : goal.invariant-loop-number
invariant-loop-number l = l.both.items ++ common l.others (drop l.number-index l.numbers) ≡ common l.others l.numbers
