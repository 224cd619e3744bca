use Rattle.std.proofs.Common.{◌≡◌, ◌++◌, drop}
use Rattle.es_lowered.specs.ClassNames.{without}
use Rattle.es_owed_class_names.proofs.lists.without_set.Given as goal

abbrev pub invariant-loop-number : goal.invariant-loop-number
invariant-loop-number l = l.rest.items ++ without l.others (drop l.number-index l.numbers) ≡ without l.others l.numbers
