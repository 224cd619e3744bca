use Rattle.std.proofs.Common.{◌≡◌, ◌++◌, drop}
use Rattle.std.specs.Str.{chars}
use Rattle.es_lowered.specs.Temporaries.{chosen}
use Rattle.es_owed_temporaries.specs.Steady.{test_of}
use Rattle.es_owed_temporaries.specs.Touches.{touches_all}
use Rattle.es_owed_temporaries.proofs.steady.chosen_among.Given as goal

abbrev pub invariant-loop-touch : goal.invariant-loop-touch
invariant-loop-touch l = touches_all l.chosen.items ++ chosen (test_of l.used) (chars l.name) (touches_all (drop l.touch-index l.touches)) ≡ chosen (test_of l.used) (chars l.name) (touches_all l.touches)
