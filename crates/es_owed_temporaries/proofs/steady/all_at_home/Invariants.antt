use Rattle.std.proofs.Common.{◌≡◌, drop}
use Rattle.es_owed_temporaries.specs.Steady.{all_of_home}
use Rattle.es_owed_temporaries.specs.Touches.{touches_all}
use Rattle.es_owed_temporaries.proofs.steady.all_at_home.Given as goal

abbrev pub invariant-loop-touch : goal.invariant-loop-touch
invariant-loop-touch l = all_of_home l.home (touches_all (drop l.touch-index l.touches)) ≡ all_of_home l.home (touches_all l.touches)
