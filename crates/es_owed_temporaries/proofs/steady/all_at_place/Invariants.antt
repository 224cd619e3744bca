use Rattle.std.proofs.Common.{◌≡◌, drop}
use Rattle.es_owed_temporaries.specs.Steady.{all_of}
use Rattle.es_owed_temporaries.specs.Touches.{touches_all}
use Rattle.es_owed_temporaries.proofs.steady.all_at_place.Given as goal

abbrev pub invariant-loop-touch : goal.invariant-loop-touch
invariant-loop-touch l = all_of l.place (touches_all (drop l.touch-index l.touches)) ≡ all_of l.place (touches_all l.touches)
