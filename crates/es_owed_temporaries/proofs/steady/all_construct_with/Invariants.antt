use Rattle.std.proofs.Common.{◌≡◌, drop}
use Rattle.es_by_number.specs.Numbered.{pairs}
use Rattle.es_owed_temporaries.specs.Steady.{all_construct}
use Rattle.es_owed_temporaries.specs.Touches.{touches_all}
use Rattle.es_owed_temporaries.proofs.steady.all_construct_with.Given as goal

abbrev pub invariant-loop-touch : goal.invariant-loop-touch
invariant-loop-touch l = all_construct (pairs l.places.places.now) l.class (touches_all (drop l.touch-index l.touches)) ≡ all_construct (pairs l.places.places.now) l.class (touches_all l.touches)
