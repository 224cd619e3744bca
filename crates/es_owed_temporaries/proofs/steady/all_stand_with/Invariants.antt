use Rattle.std.proofs.Common.{◌≡◌, drop}
use Rattle.std.specs.Option.{option_to_list}
use Rattle.es_by_number.specs.Numbered.{pairs}
use Rattle.es_owed_temporaries.specs.Steady.{all_stand}
use Rattle.es_owed_temporaries.specs.Touches.{touches_all}
use Rattle.es_owed_temporaries.proofs.steady.all_stand_with.Given as goal

abbrev pub invariant-loop-touch : goal.invariant-loop-touch
invariant-loop-touch l = all_stand (pairs l.places.places.now) (option_to_list l.class) (touches_all (drop l.touch-index l.touches)) ≡ all_stand (pairs l.places.places.now) (option_to_list l.class) (touches_all l.touches)
