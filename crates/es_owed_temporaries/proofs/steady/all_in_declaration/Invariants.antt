use Rattle.std.proofs.Common.{◌≡◌, drop}
use Rattle.es_owed_temporaries.specs.Steady.{all_in}
use Rattle.es_owed_temporaries.specs.Touches.{touches_all}
use Rattle.es_owed_temporaries.proofs.steady.all_in_declaration.Given as goal

abbrev pub invariant-loop-touch : goal.invariant-loop-touch
invariant-loop-touch l = all_in l.declaration (touches_all (drop l.touch-index l.touches)) ≡ all_in l.declaration (touches_all l.touches)
