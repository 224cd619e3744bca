use Rattle.std.proofs.Common.{◌≡◌, drop}
use Rattle.es_lowered.specs.Temporaries.{is_near}
use Rattle.es_owed_temporaries.specs.Touches.{touches_all}
use Rattle.es_owed_temporaries.proofs.steady.is_near.Given as goal

abbrev pub invariant-loop-declaration : goal.invariant-loop-declaration
invariant-loop-declaration l = is_near (touches_all (drop l.declaration-index l.declarations)) (touches_all l.gifts) ≡ is_near (touches_all l.declarations) (touches_all l.gifts)
