use Rattle.std.proofs.Common.{◌≡◌, ◌++◌, drop}
use Rattle.es_by_number.specs.Numbered.{numbered}
use Rattle.es_owed_temporaries.specs.Named.{numbered_touches}
use Rattle.es_owed_temporaries.specs.Touches.{touch_here, touches_all}
use Rattle.es_owed_temporaries.proofs.named_touches.with_numbers.Given as goal

abbrev pub invariant-loop-touch : goal.invariant-loop-touch
invariant-loop-touch l = numbered touch_here l.items.items ++ numbered_touches l.spellings (touches_all (drop l.touch-index l.touches)) ≡ numbered_touches l.spellings (touches_all l.touches)
