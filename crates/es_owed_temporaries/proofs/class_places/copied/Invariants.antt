use Rattle.std.proofs.Common.{◌≡◌, ◌++◌, drop}
use Rattle.es_by_number.specs.Numbered.{pairs}
use Rattle.es_owed_temporaries.proofs.class_places.copied.Given as goal

abbrev pub invariant-loop-place : goal.invariant-loop-place
invariant-loop-place l = pairs l.items.items ++ pairs (drop l.place-index l.places) ≡ pairs l.places
