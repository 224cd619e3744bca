use Rattle.std.proofs.Common.{◌≡◌, drop}
use Rattle.es_lowered.specs.FunctionsAround.{all_stand_where}
use Rattle.es_owed_places.specs.Placed.{references_of}
use Rattle.es_owed_places.proofs.same_places.all_stand_where.Given as goal

abbrev pub invariant-loop-reference : goal.invariant-loop-reference
invariant-loop-reference l = all_stand_where l.first (references_of (drop l.reference-index l.references)) (references_of l.others) ≡ all_stand_where l.first (references_of l.references) (references_of l.others)
