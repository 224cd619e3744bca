use Rattle.std.proofs.Common.{◌≡◌, drop}
use Rattle.es_lowered.specs.FunctionsAround.{stands_where}
use Rattle.es_owed_places.specs.Placed.{reference_of, references_of}
use Rattle.es_owed_places.proofs.same_places.stands_where.Given as goal

abbrev pub invariant-loop-other : goal.invariant-loop-other
invariant-loop-other l = stands_where l.first (reference_of l.reference) (references_of (drop l.other-index l.others)) ≡ stands_where l.first (reference_of l.reference) (references_of l.others)
