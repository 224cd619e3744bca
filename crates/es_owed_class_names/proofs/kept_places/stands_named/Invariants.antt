use Rattle.std.proofs.Common.{◌≡◌, drop}
use Rattle.es_grouped.specs.Groups.{group}
use Rattle.es_owed_places.specs.Placed.{reference_of, references_of}
use Rattle.es_owed_class_names.specs.KeptPlaces.{stands_named}
use Rattle.es_owed_class_names.proofs.kept_places.stands_named.Given as goal

abbrev pub invariant-loop-name : goal.invariant-loop-name
invariant-loop-name l = stands_named l.first (drop l.name-index l.names) (λ k. references_of (group k l.source)) (reference_of l.reference) ≡ stands_named l.first l.names (λ k. references_of (group k l.source)) (reference_of l.reference)
