use Rattle.std.proofs.Common.{◌≡◌, drop}
use Rattle.std.specs.List.{list_all}
use Rattle.es_grouped.specs.Groups.{group}
use Rattle.es_owed_places.specs.Placed.{references_of}
use Rattle.es_owed_class_names.specs.KeptPlaces.{stands_own}
use Rattle.es_owed_class_names.proofs.kept_places.stand_own.Given as goal

abbrev pub invariant-loop-reference : goal.invariant-loop-reference
invariant-loop-reference l =
    let of = list_all (stands_own l.first l.names (λ k. references_of (group k l.source))) in
    of (references_of (drop l.reference-index l.references)) ≡ of (references_of l.references)
