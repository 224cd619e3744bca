use Rattle.std.proofs.Common.{◌≡◌, drop}
use Rattle.es_base.specs.Preorder.{preorder}
use Rattle.es_lowered.specs.ClassNames as spec
use Rattle.es_owed_places.specs.Placed.{references_of}
use Rattle.es_owed_class_names.proofs.new_names.stand_with_class.Given as goal

abbrev pub invariant-loop-reference : goal.invariant-loop-reference
invariant-loop-reference l =
    let of = spec.all_stand_with_class l.class l.inside (preorder l.holders.lowered.now.program.now) in
    of (references_of (drop l.reference-index l.references)) ≡ of (references_of l.references)
