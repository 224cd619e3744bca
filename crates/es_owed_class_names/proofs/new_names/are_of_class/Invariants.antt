use Rattle.std.proofs.Common.{◌≡◌, drop}
use Rattle.es_base.specs.Preorder.{preorder}
use Rattle.es_lowered.specs.ClassNames as spec
use Rattle.es_owed_places.specs.Placed.{part_pairs}
use Rattle.es_owed_class_names.proofs.new_names.are_of_class.Given as goal

abbrev pub invariant-loop-part : goal.invariant-loop-part
invariant-loop-part l =
    let of = spec.are_of_class l.class l.inside (preorder l.holders.lowered.now.program.now) in
    of (part_pairs (drop l.part-index l.functions)) ≡ of (part_pairs l.functions)
