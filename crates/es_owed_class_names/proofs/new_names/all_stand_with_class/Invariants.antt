use Rattle.std.proofs.Common.{◌≡◌, drop}
use Rattle.std.specs.List.{list_all}
use Rattle.es_base.specs.Preorder.{preorder}
use Rattle.es_grouped.specs.Groups.{group}
use Rattle.es_lowered.specs.ClassNames as spec
use Rattle.es_owed_places.specs.Placed.{references_of}
use Rattle.es_owed_class_names.proofs.new_names.all_stand_with_class.Given as goal

abbrev pub invariant-loop-name : goal.invariant-loop-name
invariant-loop-name l =
    let of = list_all (λ k. spec.all_stand_with_class l.class l.inside (preorder l.lowering.holders.lowered.now.program.now) (references_of (group k l.lowering.placed))) in
    of (drop l.name-index l.names) ≡ of l.names
