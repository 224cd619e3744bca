use Rattle.std.proofs.Common.{ap, ◌∙◌}
use Rattle.std.specs.List.{list_any}
use Rattle.es_base.specs.Preorder.{preorder}
use Rattle.es_base.specs.Tree.{Tree}
use Rattle.es_binding_faults.specs.Seen.{seen}
use Rattle.es_lowered.specs.ClassNames as spec
use Rattle.es_steps.specs.References.{has_number}
use Rattle.es_owed_class_names.proofs.NewNames.{held_numbered}
use Rattle.es_owed_class_names.proofs.holders.any_holding.Goals as goal

pub returns : goal.returns
returns c =
    let n = c.args.class in
    let k = c.args.number in
    let lowered = c.args.lowered.now in
    c.any_holds.ensures
    ∙ ap (list_any (λ (t : Tree). has_number n (spec.numbers_of (preorder t)))) c.numbered.ensures
    ∙ held_numbered k n (seen lowered.nodes.items)
    ∙ ap (spec.holds_class k n) lowered.in_preorder
