use Rattle.std.proofs.Common.{◌∙◌, ◌||◌, [], cond, ap}
use Rattle.es_binding_faults.proofs.Appending.{OnOk-map}
use Rattle.es_binding_faults.proofs.HasNumbers.{has_number-append}
use Rattle.es_node.specs.View.{kind_of, parts_in}
use Rattle.es_steps.specs.Parts.{at}
use Rattle.es_steps.specs.References.{has_number, is_for_each, numbers_of}
use Rattle.es_steps.specs.Scopes.{var_part}
use Rattle.es_outside.proofs.DeclaredNames.{written_numbers}
use Rattle.es_references.specs.Frames.{ids}
use Rattle.es_outside.proofs.changing.add_redeclared.Goals as goal

pub returns : goal.returns
returns c =
    let node = c.args.node.now in
    let heads = cond (is_for_each (kind_of node)) (numbers_of (var_part (at 0 (parts_in node)))) [] in
    OnOk-map c.add_heads.result _ _ (λ e n.
    ap (has_number n) e
    ∙ has_number-append n (ids c.add_repeated_in.new.bindings.items) heads
    ∙ ap (λ b. b || has_number n heads) (c.in_ok-add_repeated_in.ensures n)
    ∙ written_numbers n node (has_number n (ids c.args.bindings.now.items))) c.add_heads.ensures
