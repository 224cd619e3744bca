use Rattle.std.proofs.Common.{◌≡◌, ap, sym, ◌∙◌, ◌++◌, cond, true, []}
use Rattle.es_base.specs.Preorder.{number_of, preorder}
use Rattle.es_binding_faults.proofs.Appending.{OnOk-map}
use Rattle.es_by_number.specs.Numbered.{pairs}
use Rattle.es_lowered.specs.ClassNames.{common, numbers_of}
use Rattle.es_owed.proofs.Nodes.{number_of_node}
use Rattle.es_owed_class_names.specs.Holders.{each_held, held_by}
use Rattle.es_steps.specs.References.{has_number}
use Rattle.es_owed_class_names.proofs.holders.add_held.Goals as goal

pub returns : goal.returns
returns c =
    let functions = c.args.functions.now in
    let classes = c.args.classes.now in
    let t = c.args.node.now in
    let old = pairs c.args.items.now.items in
    let new = pairs c.add_each.new.items.items in
    let number = c.node_id-number.result.0 in
    let held = common classes (numbers_of (preorder t)) in
    let same : number ≡ number_of t = c.node_id-number.ensures ∙ sym (number_of_node t) in
    let is : has_number (number_of t) functions ≡ true = ap (λ n. has_number n functions) (sym same) ∙ sym c.has.ensures ∙ c.if-not-has.false in
    OnOk-map c.add_each.result
    (new ≡ old ++ each_held number c.as_slice.result.now)
    (new ≡ old ++ held_by functions classes t)
    (λ added.
    added
    ∙ ap (λ ns. old ++ each_held number ns) (c.as_slice.ensures.value ∙ c.in_ok-held.ensures)
    ∙ ap (λ n. old ++ each_held n held) same
    ∙ ap (λ b. old ++ cond b (each_held (number_of t) held) []) (sym is))
    c.add_each.ensures
