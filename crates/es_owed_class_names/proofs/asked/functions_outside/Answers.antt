use Rattle.std.proofs.Common.{◌≡◌, ap, ◌∙◌, ◌∷◌}
use Rattle.es_base.specs.Preorder.{preorder}
use Rattle.es_binding_faults.proofs.Appending.{IfOk-map}
use Rattle.es_binding_faults.specs.Seen.{seen}
use Rattle.es_lowered.specs.ClassNames as spec
use Rattle.es_lowered.specs.ClassNames.{moved_functions, numbers_inside, outside_class}
use Rattle.es_owed_references.specs.Moved.{functions_of}
use Rattle.es_owed_class_names.proofs.asked.functions_outside.Goals as goal

pub returns : goal.returns
returns c =
    let lowering = c.args.lowering.now in
    let n = c.args.class in
    let ledger = lowering.reads.ledger.now in
    let q = lowering.lowered.now.program.now in
    IfOk-map c.functions_outside.result
    (λ r. functions_of r.items ≡ outside_class c.as_slice-2.result.now (moved_functions ledger (seen lowering.reads.nodes.now)))
    (λ r. functions_of r.items ≡ spec.functions_outside ledger q n)
    (λ r is.
    is
    ∙ ap (λ ns. outside_class ns (moved_functions ledger (seen lowering.reads.nodes.now))) (c.as_slice-2.ensures.value ∙ c.in_ok-inside.ensures ∙ ap (λ ns. n ∷ ns) (c.as_slice.ensures.value ∙ c.in_ok-elements.ensures))
    ∙ ap (λ ts. outside_class (n ∷ numbers_inside n (preorder q)) (moved_functions ledger ts)) lowering.read_nodes_are) c.functions_outside.ensures
