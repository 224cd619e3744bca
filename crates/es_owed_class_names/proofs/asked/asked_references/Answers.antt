use Rattle.std.proofs.Common.{◌≡◌, ap, ◌∙◌}
use Rattle.es_base.specs.Preorder.{preorder}
use Rattle.es_binding_faults.proofs.Appending.{IfOk-map}
use Rattle.es_binding_faults.specs.Seen.{seen}
use Rattle.es_lowered.specs.ClassNames as spec
use Rattle.es_steps.specs.References.{resolve}
use Rattle.es_owed_references.specs.Moved.{functions_of}
use Rattle.es_owed_class_names.proofs.asked.asked_references.Goals as goal

pub returns : goal.returns
returns c =
    let lowering = c.args.lowering.now in
    let n = c.args.class in
    let q = lowering.lowered.now.program.now in
    let ledger = lowering.reads.ledger.now in
    let fs = functions_of c.args.functions.now in
    let names = c.args.names.now in
    IfOk-map c.without.result
    (λ r. r.items ≡ spec.without c.as_slice.result.now c.as_slice-2.result.now)
    (λ r. r.items ≡ spec.asked_references ledger q n fs names)
    (λ r is.
    is
    ∙ ap (λ ns. spec.without ns c.as_slice-2.result.now) (c.as_slice.ensures.value ∙ c.in_ok-inside.ensures)
    ∙ ap (λ ns. spec.without (spec.numbers_inside n (preorder q)) ns)
    (c.as_slice-2.ensures.value
    ∙ c.in_ok-outside.ensures
    ∙ ap (λ ns. spec.without_functions fs ns)
    (c.in_ok-reached.ensures
    ∙ ap (λ rs. spec.reaching ledger fs rs (seen lowering.reads.nodes.now) names) lowering.read_references_are
    ∙ ap (λ ts. spec.reaching ledger fs (resolve q) ts names) lowering.read_nodes_are))) c.without.ensures
