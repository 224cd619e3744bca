use Rattle.std.proofs.Common.{◌≡◌, ◌∙◌, ap, map}
use Rattle.es_base.specs.Preorder.{number_of, preorder}
use Rattle.es_binding_faults.proofs.Appending.{IfOk-map}
use Rattle.es_binding_faults.specs.Seen.{seen}
use Rattle.es_lowered.specs.ClassNames as spec
use Rattle.es_owed_class_names.proofs.ClassNodes.{numbered, of_numbered}
use Rattle.es_owed_class_names.proofs.inside.numbers_of_class.Goals as goal

pub returns : goal.returns
returns c =
    let n = c.args.class in
    let listed = c.args.listed.now in
    let here = seen c.numbered.result.now in
    IfOk-map c.numbers_of.result
    (λ r. r.items ≡ map number_of (seen c.as_slice.result.now))
    (λ r. r.items ≡ spec.numbers_of_class n (preorder listed.program.now))
    (λ r is.
    is
    ∙ ap (λ xs. map number_of (seen xs)) c.as_slice.ensures.value
    ∙ ap (map number_of) c.in_ok-inner.ensures
    ∙ numbered n here
    ∙ ap (spec.numbers_of_class n) c.numbered.ensures
    ∙ of_numbered n (seen listed.nodes.items)
    ∙ ap (spec.numbers_of_class n) listed.in_preorder)
    c.numbers_of.ensures
