use Rattle.std.proofs.Common.{◌≡◌, ◌∙◌, ap}
use Rattle.es_binding_faults.proofs.Appending.{IfOk-map}
use Rattle.es_binding_faults.specs.Seen.{seen}
use Rattle.es_base.specs.Preorder.{preorder}
use Rattle.es_lowered.specs.ClassNames as spec
use Rattle.es_owed_class_names.proofs.ClassNodes.{inside_numbered}
use Rattle.es_owed_class_names.proofs.inside.numbers_inside.Goals as goal

pub returns : goal.returns
returns c =
    let n = c.args.class in
    let listed = c.args.listed.now in
    IfOk-map c.numbers_inside_any.result
    (λ r. r.items ≡ spec.numbers_inside n (seen c.numbered.result.now))
    (λ r. r.items ≡ spec.numbers_inside n (preorder listed.program.now))
    (λ r is.
    is
    ∙ ap (spec.numbers_inside n) c.numbered.ensures
    ∙ inside_numbered n (seen listed.nodes.items)
    ∙ ap (spec.numbers_inside n) listed.in_preorder)
    c.numbers_inside_any.ensures
