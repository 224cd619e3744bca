use Rattle.std.proofs.Common.{ap, ◌∙◌}
use Rattle.es_steps.specs.References.{has_number}
use Rattle.es_validity.specs.Facts.{lexical_identifiers, branch_names}
use Rattle.es_binding_faults.proofs.Appending.{IfOk-map}
use Rattle.es_binding_faults.proofs.WholeNames.{repeats-same}
use Rattle.es_binding_faults.specs.Repeats.{numbers}
use Rattle.es_binding_faults.specs.Seen.{seen}
use Rattle.es_binding_faults.proofs.facts.repeated_names.Goals as goal

pub returns : goal.returns
returns c =
    let ts = seen c.args.nodes.now in
    IfOk-map c.repeats.result _ _ (λ r is. is ∙ repeats-same _ _ (lexical_identifiers ts) (branch_names ts)
    (λ n. c.in_ok-lexical-2.ensures n ∙ ap (λ ns. has_number n (numbers ns)) c.as_slice.ensures.value ∙ ap (has_number n) c.in_ok-lexical.ensures)
    (λ n. c.in_ok-branches-2.ensures n ∙ ap (λ ns. has_number n (numbers ns)) c.as_slice-2.ensures.value ∙ ap (has_number n) c.in_ok-branches.ensures) ts) c.repeats.ensures
