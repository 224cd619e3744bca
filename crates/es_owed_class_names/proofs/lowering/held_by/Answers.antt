use Rattle.std.proofs.Common.{◌≡◌, ap, ◌∙◌, ℕ}
use Rattle.es_binding_faults.proofs.Appending.{IfOk-map}
use Rattle.es_binding_faults.specs.Seen.{seen}
use Rattle.es_lowered.specs.ClassNames.{moved_functions}
use Rattle.es_owed_references.specs.Moved.{functions_of}
use Rattle.es_steps.specs.References.{has_number}
use Rattle.es_owed_class_names.specs.HeldNumbers.{held_numbers}
use Rattle.es_owed_class_names.proofs.lowering.held_by.Goals as goal

pub returns : goal.returns
returns c =
    let reads = c.args.reads.now in
    IfOk-map c.set_of.result
    (λ r. (k : ℕ) → has_number k r ≡ has_number k c.as_slice-2.result.now)
    (λ r. (k : ℕ) → has_number k r ≡ has_number k (held_numbers (moved_functions reads.ledger.now (seen reads.nodes.now))))
    (λ r is k.
    is k
    ∙ ap (has_number k)
    (c.as_slice-2.ensures.value
    ∙ c.in_ok-numbers.ensures
    ∙ ap (λ fs. held_numbers (functions_of fs)) c.as_slice.ensures.value
    ∙ ap held_numbers reads.functions_are))
    c.set_of.ensures
