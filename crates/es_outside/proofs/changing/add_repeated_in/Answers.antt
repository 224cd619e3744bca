use Rattle.std.proofs.Common.{◌∙◌, ◌||◌, ap}
use Rattle.es_binding_faults.proofs.Appending.{OnOk-map}
use Rattle.es_binding_faults.specs.Named.{named}
use Rattle.es_steps.specs.References.{has_number, repeated}
use Rattle.es_references.specs.Frames.{ids}
use Rattle.es_outside.proofs.changing.add_repeated_in.Goals as goal

pub returns : goal.returns
returns c = OnOk-map c.add_repeated.result _ _ (λ h n. h n ∙ ap (λ ns. has_number n (ids c.args.bindings.now.items) || has_number n ns) (ap (λ xs. repeated (named xs)) c.as_slice.ensures.value ∙ c.in_ok-names.ensures)) c.add_repeated.ensures
