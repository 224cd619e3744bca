use Rattle.std.proofs.Common.{◌≡◌, ◌∙◌, ap, ℕ}
use Rattle.es_base.specs.Preorder.{preorder}
use Rattle.es_binding_faults.proofs.Appending.{IfOk-map}
use Rattle.es_binding_faults.specs.Seen.{seen}
use Rattle.es_grouped.specs.Groups.{group}
use Rattle.es_lowered.specs.Definitions.{class_identifiers}
use Rattle.es_owed_calls.proofs.lowering.identifiers_in.Goals as goal

pub returns : goal.returns
returns c = IfOk-map c.class_identifiers.result
    (λ g. (n : ℕ) → group n g ≡ class_identifiers c.args.first n (seen c.as_slice.result.now))
    (λ g. (n : ℕ) → group n g ≡ class_identifiers c.args.first n (preorder c.args.program.now.program.now))
    (λ g h n. h n ∙ ap (class_identifiers c.args.first n) (ap seen c.as_slice.ensures.value ∙ c.args.program.now.in_preorder))
    c.class_identifiers.ensures
