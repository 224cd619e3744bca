use Rattle.std.proofs.Common.{◌≡◌, ◌∙◌, ap, ℕ}
use Rattle.es_base.specs.Preorder.{preorder}
use Rattle.es_binding_faults.proofs.Appending.{IfOk-map}
use Rattle.es_binding_faults.specs.Seen.{seen}
use Rattle.es_grouped.specs.Groups.{group}
use Rattle.es_lowered.specs.Definitions.{class_identifiers}
use Rattle.es_steps.specs.References.{has_number}
use Rattle.es_owed_calls.proofs.lowering.classes_in.Goals as goal

pub returns : goal.returns
returns c = IfOk-map c.declared_classes.result
    (λ g. (b : ℕ) (n : ℕ) → has_number n (group b g) ≡ has_number b (class_identifiers c.args.first n (seen c.as_slice.result.now)))
    (λ g. (b : ℕ) (n : ℕ) → has_number n (group b g) ≡ has_number b (class_identifiers c.args.first n (preorder c.args.program.now.program.now)))
    (λ g h b n. h b n ∙ ap (λ ts. has_number b (class_identifiers c.args.first n ts)) (ap seen c.as_slice.ensures.value ∙ c.args.program.now.in_preorder))
    c.declared_classes.ensures
