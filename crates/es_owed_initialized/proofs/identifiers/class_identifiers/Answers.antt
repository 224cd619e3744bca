use Rattle.std.proofs.Common.{◌≡◌, ◌∙◌, ap, ℕ}
use Rattle.es_binding_faults.proofs.Appending.{IfOk-map}
use Rattle.es_binding_faults.specs.Seen.{seen}
use Rattle.es_by_number.specs.Numbered.{pairs}
use Rattle.es_grouped.specs.Groups.{group, having}
use Rattle.es_lowered.specs.Definitions as spec
use Rattle.es_owed_initialized.proofs.ClassIdentifiers.{of_each_class}
use Rattle.es_owed_initialized.proofs.identifiers.class_identifiers.Goals as goal

pub returns : goal.returns
returns c = IfOk-map c.of.result
    (λ g. (n : ℕ) → group n g ≡ having n (pairs c.in_ok-identifiers.identifiers.items))
    (λ g. (n : ℕ) → group n g ≡ spec.class_identifiers c.args.first n (seen c.args.nodes.now))
    (λ g h n. h n ∙ ap (having n) c.in_ok-identifiers.ensures ∙ of_each_class c.args.first n (seen c.args.nodes.now))
    c.of.ensures
