use Rattle.std.proofs.Common.{◌≡◌, ◌∙◌, ap, ℕ}
use Rattle.es_binding_faults.proofs.Appending.{IfOk-map}
use Rattle.es_binding_faults.specs.Seen.{seen}
use Rattle.es_by_number.specs.Numbered.{pairs}
use Rattle.es_grouped.specs.Groups.{group, having}
use Rattle.es_lowered.specs.Definitions as spec
use Rattle.es_owed_initialized.proofs.ClassIdentifiers.{of_each_class}
use Rattle.es_owed_initialized.proofs.DeclaredClasses.{turned_has}
use Rattle.es_owed_initialized.specs.Identifiers.{identified, turned}
use Rattle.es_owed_initialized.proofs.identifiers.declared_classes.Goals as goal
use Rattle.es_steps.specs.References.{has_number}

pub returns : goal.returns
returns c =
    let first = c.args.first in
    let ts = seen c.args.nodes.now in
    let turned_pairs : pairs c.in_ok-classes.classes.items ≡ turned (identified first ts) = c.in_ok-classes.ensures ∙ ap (λ xs. turned (pairs xs)) c.as_slice.ensures.value ∙ ap turned c.in_ok-identifiers.ensures in
    IfOk-map c.of.result
    (λ g. (b : ℕ) → group b g ≡ having b (pairs c.in_ok-classes.classes.items))
    (λ g. (b n : ℕ) → has_number n (group b g) ≡ has_number b (spec.class_identifiers first n ts))
    (λ g h b n. ap (has_number n) (h b ∙ ap (having b) turned_pairs) ∙ turned_has b n (identified first ts) ∙ ap (has_number b) (of_each_class first n ts))
    c.of.ensures
