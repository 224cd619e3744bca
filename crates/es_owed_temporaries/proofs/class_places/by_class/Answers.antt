use Rattle.std.proofs.Common.{◌≡◌, ◌∙◌, ap, ℕ}
use Rattle.es_binding_faults.proofs.Appending.{IfOk-map}
use Rattle.es_by_number.specs.Numbered.{pairs}
use Rattle.es_grouped.specs.Groups.{group, having}
use Rattle.es_owed_temporaries.proofs.class_places.by_class.Goals as goal

pub returns : goal.returns
returns c = IfOk-map c.of.result
    (λ g. (n : ℕ) → group n g ≡ having n (pairs c.in_ok-items.items.items))
    (λ g. (n : ℕ) → group n g ≡ having n (pairs c.args.places.now))
    (λ g h n. h n ∙ ap (having n) c.in_ok-items.ensures)
    c.of.ensures
