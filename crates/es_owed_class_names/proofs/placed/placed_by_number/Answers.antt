use Rattle.std.proofs.Common.{◌≡◌, ap, ◌∙◌, ℕ, List, map}
use Rattle.es_binding_faults.proofs.Appending.{IfOk-map}
use Rattle.es_by_number.specs.Numbered.{pairs}
use Rattle.es_grouped.specs.Groups.{group, having}
use Rattle.es_lowered.specs.ClassNames.{numbered}
use Rattle.es_lowered.specs.FunctionsAround.{PlacedReference}
use Rattle.es_owed_places.specs.Placed.{reference_of, references_of}
use Rattle.es_generated.proofs.NumberedNames.{having_seen}
use Rattle.es_owed_class_names.proofs.PlacedNumbers.{having_number}
use Rattle.es_owed_class_names.specs.PlacedNumbers.{all_placed}
use Rattle.es_owed_class_names.proofs.placed.placed_by_number.Goals as goal

pub returns : goal.returns
returns c =
    let items = c.in_ok-items.items.items in
    let all = all_placed c.args.first c.args.program.now in
    IfOk-map c.of.result
    (λ g. (k : ℕ) → group k g ≡ having k (pairs items))
    (λ g. (k : ℕ) → references_of (group k g) ≡ numbered k all)
    (λ g h k.
    ap references_of (h k)
    ∙ having_seen reference_of k items
    ∙ ap (having k) (c.in_ok-items.ensures ∙ ap (λ (rs : List PlacedReference). map (λ (x : PlacedReference). (x.number, x)) rs) c.in_ok-references.ensures)
    ∙ having_number k all)
    c.of.ensures
