use Rattle.std.proofs.Common.{◌≡◌, ◌∙◌, ap, ℕ}
use Rattle.es_binding_faults.proofs.Appending.{IfOk-map}
use Rattle.es_by_number.specs.Numbered.{pairs}
use Rattle.es_grouped.specs.Groups.{group, having}
use Rattle.es_generated.specs.Spellings.{entries_of, entry_of, numbered_names}
use Rattle.es_generated.proofs.NumberedNames.{having_seen}
use Rattle.es_generated.proofs.spellings.by_number.Goals as goal

pub returns : goal.returns
returns c = IfOk-map c.of.result
    (λ g. (m : ℕ) → group m g ≡ having m (pairs c.in_ok-items.items.items))
    (λ g. (m : ℕ) → entries_of (group m g) ≡ having m (numbered_names c.args.spellings.now c.args.entries.now))
    (λ g h m. ap entries_of (h m) ∙ having_seen entry_of m c.in_ok-items.items.items ∙ ap (having m) c.in_ok-items.ensures)
    c.of.ensures
