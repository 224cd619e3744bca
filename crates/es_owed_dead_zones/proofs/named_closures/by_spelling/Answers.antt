use Rattle.std.proofs.Common.{◌≡◌, ◌∙◌, ap, ℕ}
use Rattle.es_binding_faults.proofs.Appending.{IfOk-map}
use Rattle.es_by_number.specs.Numbered.{pairs}
use Rattle.es_grouped.specs.Groups.{group, having}
use Rattle.es_generated.proofs.NumberedNames.{having_seen}
use Rattle.es_touches.specs.Touches.{closure_of, closures_of}
use Rattle.es_owed_dead_zones.specs.LookedUp.{numbered_closures}
use Rattle.es_owed_dead_zones.proofs.named_closures.by_spelling.Goals as goal

pub returns : goal.returns
returns c = IfOk-map c.of.result
    (λ g. (m : ℕ) → group m g ≡ having m (pairs c.in_ok-items.items.items))
    (λ g. (m : ℕ) → closures_of (group m g) ≡ having m (numbered_closures c.args.spellings.now (closures_of c.args.closures.now)))
    (λ g h m. ap closures_of (h m) ∙ having_seen closure_of m c.in_ok-items.items.items ∙ ap (having m) c.in_ok-items.ensures)
    c.of.ensures
