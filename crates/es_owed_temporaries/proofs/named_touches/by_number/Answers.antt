use Rattle.std.proofs.Common.{◌≡◌, ◌∙◌, ap, ℕ}
use Rattle.es_binding_faults.proofs.Appending.{IfOk-map}
use Rattle.es_by_number.specs.Numbered.{pairs}
use Rattle.es_grouped.specs.Groups.{group, having}
use Rattle.es_generated.proofs.NumberedNames.{having_seen}
use Rattle.es_owed_temporaries.specs.Named.{numbered_touches}
use Rattle.es_owed_temporaries.specs.Touches.{touch_here, touches_all}
use Rattle.es_owed_temporaries.proofs.named_touches.by_number.Goals as goal

pub returns : goal.returns
returns c =
    let items = c.in_ok-items.items.items in
    IfOk-map c.of.result
    (λ g. (m : ℕ) → group m g ≡ having m (pairs items))
    (λ g. (m : ℕ) → touches_all (group m g) ≡ having m (numbered_touches c.args.spellings.now (touches_all c.args.touches.now)))
    (λ g h m. ap touches_all (h m) ∙ having_seen touch_here m items ∙ ap (having m) c.in_ok-items.ensures)
    c.of.ensures
