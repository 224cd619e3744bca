use Rattle.std.proofs.Common.{◌≡◌, ◌∙◌, ap, ℕ}
use Rattle.es_binding_faults.proofs.Appending.{IfOk-map}
use Rattle.es_by_number.specs.Numbered.{pairs}
use Rattle.es_grouped.specs.Groups.{group, having}
use Rattle.es_generated.proofs.NumberedNames.{having_seen}
use Rattle.es_touches.specs.Touches.{bodies_of}
use Rattle.es_kept_bodies.specs.Indexed.{bodies_seen, body_seen, numbered_bodies}
use Rattle.es_kept_bodies.proofs.indexed.by_number.Goals as goal

pub returns : goal.returns
returns c = IfOk-map c.of.result
    (λ g. (m : ℕ) → group m g ≡ having m (pairs c.in_ok-items.items.items))
    (λ g. (m : ℕ) → bodies_seen (group m g) ≡ having m (numbered_bodies (bodies_of c.args.bodies.now)))
    (λ g h m. ap bodies_seen (h m) ∙ having_seen body_seen m c.in_ok-items.items.items ∙ ap (having m) c.in_ok-items.ensures)
    c.of.ensures
