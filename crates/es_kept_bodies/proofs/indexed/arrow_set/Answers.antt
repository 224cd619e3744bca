use Rattle.std.proofs.Common.{◌≡◌, ◌∙◌, ap, ℕ}
use Rattle.es_binding_faults.proofs.Appending.{IfOk-map}
use Rattle.es_lowered.specs.DeadZones.{is_arrow_of}
use Rattle.es_steps.specs.References.{has_number}
use Rattle.es_touches.specs.Touches.{closures_of}
use Rattle.es_kept_bodies.proofs.IndexedBodies.{among_arrows}
use Rattle.es_kept_bodies.proofs.indexed.arrow_set.Goals as goal

pub returns : goal.returns
returns c = IfOk-map c.set_of.result
    (λ r. (n : ℕ) → has_number n r ≡ has_number n c.as_slice.result.now)
    (λ r. (n : ℕ) → has_number n r ≡ is_arrow_of n (closures_of c.args.called.now))
    (λ r h n. h n ∙ ap (has_number n) (c.as_slice.ensures.value ∙ c.in_ok-arrows.ensures) ∙ among_arrows n (closures_of c.args.called.now))
    c.set_of.ensures
