-- The touches that a node has by itself, by its kind.
use Rattle.std.proofs.Common.{◌≡◌, refl, ap, ℕ, List, [], Bool, true, false, cond, Some, None}
use Rattle.std.specs.Prelude.{not}
use Rattle.es_base.specs.Tree.{Parts}
use Rattle.es_base.specs.declared.kind.Kind.{Kind}
use Rattle.es_lowered.specs.DeadZones.{Spot, another, ends_in_throw, is_still, touch, touch_around}
use Rattle.es_references.specs.References.{references_of}
use Rattle.es_steps.specs.Parts.{at, items}
use Rattle.es_owed_dead_zones.specs.Own.{own_form, touches_by}
use Rattle.es_owed_dead_zones.specs.Walk.{own_touches, reference_touches}
use Rattle.es_owed_dead_zones.specs.declared.terms.Terms.{Terms}

module _ (t : Terms) (x : Spot) (held : List (ℕ × ℕ)) (m : ℕ) (ps : Parts) where
  pub own_reference : (kind : Kind) → kind ≡ Kind.IdentifierReference → own_touches t x held kind m ps ≡ reference_touches t held m (references_of t.references.now.list.items)
  own_reference kind is = ap (λ k. own_touches t x held k m ps) is

  pub own_spread : (kind : Kind) → kind ≡ Kind.SpreadElement → own_touches t x held kind m ps ≡ touch_around x
  own_spread kind is = ap (λ k. own_touches t x held k m ps) is

  by_choice : (b : Bool) → cond b (touch held m another) [] ≡ touches_by held m (cond b (Some another) None)
  by_choice true = refl
  by_choice false = refl

  by_stillness : (b : Bool) → cond b [] (touch held m another) ≡ touches_by held m (cond b None (Some another))
  by_stillness true = refl
  by_stillness false = refl

  pub own_by_form : (kind : Kind) → (kind ≡ Kind.IdentifierReference → ⊥) → (kind ≡ Kind.SpreadElement → ⊥) → own_touches t x held kind m ps ≡ touches_by held m (own_form t kind m ps)
  own_by_form Kind.IdentifierReference a b = absurd (a refl)
  own_by_form Kind.SpreadElement a b = absurd (b refl)
  own_by_form Kind.ThisExpression a b = refl
  own_by_form Kind.BindingIdentifier a b = refl
  own_by_form Kind.CallExpression a b = refl
  own_by_form Kind.AssignmentExpression a b = refl
  own_by_form Kind.UpdateExpression a b = refl
  own_by_form Kind.SequenceExpression a b = by_choice (ends_in_throw (items (at 0 ps)))
  own_by_form kind a b = by_stillness (is_still kind)

still_turned : (b : Bool) → cond (not b) (Some another) None ≡ cond b None (Some another)
still_turned true = refl
still_turned false = refl

pub form_other : (t : Terms) (kind : Kind) (m : ℕ) (ps : Parts) → (kind ≡ Kind.ThisExpression → ⊥) → (kind ≡ Kind.CallExpression → ⊥) → (kind ≡ Kind.AssignmentExpression → ⊥) → (kind ≡ Kind.UpdateExpression → ⊥) → (kind ≡ Kind.SequenceExpression → ⊥) → cond (not (is_still kind)) (Some another) None ≡ own_form t kind m ps
form_other t Kind.ThisExpression m ps a b c d e = absurd (a refl)
form_other t Kind.CallExpression m ps a b c d e = absurd (b refl)
form_other t Kind.AssignmentExpression m ps a b c d e = absurd (c refl)
form_other t Kind.UpdateExpression m ps a b c d e = absurd (d refl)
form_other t Kind.SequenceExpression m ps a b c d e = absurd (e refl)
form_other t kind m ps a b c d e = still_turned (is_still kind)
