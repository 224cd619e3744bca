use Rattle.std.proofs.Common.{◌≡◌, ◌∙◌, ◌+◌, ◌-◌, ◌<◌, ℕ, ap, drop, length, subst, arith}
use Rattle.std.proofs.lemmas.List.{length_push}
use Rattle.es_grouped.specs.Groups.{group}
use Rattle.es_lowered.specs.DeadZones.{times}
use Rattle.es_touches.proofs.Counting.{begun_bound, bound_at, last_more, more_places, none_placed}
use Rattle.es_touches.specs.Counts.{IsBound}
use Rattle.es_touches.specs.Touches.{touches_of}
use Rattle.es_touches.proofs.counts.bounds_of.Goals as goal

pub loop-i-init : goal.loop-i-init
loop-i-init c =
    let none = ap length c.new-bounds.ensures.items in
    (omega (arith, none), λ k d below. absurd (omega (arith, none)), begun_bound c.args.there.now c.args.touches.now _ _ (omega arith), λ m. (none_placed m c.args.touches.now _ _ (c.new-seen.ensures m) (omega arith)).0)

pub loop-i-preserved : goal.loop-i-preserved
loop-i-preserved c =
    let there = c.args.there.now in
    let xs = c.args.touches.now in
    let j : ℕ = c.loop-i.i - 1 in
    let next : c.loop-i.i ≡ j + 1 = omega arith in
    let below : j < length xs = omega arith in
    let longer : length c.push.new.self.items ≡ length c.loop-i.bounds.items + 1 = ap length c.in_ok-push.ensures.items ∙ length_push c.loop-i.bounds.items c.loop-i.bound in
    let seen : (m : ℕ) → length (group m c.loop-i.seen) ≡ times m (touches_of (drop (j + 1) xs)) = λ m. subst (λ (k : ℕ). length (group m c.loop-i.seen) ≡ times m (touches_of (drop k xs))) next (c.loop-i.invariant.3 m) in (
      omega arith,
      last_more (λ b ts. IsBound there b ts) xs c.loop-i.i c.loop-i.bounds.items c.push.new.self.items c.loop-i.bound c.loop-i.invariant.0 c.in_ok-push.ensures.items c.loop-i.invariant.2 c.loop-i.invariant.1,
      bound_at there xs j _ (λ m. group m c.in_ok-places.places) (λ m. group m c.loop-i.seen) c.loop-i.bound c.bound_with-bound.result below (λ m. c.in_ok-places.ensures m) seen (subst (λ (k : ℕ). IsBound there c.loop-i.bound (touches_of (drop k xs))) next c.loop-i.invariant.2) c.bound_with-bound.ensures.lower c.bound_with-bound.ensures.placed,
      λ m. more_places m xs j _ (group m c.loop-i.seen) (group m c.add_place.new.places) below (seen m) (c.in_ok-add_place.ensures m),
    )

pub returns : goal.returns
returns c = (omega arith, c.loop-i.invariant.1)
