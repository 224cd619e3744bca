use Rattle.std.proofs.Common.{◌≡◌, ◌+◌, ◌-◌, ◌<◌, ℕ, length, subst, arith}
use Rattle.es_grouped.specs.Groups.{group}
use Rattle.es_touches.proofs.Counting.{next_places, none_placed}
use Rattle.es_touches.specs.Counts.{ArePlaces}
use Rattle.es_touches.proofs.counts.places_of.Goals as goal

pub loop-i-init : goal.loop-i-init
loop-i-init c = λ m. none_placed m c.args.touches.now _ _ (c.new-places.ensures m) (omega arith)

pub loop-i-preserved : goal.loop-i-preserved
loop-i-preserved c =
    let xs = c.args.touches.now in
    let j : ℕ = c.loop-i.i - 1 in
    let next : c.loop-i.i ≡ j + 1 = omega arith in
    let below : j < length xs = omega arith in
    λ m. next_places m xs j _ (group m c.loop-i.places) (group m c.add_place.new.places) below
    (subst (λ (k : ℕ). ArePlaces (group m c.loop-i.places) m xs k) next (c.loop-i.invariant m))
    (c.in_ok-add_place.ensures m)
