use Rattle.std.proofs.Common.{◌≡◌, ◌+◌, ◌<◌, ℕ, length, get_or, drop}
use Rattle.es_grouped.specs.Groups.{group}
use Rattle.es_lowered.specs.DeadZones.{times}
use Rattle.es_touches.specs.Counts.{IsBound, last_of}
use Rattle.es_touches.specs.Touches.{touches_of}
use Rattle.es_touches.proofs.counts.bounds_of.Given as goal

abbrev pub invariant-loop-i : goal.invariant-loop-i
invariant-loop-i l =
    (length l.bounds.items + l.i ≡ length l.touches) × ((k d : ℕ) → k < length l.bounds.items → IsBound l.there (get_or l.bounds.items k d) (last_of k l.touches)) × (IsBound l.there l.bound (touches_of (drop l.i l.touches))) × ((m : ℕ) → length (group m l.seen) ≡ times m (touches_of (drop l.i l.touches)))
