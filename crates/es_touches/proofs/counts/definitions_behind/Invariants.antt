use Rattle.std.proofs.Common.{◌≡◌, ◌+◌, ◌<◌, ◌≤◌, ℕ, length, get_or, drop}
use Rattle.es_touches.specs.Counts.{definitions, last_of}
use Rattle.es_touches.specs.Touches.{touches_of}
use Rattle.es_touches.proofs.counts.definitions_behind.Given as goal

abbrev pub invariant-loop-i : goal.invariant-loop-i
invariant-loop-i l =
    (length l.counts.items + l.i ≡ length l.touches) × ((k d : ℕ) → k < length l.counts.items → get_or l.counts.items k d ≡ definitions (last_of k l.touches)) × (l.count ≡ definitions (touches_of (drop l.i l.touches))) × (l.count ≤ length l.counts.items)
