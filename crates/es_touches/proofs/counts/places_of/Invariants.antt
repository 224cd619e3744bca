use Rattle.std.proofs.Common.{ℕ}
use Rattle.es_grouped.specs.Groups.{group}
use Rattle.es_touches.specs.Counts.{ArePlaces}
use Rattle.es_touches.proofs.counts.places_of.Given as goal

abbrev pub invariant-loop-i : goal.invariant-loop-i
invariant-loop-i l = (m : ℕ) → ArePlaces (group m l.places) m l.touches l.i
