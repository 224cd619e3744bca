use Rattle.std.proofs.Common.{◌≡◌, ℕ, get_or, None}
use Rattle.number_map.proofs.empty_places.Given as goal

abbrev pub invariant-loop : goal.invariant-loop
invariant-loop g l = (i : ℕ) → get_or l.places.items i None ≡ None
