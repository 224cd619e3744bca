-- What the references to a symbol do.
use Rattle.std.specs.Prelude.{◌≡◌, ◌<◌, ℕ, List, Bool, true, false, Option, Some, None, slice_get, ◌==◌}
use Rattle.std.specs.FinSet as set
use Rattle.std.specs.Int.RustNames.{bit_and}
use Rattle.es_scopes.specs.ReferenceNumbers.{ReferenceNumbers}
use Rattle.es_scopes.specs.declared.table.Reference.{Reference}

abbrev pub writes : Option Reference → Bool
writes None = false
writes (Some r) = bit_and r.flags.0 2 == 2

-- one of the references writes
abbrev pub HoldsWrite : ReferenceNumbers → List Reference → Type 0
HoldsWrite numbers references = (r : ℕ) × (set.contains numbers r ≡ true) × (writes (slice_get references r) ≡ true)

abbrev pub AreAllBelow : ReferenceNumbers → ℕ → Type 0
AreAllBelow numbers n = (r : ℕ) → set.contains numbers r ≡ true → r < n
