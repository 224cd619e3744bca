-- A mark with those in front of it and those behind.
use Rattle.std.specs.Prelude.{ℕ, List, [], ◌∷◌, Bool, true, false, not, ◌&&◌, ◌||◌, nat_eq, bytes_eq, Option, Some}
use Rattle.es_base.specs.declared.ledger.GeneratedKind.{GeneratedKind}
use Rattle.es_base.specs.declared.ledger.LedgerEntry.{LedgerEntry}
use Rattle.es_lowered.specs.Timely.{Mark, any_gives, asks, is_dead, is_early, is_skipped}
use Rattle.es_steps.specs.Values.{String}

-- the last first, in front of others
abbrev pub turned : List Mark → List Mark → List Mark
turned [] front = front
turned (m ∷ ms) front = turned ms (m ∷ front)

abbrev pub stands_here : List LedgerEntry → List Mark → Mark → List Mark → Bool
stands_here ledger front m ms = not (is_early ledger m || (is_dead m ms || is_skipped m front)) && (not (asks ledger m) || (any_gives true m front || any_gives false m ms))

-- whether the name is one of class n that is not its own, where these classes run
abbrev pub is_running : ℕ → String → List (ℕ × String) → Bool
is_running n s [] = false
is_running n s (p ∷ ps) = (nat_eq n p.0 && not (bytes_eq s p.1)) || is_running n s ps

abbrev pub is_early_by : List (ℕ × String) → String → Option GeneratedKind → Bool
is_early_by running s (Some (GeneratedKind.ClassTemp n)) = is_running n.0 s running
is_early_by running s g = false
