-- A mark with those of its name that are no uses, each with its place.
use Rattle.std.specs.Prelude.{ℕ, List, [], ◌∷◌, ◌++◌, Bool, true, false, cond, not, ◌&&◌, ◌||◌, bytes_eq, nat_lt}
use Rattle.std.specs.List.{list_any}
use Rattle.es_base.specs.declared.ledger.LedgerEntry.{LedgerEntry}
use Rattle.es_binding_faults.specs.Leasts.{Numbers}
use Rattle.es_lowered.specs.Timely.{Mark, asks, gives_in_time, is_declaration, is_early, is_skipped_by, is_use}
use Rattle.es_generated.specs.Spellings.{spelling_number}

-- with the number of its spelling, if it is no use
abbrev pub with_number : Numbers → ℕ × Mark → List (ℕ × (ℕ × Mark))
with_number ns x = cond (is_use x.1.form) [] ((spelling_number ns x.1.name, x) ∷ [])

abbrev pub with_numbers : Numbers → List (ℕ × Mark) → List (ℕ × (ℕ × Mark))
with_numbers ns [] = []
with_numbers ns (x ∷ xs) = with_number ns x ++ with_numbers ns xs

-- whether one of these in front of place c passes, or one behind
abbrev pub any_front : (Mark → Bool) → ℕ → List (ℕ × Mark) → Bool
any_front test c xs = list_any (λ x. nat_lt x.0 c && test x.1) xs

abbrev pub any_behind : (Mark → Bool) → ℕ → List (ℕ × Mark) → Bool
any_behind test c xs = list_any (λ x. nat_lt c x.0 && test x.1) xs

-- a `let` of the name of m
abbrev pub declares_name : Mark → Mark → Bool
declares_name m d = bytes_eq m.name d.name && is_declaration d.form

abbrev pub skips_name : Mark → Mark → Bool
skips_name m d = bytes_eq m.name d.name && is_skipped_by m d

abbrev pub stands_among : List LedgerEntry → ℕ → Mark → List (ℕ × Mark) → Bool
stands_among ledger c m xs = not (is_early ledger m || (any_behind (declares_name m) c xs || any_front (skips_name m) c xs)) && (not (asks ledger m) || (any_front (gives_in_time true m) c xs || any_behind (gives_in_time false m) c xs))
