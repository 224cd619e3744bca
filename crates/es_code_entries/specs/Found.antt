-- The entries that a walk has found.
use Rattle.std.specs.Prelude.{ℕ, List, [], ◌∷◌, ◌++◌, Option, Some, option_and_then, map}
use Rattle.std.specs.declared.result.Result.{Result}
use Rattle.es_by_number.specs.Numbered.{numbered}
use Rattle.es_by_number.specs.declared.numbered.Numbered.{Numbered}
use Rattle.es_code_environments.specs.FlatEntries.{FlatEntry, entry_in, flat_entry}
use Rattle.es_code_environments.specs.Results.{Gives}
use Rattle.es_entries.specs.declared.entry.Entry.{Entry}
use Rattle.es_evaluator.specs.declared.fault.Fault.{Fault}
use Rattle.es_steps.specs.Entries as spec
use Rattle.es_steps.specs.Entries.{Entries}

-- those that were found in code
abbrev pub seen : List (Numbered Entry) → List (ℕ × FlatEntry)
seen xs = numbered entry_in xs

-- these and, behind them, entries that are all there
abbrev pub reach : List (ℕ × FlatEntry) → Entries → Option (List (ℕ × FlatEntry))
reach fs [] = Some fs
reach fs (p ∷ ps) = option_and_then (λ e. reach (fs ++ (p.0, flat_entry e) ∷ []) ps) p.1

-- a walk that had found the old entries and now has the new ones, which are those and these
pub record Reaches {B : Type 0} (result : Result B Fault) (old new : List (ℕ × FlatEntry)) (es : Entries) : Type 0 where
  pub reaches : Gives (λ x. new) result (reach old es)

-- entries of definitions, as they are seen
abbrev pub flat_entries : List (ℕ × spec.Entry) → List (ℕ × FlatEntry)
flat_entries es = map (λ p. (p.0, flat_entry p.1)) es
