-- Where the values of a number stand side by side.
use Rattle.std.specs.Prelude.{◌≡◌, ℕ, ◌+◌, ◌≤◌, List, [], length, map, Option, Some, None, slice_range}
use Rattle.std.specs.List.{zip}
use Rattle.number_map.specs.Entries.{value_at}
use Rattle.es_grouped.specs.Groups.{having}
use Rattle.es_grouped.specs.declared.runs.Run.{Run}

-- a run with the value at a place more
abbrev pub IsNext : Option Run → ℕ → Run → Type 0
IsNext None i r = (r.start ≡ i) × (r.end ≡ i + 1)
IsNext (Some b) i r = (r.start ≡ b.start) × (r.end ≡ i + 1) × (b.end ≡ i)

module _ {T : Type 0} where
  -- the first are the values between these places of the others
  abbrev pub IsRun : Option Run → List T → List T → Type 0
  IsRun None vs xs = vs ≡ []
  IsRun (Some r) vs xs = (r.start ≤ r.end) × (r.end ≤ length xs) × (vs ≡ slice_range xs r.start r.end)

  -- each number has its values there
  abbrev pub AreRuns : List (ℕ × Run) → List (ℕ × T) → Type 0
  AreRuns runs ps = (m : ℕ) → IsRun (value_at m runs) (having m ps) (map (λ p. p.1) ps)

  -- the same of numbers and values in two lists
  abbrev pub AreRunsOf : List ℕ → List T → List (ℕ × Run) → Type 0
  AreRunsOf ns xs runs = (length ns ≡ length xs) × ((m : ℕ) → IsRun (value_at m runs) (having m (zip ns xs)) xs)
