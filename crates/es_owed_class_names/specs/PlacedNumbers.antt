-- Placed references by their numbers, ps being those of a source and qs those of what it was lowered to.
use Rattle.std.specs.Prelude.{ℕ, List, [], ◌∷◌, Bool, true, false, ◌||◌}
use Rattle.std.specs.List.{list_all, list_any}
use Rattle.es_base.specs.Tree.{Tree}
use Rattle.es_lowered.specs.ClassNames.{numbered}
use Rattle.es_lowered.specs.FunctionsAround.{PlacedReference, all_stand_where, placed_references}
use Rattle.es_steps.specs.Values.{String}

-- whatever the number and the name
abbrev pub any_reference : ℕ → String → Bool
any_reference = λ m s. true

abbrev pub all_placed : ℕ → Tree → List PlacedReference
all_placed first t = placed_references first any_reference false [] t

-- whether a reference stands where one of these numbers does
abbrev pub stands_named : ℕ → List ℕ → List PlacedReference → PlacedReference → Bool
stands_named first names ps r = list_any (λ k. all_stand_where first (r ∷ []) (numbered k ps)) names

-- the same, with its own number first
abbrev pub stands_own : ℕ → List ℕ → List PlacedReference → PlacedReference → Bool
stands_own first names ps r = all_stand_where first (r ∷ []) (numbered r.number ps) || stands_named first names ps r

abbrev pub all_stand_own : ℕ → List ℕ → List PlacedReference → List PlacedReference → Bool
all_stand_own first names ps rs = list_all (stands_own first names ps) rs
