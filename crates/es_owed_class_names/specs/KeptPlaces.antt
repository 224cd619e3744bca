-- Names of a class that stand where they stood, told by what is looked up by numbers: the placed references of a source and of what
-- it was lowered to, and whether those stand behind the class.
use Rattle.std.specs.Prelude.{ℕ, List, [], ◌∷◌, ◌++◌, Bool, cond, not, ◌&&◌, ◌||◌}
use Rattle.std.specs.List.{list_all, list_any}
use Rattle.es_lowered.specs.FunctionsAround.{PlacedReference, all_stand_where}

-- those of these numbers that pass
abbrev pub kept_if : (ℕ → Bool) → List ℕ → List ℕ
kept_if f [] = []
kept_if f (m ∷ ms) = cond (f m) (m ∷ []) [] ++ kept_if f ms

module _ (first : ℕ) (names : List ℕ) (ps : ℕ → List PlacedReference) where
  -- whether a reference stands where one of these names does
  abbrev pub stands_named : PlacedReference → Bool
  stands_named r = list_any (λ k. all_stand_where first (r ∷ []) (ps k)) names

  -- the same, with its own number first
  abbrev pub stands_own : PlacedReference → Bool
  stands_own r = all_stand_where first (r ∷ []) (ps r.number) || stands_named r

  module _ (qs : ℕ → List PlacedReference) (there found : ℕ → Bool) where
    abbrev pub is_kept : ℕ → Bool
    is_kept m = list_all stands_own (qs m) && (not (there m) || found m)

    abbrev pub kept : List ℕ → List ℕ
    kept ms = kept_if is_kept ms
