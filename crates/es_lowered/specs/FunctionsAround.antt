-- References with the functions of the source that they stand in, constructors aside: where they stand in a lowered program, and
-- where in its source. (Our own.)
use Rattle.std.specs.Prelude.{ℕ, suc, List, [], ◌∷◌, ◌++◌, Bool, true, false, cond, not, ◌&&◌, ◌||◌, nat_eq, bytes_eq}
use Rattle.es_base.specs.Numbered.{is_new}
use Rattle.es_base.specs.Tree.{Tree, Part, Parts, Node, end, more, child, list}
use Rattle.es_base.specs.declared.kind.Kind.{Kind}
use Rattle.es_steps.specs.KeptNodes.{all_pairs_stand, is_constructor_part}
use Rattle.es_steps.specs.NameScopes.{is_any_function}
use Rattle.es_steps.specs.Parts.{at, string_of}
use Rattle.es_steps.specs.Values.{String}

pub record PlacedReference : Type 0 where
  pub number : ℕ
  pub spelling : String
  -- the functions around, each with the part of it
  pub around : List (ℕ × ℕ)

abbrev pub functions_in : ℕ → Bool → List (ℕ × ℕ) → Kind → ℕ → ℕ → List (ℕ × ℕ)
functions_in first is_constructor around kind m i = cond (is_any_function kind && not (is_constructor || is_new first m)) ((m, i) ∷ around) around

-- of the references that are asked for
module _ (first : ℕ) (asked : ℕ → String → Bool) where
  abbrev pub placed_reference : List (ℕ × ℕ) → Kind → ℕ → Parts → List PlacedReference
  placed_reference around Kind.IdentifierReference m qs = cond (asked m (string_of (at 0 qs))) (record { number = m; spelling = string_of (at 0 qs); around = around } ∷ []) []
  placed_reference around kind m qs = []

  abbrev mutual
    pub placed_references : Bool → List (ℕ × ℕ) → Tree → List PlacedReference
    placed_references is_constructor around (Node kind m span semantic_id qs) = placed_reference around kind m qs ++ placed_in (is_constructor_part kind qs) (functions_in first is_constructor around kind m) qs

    pub placed_in : (ℕ → Bool) → (ℕ → List (ℕ × ℕ)) → Parts → List PlacedReference
    placed_in constructors around end = []
    placed_in constructors around (more q qs) = placed_at (constructors 0) (around 0) q ++ placed_in (λ i. constructors (suc i)) (λ i. around (suc i)) qs

    pub placed_at : Bool → List (ℕ × ℕ) → Part → List PlacedReference
    placed_at is_constructor around (child t) = placed_references is_constructor around t
    placed_at is_constructor around (list qs) = placed_of around qs
    placed_at is_constructor around q = []

    pub placed_of : List (ℕ × ℕ) → Parts → List PlacedReference
    placed_of around end = []
    placed_of around (more q qs) = placed_at false around q ++ placed_of around qs

abbrev pub same_place : ℕ → PlacedReference → PlacedReference → Bool
same_place first r x = (nat_eq r.number x.number || (is_new first r.number && bytes_eq r.spelling x.spelling)) && (all_pairs_stand r.around x.around && all_pairs_stand x.around r.around)

abbrev pub stands_where : ℕ → PlacedReference → List PlacedReference → Bool
stands_where first r [] = false
stands_where first r (x ∷ xs) = same_place first r x || stands_where first r xs

abbrev pub all_stand_where : ℕ → List PlacedReference → List PlacedReference → Bool
all_stand_where first [] xs = true
all_stand_where first (r ∷ rs) xs = stands_where first r xs && all_stand_where first rs xs
