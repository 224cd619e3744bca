-- Where references stand does not depend on numbers.
use Rattle.std.specs.Prelude.{◌≡◌, ℕ, suc, List, [], ◌∷◌, map, Bool, false, not, ◌&&◌, ◌||◌}
use Rattle.std.proofs.Common.{refl, ap₂, ◌∙◌}
use Rattle.es_base.specs.Numbered.{is_new}
use Rattle.es_base.specs.Tree.{Tree, Part, Parts, Node, end, more, child, list}
use Rattle.es_base.specs.declared.kind.Kind.{Kind}
use Rattle.es_lowered.specs.FunctionsAround.{PlacedReference, functions_in, placed_reference, placed_references, placed_in, placed_at, placed_of, same_place, stands_where, all_stand_where}
use Rattle.es_steps.specs.KeptNodes.{is_constructor_part}
use Rattle.es_steps.specs.NameScopes.{is_any_function}
use Rattle.es_steps.specs.Parts.{at, string_of}
use Rattle.es_steps.specs.Values.{String}
use Rattle.es_steps.proofs.KeptNodesMapped.{is_constructor_part-mapped}
use Rattle.es_steps.proofs.Mapped.{Renames, mapped, mapped_part, mapped_parts}
use Rattle.es_steps.proofs.PartsMapped.{cond-mapped, append-mapped, string_at-mapped}
use Rattle.es_lowered.proofs.TimelyMapped.{mapped_held, all_pairs_stand-mapped}

module _ (f : ℕ → ℕ) where
  abbrev pub mapped_placed : PlacedReference → PlacedReference
  mapped_placed x = record { number = f x.number; spelling = x.spelling; around = map (mapped_held f) x.around }

module _ {first : ℕ} {f : ℕ → ℕ} (r : Renames first f) where
  functions_in-mapped : (is_constructor : Bool) (around : List (ℕ × ℕ)) (kind : Kind) (m i : ℕ) → functions_in first is_constructor (map (mapped_held f) around) kind (f m) i ≡ map (mapped_held f) (functions_in first is_constructor around kind m i)
  functions_in-mapped is_constructor around kind m i =
      rw (r.new m) (cond-mapped (map (mapped_held f)) (is_any_function kind && not (is_constructor || is_new first m)) ((m, i) ∷ around) around refl refl)

  module _ (there asked : ℕ → String → Bool) (same : (m : ℕ) (s : String) → there (f m) s ≡ asked m s) where
    placed_reference-mapped : (around : List (ℕ × ℕ)) (kind : Kind) (m : ℕ) (qs : Parts) → placed_reference first there (map (mapped_held f) around) kind (f m) (mapped_parts f qs) ≡ map (mapped_placed f) (placed_reference first asked around kind m qs)
    placed_reference-mapped around Kind.IdentifierReference m qs =
        rw (string_at-mapped f 0 qs, same m (string_of (at 0 qs))) (cond-mapped (map (mapped_placed f)) (asked m (string_of (at 0 qs))) (record { number = m; spelling = string_of (at 0 qs); around = around } ∷ []) [] refl refl)
    placed_reference-mapped around kind m qs = refl

    mutual
      pub placed_references-mapped : (c : Bool) (around : List (ℕ × ℕ)) (t : Tree) → placed_references first there c (map (mapped_held f) around) (mapped f t) ≡ map (mapped_placed f) (placed_references first asked c around t)
      placed_references-mapped c around (Node kind m span semantic_id qs) =
          append-mapped (mapped_placed f) _ _ (placed_reference-mapped around kind m qs)
          (placed_in-mapped _ (is_constructor_part kind qs) (is_constructor_part-mapped f kind qs) _ (functions_in first c around kind m) (functions_in-mapped c around kind m) qs)

      placed_in-mapped : (d c : ℕ → Bool) → ((i : ℕ) → d i ≡ c i) → (y x : ℕ → List (ℕ × ℕ)) → ((i : ℕ) → y i ≡ map (mapped_held f) (x i)) → (qs : Parts) → placed_in first there d y (mapped_parts f qs) ≡ map (mapped_placed f) (placed_in first asked c x qs)
      placed_in-mapped d c same_c y x same_x end = refl
      placed_in-mapped d c same_c y x same_x (more q qs) =
          append-mapped (mapped_placed f) _ _ (ap₂ (λ a b. placed_at first there a b (mapped_part f q)) (same_c 0) (same_x 0) ∙ placed_at-mapped (c 0) (x 0) q)
          (placed_in-mapped (λ i. d (suc i)) (λ i. c (suc i)) (λ i. same_c (suc i)) (λ i. y (suc i)) (λ i. x (suc i)) (λ i. same_x (suc i)) qs)

      placed_at-mapped : (c : Bool) (around : List (ℕ × ℕ)) (q : Part) → placed_at first there c (map (mapped_held f) around) (mapped_part f q) ≡ map (mapped_placed f) (placed_at first asked c around q)
      placed_at-mapped c around (child t) = placed_references-mapped c around t
      placed_at-mapped c around (list qs) = placed_of-mapped around qs
      placed_at-mapped c around q = refl

      placed_of-mapped : (around : List (ℕ × ℕ)) (qs : Parts) → placed_of first there (map (mapped_held f) around) (mapped_parts f qs) ≡ map (mapped_placed f) (placed_of first asked around qs)
      placed_of-mapped around end = refl
      placed_of-mapped around (more q qs) = append-mapped (mapped_placed f) _ _ (placed_at-mapped false around q) (placed_of-mapped around qs)

  same_place-mapped : (x y : PlacedReference) → same_place first (mapped_placed f x) (mapped_placed f y) ≡ same_place first x y
  same_place-mapped x y = rw (r.apart x.number y.number, r.new x.number, all_pairs_stand-mapped r x.around y.around, all_pairs_stand-mapped r y.around x.around) refl

  stands_where-mapped : (x : PlacedReference) (ys : List PlacedReference) → stands_where first (mapped_placed f x) (map (mapped_placed f) ys) ≡ stands_where first x ys
  stands_where-mapped x [] = refl
  stands_where-mapped x (y ∷ ys) = ap₂ (λ a b. a || b) (same_place-mapped x y) (stands_where-mapped x ys)

  pub all_stand_where-mapped : (xs ys : List PlacedReference) → all_stand_where first (map (mapped_placed f) xs) (map (mapped_placed f) ys) ≡ all_stand_where first xs ys
  all_stand_where-mapped [] ys = refl
  all_stand_where-mapped (x ∷ xs) ys = ap₂ (λ a b. a && b) (stands_where-mapped x ys) (all_stand_where-mapped xs ys)
