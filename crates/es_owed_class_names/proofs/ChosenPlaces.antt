-- The placed references that are asked for, chosen among all.
use Rattle.std.proofs.Common.{◌≡◌, refl, sym, ap₂, ◌∙◌, ℕ, suc, List, ◌++◌, filter, Bool, false}
use Rattle.std.proofs.lemmas.List.Elements.{filter-append}
use Rattle.es_base.specs.Tree.{Tree, Part, Parts, Node, end, more, child, list}
use Rattle.es_base.specs.declared.kind.Kind.{Kind}
use Rattle.es_lowered.specs.FunctionsAround as spec
use Rattle.es_lowered.specs.FunctionsAround.{PlacedReference, functions_in}
use Rattle.es_steps.specs.KeptNodes.{is_constructor_part}
use Rattle.es_steps.specs.Values.{String}
use Rattle.es_owed_class_names.specs.PlacedNumbers.{any_reference}

module _ (first : ℕ) (some : ℕ → String → Bool) where
  abbrev pub is_chosen : PlacedReference → Bool
  is_chosen r = some r.number r.spelling

  abbrev pub chosen : List PlacedReference → List PlacedReference
  chosen rs = filter is_chosen rs

  two : (xs ys us vs : List PlacedReference) → xs ≡ chosen us → ys ≡ chosen vs → xs ++ ys ≡ chosen (us ++ vs)
  two xs ys us vs left right = ap₂ (λ ks ls. ks ++ ls) left right ∙ sym (filter-append is_chosen us vs)

  here : (around : List (ℕ × ℕ)) (kind : Kind) (m : ℕ) (qs : Parts) → spec.placed_reference first some around kind m qs ≡ chosen (spec.placed_reference first any_reference around kind m qs)
  here around Kind.IdentifierReference m qs = refl
  here around kind m qs = refl

  mutual
    pub of_tree : (is_constructor : Bool) (around : List (ℕ × ℕ)) (t : Tree) → spec.placed_references first some is_constructor around t ≡ chosen (spec.placed_references first any_reference is_constructor around t)
    of_tree is_constructor around (Node kind m span semantic_id qs) =
        two (spec.placed_reference first some around kind m qs) (spec.placed_in first some (is_constructor_part kind qs) (functions_in first is_constructor around kind m) qs) (spec.placed_reference first any_reference around kind m qs) (spec.placed_in first any_reference (is_constructor_part kind qs) (functions_in first is_constructor around kind m) qs)
        (here around kind m qs) (of_parts (is_constructor_part kind qs) (functions_in first is_constructor around kind m) qs)

    of_parts : (constructors : ℕ → Bool) (around : ℕ → List (ℕ × ℕ)) (qs : Parts) → spec.placed_in first some constructors around qs ≡ chosen (spec.placed_in first any_reference constructors around qs)
    of_parts constructors around end = refl
    of_parts constructors around (more q qs) =
        two (spec.placed_at first some (constructors 0) (around 0) q) (spec.placed_in first some (λ i. constructors (suc i)) (λ i. around (suc i)) qs) (spec.placed_at first any_reference (constructors 0) (around 0) q) (spec.placed_in first any_reference (λ i. constructors (suc i)) (λ i. around (suc i)) qs)
        (of_part (constructors 0) (around 0) q) (of_parts (λ i. constructors (suc i)) (λ i. around (suc i)) qs)

    of_part : (is_constructor : Bool) (around : List (ℕ × ℕ)) (q : Part) → spec.placed_at first some is_constructor around q ≡ chosen (spec.placed_at first any_reference is_constructor around q)
    of_part is_constructor around (child t) = of_tree is_constructor around t
    of_part is_constructor around (list qs) = of_list around qs
    of_part is_constructor around q = refl

    of_list : (around : List (ℕ × ℕ)) (qs : Parts) → spec.placed_of first some around qs ≡ chosen (spec.placed_of first any_reference around qs)
    of_list around end = refl
    of_list around (more q qs) =
        two (spec.placed_at first some false around q) (spec.placed_of first some around qs) (spec.placed_at first any_reference false around q) (spec.placed_of first any_reference around qs)
        (of_part false around q) (of_list around qs)
