-- Placed references, node by node.
use Rattle.std.proofs.Common.{◌≡◌, refl, ap, ◌∙◌, ℕ, suc, ◌+◌, List, [], ◌∷◌, ◌++◌, Bool, cond, ◌&&◌, ◌||◌, arith}
use Rattle.std.specs.Prelude.{not}
use Rattle.es_base.specs.Numbered.{is_new}
use Rattle.es_base.specs.Tree.{Tree, Parts, Node, end, more}
use Rattle.es_base.specs.declared.kind.Kind.{Kind}
use Rattle.es_lowered.specs.FunctionsAround.{PlacedReference, functions_in, placed_at, placed_in, placed_reference, placed_references}
use Rattle.es_node.specs.View.{kind_of, number_in, parts_in}
use Rattle.es_steps.specs.KeptNodes.{is_constructor_part}
use Rattle.es_steps.specs.NameScopes.{is_any_function}
use Rattle.es_steps.specs.Values.{String}
use Rattle.es_owed_places.specs.Placed.{constructors_within, functions_within, placed_from}

module _ (first : ℕ) (asked : ℕ → String → Bool) where
  pub no_reference : (around : List (ℕ × ℕ)) (kind : Kind) (m : ℕ) (ps : Parts) → (kind ≡ Kind.IdentifierReference → ⊥) → placed_reference first asked around kind m ps ≡ []
  no_reference around Kind.IdentifierReference m ps other = absurd (other refl)
  no_reference around kind m ps other = refl

  from_place : (c d : ℕ → Bool) (x y : ℕ → List (ℕ × ℕ)) (i : ℕ) (ps : Parts) → ((k : ℕ) → c k ≡ d (i + k)) → ((k : ℕ) → x k ≡ y (i + k)) → placed_in first asked c x ps ≡ placed_from first asked d y i ps
  from_place c d x y i end same alike = refl
  from_place c d x y i (more p ps) same alike =
      ap (λ (b : Bool). placed_at first asked b (x 0) p ++ placed_in first asked (λ k. c (suc k)) (λ k. x (suc k)) ps) (same 0 ∙ ap d (at_once i))
      ∙ ap (λ (z : List (ℕ × ℕ)). placed_at first asked (d i) z p ++ placed_in first asked (λ k. c (suc k)) (λ k. x (suc k)) ps) (alike 0 ∙ ap y (at_once i))
      ∙ ap (λ (rs : List PlacedReference). placed_at first asked (d i) (y i) p ++ rs) (from_place (λ k. c (suc k)) d (λ k. x (suc k)) y (i + 1) ps (λ k. same (suc k) ∙ ap d (one_on i k)) (λ k. alike (suc k) ∙ ap y (one_on i k)))
    where
      at_once : (i : ℕ) → i + 0 ≡ i
      at_once i = omega arith

      one_on : (i k : ℕ) → i + suc k ≡ (i + 1) + k
      one_on i k = omega arith

  from_zero : (k : ℕ) → k ≡ 0 + k
  from_zero k = omega arith

  pub placed_node : (is_constructor : Bool) (around : List (ℕ × ℕ)) (t : Tree) → placed_references first asked is_constructor around t ≡ placed_reference first asked around (kind_of t) (number_in t) (parts_in t) ++ placed_from first asked (constructors_within t) (functions_within first is_constructor around t) 0 (parts_in t)
  placed_node is_constructor around (Node kind m span semantic_id ps) =
      ap (λ (rs : List PlacedReference). placed_reference first asked around kind m ps ++ rs)
      (from_place (is_constructor_part kind ps) (is_constructor_part kind ps) (functions_in first is_constructor around kind m) (functions_in first is_constructor around kind m) 0 ps (λ k. ap (is_constructor_part kind ps) (from_zero k)) (λ k. ap (functions_in first is_constructor around kind m) (from_zero k)))

pub functions_node : (first : ℕ) (is_constructor : Bool) (around : List (ℕ × ℕ)) (t : Tree) (i : ℕ) → functions_within first is_constructor around t i ≡ cond (is_any_function (kind_of t) && not (is_constructor || is_new first (number_in t))) ((number_in t, i) ∷ around) around
functions_node first is_constructor around (Node kind m span semantic_id ps) i = refl

pub constructors_node : (t : Tree) (i : ℕ) → constructors_within t i ≡ is_constructor_part (kind_of t) (parts_in t) i
constructors_node (Node kind m span semantic_id ps) i = refl
