-- Nodes that stay in the node or the function around them, node by node.
use Rattle.std.proofs.Common.{◌≡◌, refl, sym, ap, ◌∙◌, ℕ, suc, ◌+◌, List, [], ◌∷◌, ◌++◌, ◌&&◌, append_assoc, arith}
use Rattle.es_base.specs.Tree.{Tree, Parts, Node, end, more}
use Rattle.es_base.specs.declared.kind.Kind.{Kind}
use Rattle.es_lowered.specs.Bound.{BoundPlace, body_around, bound_at, bound_block, bound_in, bound_node, bound_nodes, parameters_around, place_inside}
use Rattle.es_node.specs.View.{kind_of, number_in, parts_in}
use Rattle.es_steps.specs.KeptNodes.{all_pairs_stand, pair_stands}
use Rattle.es_owed_carriers.specs.Places.{bound_from, own_bounds, place_within}

-- among lists that hold the same pairs
pub stand_alike : (xs ys zs : List (ℕ × ℕ)) → ((p : ℕ × ℕ) → pair_stands p ys ≡ pair_stands p zs) → all_pairs_stand xs ys ≡ all_pairs_stand xs zs
stand_alike [] ys zs same = refl
stand_alike (x ∷ xs) ys zs same = ap (λ b. b && all_pairs_stand xs ys) (same x) ∙ ap (λ b. pair_stands x zs && b) (stand_alike xs ys zs same)

from_place : (first : ℕ) (x f : ℕ → BoundPlace) (i : ℕ) (ps : Parts) → ((k : ℕ) → f k ≡ x (i + k)) → bound_in first f ps ≡ bound_from first x i ps
from_place first x f i end same = refl
from_place first x f i (more p ps) same =
    ap (λ (y : BoundPlace). bound_at first y p ++ bound_in first (λ k. f (suc k)) ps) (same 0 ∙ ap x (at_once i))
    ∙ ap (λ (bs : List (ℕ × ℕ)). bound_at first (x i) p ++ bs) (from_place first x (λ k. f (suc k)) (i + 1) ps (λ k. same (suc k) ∙ ap x (one_on i k)))
  where
    at_once : (i : ℕ) → i + 0 ≡ i
    at_once i = omega arith

    one_on : (i k : ℕ) → i + suc k ≡ (i + 1) + k
    one_on i k = omega arith

from_zero : (k : ℕ) → k ≡ 0 + k
from_zero k = omega arith

pub bound_by_node : (first : ℕ) (x : BoundPlace) (t : Tree) → bound_nodes first x t ≡ own_bounds first x t ++ bound_from first (place_within x t) 0 (parts_in t)
bound_by_node first x (Node kind m span semantic_id ps) =
    let inside = place_inside x kind m in
    ap (λ (bs : List (ℕ × ℕ)). bound_node first x kind m ps ++ (bound_block first x kind m ++ bs)) (from_place first inside inside 0 ps (λ k. ap inside (from_zero k)))
    ∙ sym (append_assoc (bound_node first x kind m ps) (bound_block first x kind m) (bound_from first inside 0 ps))

pub own_of_node : (first : ℕ) (x : BoundPlace) (t : Tree) → own_bounds first x t ≡ bound_node first x (kind_of t) (number_in t) (parts_in t) ++ bound_block first x (kind_of t) (number_in t)
own_of_node first x (Node kind m span semantic_id ps) = refl

pub no_block : (first : ℕ) (x : BoundPlace) (kind : Kind) (m : ℕ) → (kind ≡ Kind.BlockStatement → ⊥) → bound_block first x kind m ≡ []
no_block first x Kind.BlockStatement m other = absurd (other refl)
no_block first x kind m other = refl

pub place_node : (x : BoundPlace) (t : Tree) (i : ℕ) → place_within x t i ≡ record { kind = kind_of t; number = number_in t; of_function = body_around x.of_function (kind_of t) (number_in t) i; in_parameters = parameters_around x.in_parameters (kind_of t) i }
place_node x (Node kind m span semantic_id ps) i = refl
