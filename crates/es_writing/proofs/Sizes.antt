-- How large a tree is: the measure of the walks. Each step into a tree leaves room for the steps that stay at it.
use Rattle.std.proofs.Common.{◌≡◌, ap, ℕ, zero, suc, ◌+◌, ◌<◌, ◌≤◌, List, [], ◌∷◌, length, get_or, Option, Some, arith}
use Rattle.es_base.specs.Tree.{Tree, Part as tree_part, Parts, Node, end, more, child, list, nullable, trees, nullable_trees}
use Rattle.es_node.specs.View.{part_of, parts_of, parts_in}
use Rattle.es_node.specs.declared.node.Part.{Part}
use Rattle.es_node.specs.declared.node.Part.TheVariants as code

abbrev mutual
  pub tree_size : Tree → ℕ
  tree_size (Node kind id span semantic_id parts) = parts_size parts + 4

  pub part_size : tree_part → ℕ
  part_size (child t) = tree_size t
  part_size (list ps) = parts_size ps + 4
  part_size _ = 0

  pub parts_size : Parts → ℕ
  parts_size end = 0
  parts_size (more p ps) = part_size p + parts_size ps

pub size_of_tree : (t : Tree) (ps : List Part) → parts_in t ≡ parts_of ps → tree_size t ≡ parts_size (parts_of ps) + 4
size_of_tree (Node kind id span semantic_id parts) ps is = ap (λ qs. parts_size qs + 4) is

pub size_of_child : (p : Part) (t : Tree) → p ≡ code.Child t → part_size (part_of p) ≡ tree_size t
size_of_child p t is = ap (λ q. part_size (part_of q)) is

pub size_of_list : (p : Part) (ts : List Tree) → p ≡ code.List ts → part_size (part_of p) ≡ parts_size (trees ts) + 4
size_of_list p ts is = ap (λ q. part_size (part_of q)) is

pub size_of_holes : (p : Part) (ts : List (Option Tree)) → p ≡ code.Holes ts → part_size (part_of p) ≡ parts_size (nullable_trees ts) + 4
size_of_holes p ts is = ap (λ q. part_size (part_of q)) is

pub size_of_nullable : (o : Option Tree) (t : Tree) → o ≡ Some t → part_size (nullable o) ≡ tree_size t
size_of_nullable o t is = ap (λ q. part_size (nullable q)) is

-- an item of a list of parts, of nodes, and of nodes that may be absent
pub size_of_item : (ps : List Part) (i : ℕ) (p : Part) → i < length ps → p ≡ get_or ps i p → part_size (part_of p) ≤ parts_size (parts_of ps)
size_of_item ps i p within is = let less = size_at ps i within in omega (arith, less, ap (λ x. part_size (part_of x)) is) where
  size_at : (ps : List Part) (i : ℕ) → i < length ps → part_size (part_of (get_or ps i p)) ≤ parts_size (parts_of ps)
  size_at [] i within = absurd (omega arith)
  size_at (q ∷ ps) zero within = omega arith
  size_at (q ∷ ps) (suc i) within =
      let less : part_size (part_of (get_or ps i p)) ≤ parts_size (parts_of ps) = size_at ps i (omega arith) in
      omega arith

pub size_of_node : (ts : List Tree) (i : ℕ) (t : Tree) → i < length ts → t ≡ get_or ts i t → tree_size t ≤ parts_size (trees ts)
size_of_node ts i t within is = let less = size_at ts i within in omega (arith, less, ap tree_size is) where
  size_at : (ts : List Tree) (i : ℕ) → i < length ts → tree_size (get_or ts i t) ≤ parts_size (trees ts)
  size_at [] i within = absurd (omega arith)
  size_at (u ∷ ts) zero within = omega arith
  size_at (u ∷ ts) (suc i) within =
      let less : tree_size (get_or ts i t) ≤ parts_size (trees ts) = size_at ts i (omega arith) in
      omega arith

pub size_of_nullable_node : (ts : List (Option Tree)) (i : ℕ) (o : Option Tree) → i < length ts → o ≡ get_or ts i o → part_size (nullable o) ≤ parts_size (nullable_trees ts)
size_of_nullable_node ts i o within is = let less = size_at ts i within in omega (arith, less, ap (λ x. part_size (nullable x)) is) where
  size_at : (ts : List (Option Tree)) (i : ℕ) → i < length ts → part_size (nullable (get_or ts i o)) ≤ parts_size (nullable_trees ts)
  size_at [] i within = absurd (omega arith)
  size_at (u ∷ ts) zero within = omega arith
  size_at (u ∷ ts) (suc i) within =
      let less : part_size (nullable (get_or ts i o)) ≤ parts_size (nullable_trees ts) = size_at ts i (omega arith) in
      omega arith
