-- What a tree weighs before and after it was walked.
use Rattle.std.specs.Prelude.{ℕ, ◌+◌, ◌≤◌}
use Rattle.std.proofs.Common.{arith}
use Rattle.es_base.specs.declared.kind.Kind.{Kind}
use Rattle.es_base.specs.Preorder.{nodes, nodes_of, nodes_of_part}
use Rattle.es_base.specs.Tree.{Tree, Part, Parts, Node, end, more, child, absent, list, string, no_string, boolean, literal}

-- a tree that is still to be walked: each node weighs what its kind does
abbrev mutual
  pub total : (Kind → ℕ) → Tree → ℕ
  total w (Node kind id span semantic_id parts) = w kind + total_of w parts

  pub total_of_part : (Kind → ℕ) → Part → ℕ
  total_of_part w (child t) = total w t
  total_of_part w absent = 0
  total_of_part w (list all) = total_of w all
  total_of_part w (string chars) = 0
  total_of_part w no_string = 0
  total_of_part w (boolean value) = 0
  total_of_part w (literal value) = 0

  pub total_of : (Kind → ℕ) → Parts → ℕ
  total_of w end = 0
  total_of w (more first rest) = total_of_part w first + total_of w rest

-- a node below which everything was walked: there each node weighs one
abbrev pub heft : (Kind → ℕ) → Tree → ℕ
heft w (Node kind id span semantic_id parts) = w kind + nodes_of parts

-- a relation that does not let grow what a tree weighs with what a state still has
abbrev pub NoMore : {S : Type 0} → (S → Tree → S → Tree → Type 0) → (Tree → ℕ) → (Tree → ℕ) → (S → ℕ) → Type 0
NoMore {S} steps before after load = (s e : S) (t u : Tree) → steps s t e u → after u + load e ≤ before t + load s

-- a relation that keeps what holds of the state
abbrev pub KeepsReady : {S : Type 0} → (S → Tree → S → Tree → Type 0) → (S → Type 0) → Type 0
KeepsReady {S} steps ready = (s e : S) (t u : Tree) → steps s t e u → ready s → ready e

-- no node weighs nothing
module _ (w : Kind → ℕ) (some : (k : Kind) → 1 ≤ w k) where
  mutual
    pub nodes-total : (t : Tree) → nodes t ≤ total w t
    nodes-total (Node kind id span semantic_id parts) = omega (arith, some kind, nodes_of-total parts)

    pub nodes_of_part-total : (p : Part) → nodes_of_part p ≤ total_of_part w p
    nodes_of_part-total (child t) = nodes-total t
    nodes_of_part-total absent = omega arith
    nodes_of_part-total (list all) = nodes_of-total all
    nodes_of_part-total (string chars) = omega arith
    nodes_of_part-total no_string = omega arith
    nodes_of_part-total (boolean value) = omega arith
    nodes_of_part-total (literal value) = omega arith

    pub nodes_of-total : (ps : Parts) → nodes_of ps ≤ total_of w ps
    nodes_of-total end = omega arith
    nodes_of-total (more p ps) = omega (arith, nodes_of_part-total p, nodes_of-total ps)

  pub nodes-heft : (t : Tree) → nodes t ≤ heft w t
  nodes-heft (Node kind id span semantic_id parts) = omega (arith, some kind)

  pub total_some : (t : Tree) → 1 ≤ total w t
  total_some (Node kind id span semantic_id parts) = omega (arith, some kind)

  pub heft_some : (t : Tree) → 1 ≤ heft w t
  heft_some (Node kind id span semantic_id parts) = omega (arith, some kind)
