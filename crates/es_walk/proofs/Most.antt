-- A tree weighs at most so many for each node as the heaviest kind does.
use Rattle.std.specs.Prelude.{ℕ, ◌*◌, ◌≤◌}
use Rattle.std.proofs.Common.{arith}
use Rattle.std.proofs.Math.Nat.{mul-add}
use Rattle.es_base.specs.Preorder.{nodes, nodes_of, nodes_of_part}
use Rattle.es_base.specs.Tree.{Tree, Part, Parts, Node, end, more, child, absent, list, string, no_string, boolean, literal}
use Rattle.es_base.specs.declared.kind.Kind.{Kind}
use Rattle.es_walk.specs.Weight.{total, total_of, total_of_part}

module _ (w : Kind → ℕ) (n : ℕ) (most : (k : Kind) → w k ≤ n) where
  mutual
    pub total-most : (t : Tree) → total w t ≤ n * nodes t
    total-most (Node k i sp si ps) = omega (arith, most k, total_of-most ps, mul-add n 1 (nodes_of ps))

    total_of_part-most : (p : Part) → total_of_part w p ≤ n * nodes_of_part p
    total_of_part-most (child t) = total-most t
    total_of_part-most absent = omega arith
    total_of_part-most (list all) = total_of-most all
    total_of_part-most (string s) = omega arith
    total_of_part-most no_string = omega arith
    total_of_part-most (boolean b) = omega arith
    total_of_part-most (literal v) = omega arith

    total_of-most : (ps : Parts) → total_of w ps ≤ n * nodes_of ps
    total_of-most end = omega arith
    total_of-most (more p ps) = omega (arith, total_of_part-most p, total_of-most ps, mul-add n (nodes_of_part p) (nodes_of ps))
