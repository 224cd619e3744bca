-- What a list weighs, of which the first items have been walked.
use Rattle.std.specs.Prelude.{◌≡◌, ℕ, ◌+◌, ◌<◌, ◌≤◌, List, [], ◌∷◌, ◌++◌, take, drop, length}
use Rattle.std.proofs.Common.{ap, get_or, set, arith}
use Rattle.std.proofs.lemmas.List.{take_more_set}
use Rattle.es_base.specs.Preorder.{nodes_of, nodes_of_part}
use Rattle.es_base.specs.Tree.{Part, Parts, end, more}
use Rattle.es_base.specs.declared.kind.Kind.{Kind}
use Rattle.es_ctx.specs.declared.ctx.TraverseCtx.{TraverseCtx}
use Rattle.es_visit.proofs.Along.{from_here, behind}
use Rattle.es_walk.specs.Given.{Ids, load}
use Rattle.es_walk.specs.Weight.{total_of, total_of_part}

-- what is left to spend with the numbers given has not grown
pub record Load {X : Type 0} {T : Type 0} (all : List X → Parts) (w : Kind → ℕ) (spare : T → ℕ) (s0 : T × TraverseCtx) (xs0 : List X) (s : T × TraverseCtx) (xs : List X) (i : ℕ) : Type 0 where
  pub pays : (ids : Ids) → nodes_of (all (take i xs)) + total_of w (all (drop i xs)) + load spare ids s ≤ total_of w (all xs0) + load spare ids s0
  pub given : s0.1.next ≤ s.1.next

module _ {X : Type 0} (one : X → Part) (all : List X → Parts) (nil : all [] ≡ end) (cons : (x : X) (xs : List X) → all (x ∷ xs) ≡ more (one x) (all xs)) (w : Kind → ℕ) where
  nodes-push : (xs : List X) (y : X) → nodes_of (all (xs ++ y ∷ [])) ≡ nodes_of (all xs) + nodes_of_part (one y)
  nodes-push [] y = omega (arith, ap nodes_of (cons y []), ap nodes_of nil)
  nodes-push (x ∷ xs) y = omega (arith, ap nodes_of (cons x (xs ++ y ∷ [])), ap nodes_of (cons x xs), nodes-push xs y)

  -- what is left is no less than the item
  pub item_load : (xs : List X) (i : ℕ) (d : X) → i < length xs → total_of w (all (drop i xs)) ≡ total_of_part w (one (get_or xs i d)) + total_of w (all (drop (i + 1) xs))
  item_load xs i d within = ap (total_of w) (from_here one all nil cons xs i d within)

  pub set_load : (xs : List X) (i : ℕ) (y : X) → i < length xs → nodes_of (all (take (i + 1) (set xs i y))) + total_of w (all (drop (i + 1) (set xs i y))) ≡ nodes_of (all (take i xs)) + nodes_of_part (one y) + total_of w (all (drop (i + 1) xs))
  set_load xs i y within = omega (arith, ap (λ zs. nodes_of (all zs)) (take_more_set xs i y within), nodes-push (take i xs) y, ap (total_of w) (behind one all nil cons xs i y))

  pub load_begun : {T : Type 0} (spare : T → ℕ) (s : T × TraverseCtx) (xs : List X) → Load all w spare s xs s xs 0
  load_begun spare s xs = record { pays = λ ids. omega (arith, ap nodes_of nil); given = omega arith }
