-- Hooks that are functions of the node, and leave the transform and the context as they are.
use Rattle.std.specs.Prelude.{◌≡◌, ℕ, ◌≤◌, Bool, true, false}
use Rattle.std.proofs.Common.{arith}
use Rattle.es_base.specs.Preorder.{nodes}
use Rattle.es_base.specs.Tree.{Tree}
use Rattle.es_base.specs.declared.kind.Kind.{Kind}
use Rattle.es_ctx.specs.declared.ctx.TraverseCtx.{TraverseCtx}
use Rattle.es_visit.specs.Changed.{chosen}
use Rattle.es_walk.specs.Given.{Ids, load}
use Rattle.es_walk.specs.Idle.{NothingKept}
use Rattle.es_walk.specs.Placing.{place_here}
use Rattle.es_walk.specs.Steps.{KeepPlaces}
use Rattle.es_walk.specs.Weight.{total, heft, NoMore, KeepsReady}

-- the walk goes into a node where `goes` says so, and finds it as it was; `passed` says what becomes of any other
pub record Enters {T : Type 0} (goes : Tree → Bool) (passed : Tree → Tree) (answer : Bool) (s : T × TraverseCtx) (t : Tree) (e : T × TraverseCtx) (u : Tree) : Type 0 where
  pub answered : answer ≡ goes t
  pub node : u ≡ chosen answer t (passed t)
  pub state : e ≡ s

pub record Leaves {T : Type 0} (left : Tree → Tree) (s : T × TraverseCtx) (t : Tree) (e : T × TraverseCtx) (u : Tree) : Type 0 where
  pub node : u ≡ left t
  pub state : e ≡ s

chosen-weighs : (weight : Kind → ℕ) (b : Bool) (t u : Tree) → total weight u ≤ total weight t → total weight (chosen b t u) ≤ total weight t
chosen-weighs weight true t u h = omega arith
chosen-weighs weight false t u h = h

-- ---- the laws of such hooks

module _ {T : Type 0} (goes : Tree → Bool) (passed left : Tree → Tree) where
  pub enter_ready : (answer : Bool) → KeepsReady {S = T × TraverseCtx} (Enters goes passed answer) NothingKept
  enter_ready answer s e t u h r = rw h.state r

  pub leave_ready : KeepsReady {S = T × TraverseCtx} (Leaves left) NothingKept
  leave_ready s e t u h r = rw h.state r

  pub enter_keeps_place : (answer : Bool) → KeepPlaces {T = T} (Enters goes passed answer)
  enter_keeps_place answer s e t u h = rw h.state (place_here s)

  pub leave_keeps_place : KeepPlaces {T = T} (Leaves left)
  leave_keeps_place s e t u h = rw h.state (place_here s)

  -- where no node becomes one that weighs more
  pub enter_pays : (weight : Kind → ℕ) (spare : T → ℕ) → ((t : Tree) → total weight (passed t) ≤ total weight t) → (answer : Bool) (ids : Ids) → NoMore {S = T × TraverseCtx} (Enters goes passed answer) (total weight) (total weight) (load spare ids)
  enter_pays weight spare law answer ids s e t u h = rw (h.node, h.state) (omega (arith, chosen-weighs weight answer t (passed t) (law t)))

  pub leave_pays : (weight : Kind → ℕ) (spare : T → ℕ) → ((t : Tree) → nodes (left t) ≤ heft weight t) → (ids : Ids) → NoMore {S = T × TraverseCtx} (Leaves left) (heft weight) nodes (load spare ids)
  leave_pays weight spare law ids s e t u h = rw (h.node, h.state) (omega (arith, law t))
