-- Hooks that change nothing but the transform's own state.
use Rattle.std.specs.Prelude.{◌≡◌, ℕ, ◌≤◌, List, Bool, Option, Some, None, refl}
use Rattle.std.proofs.Common.{ap, ◌∙◌, arith}
use Rattle.es_base.specs.Preorder.{nodes, nodes_of, nodes_of_part}
use Rattle.es_base.specs.Tree.{Tree, Part, Parts, Node, end, more, child, absent, list, string, no_string, boolean, literal}
use Rattle.es_base.specs.declared.kind.Kind.{Kind}
use Rattle.es_ctx.specs.declared.ctx.TraverseCtx.{TraverseCtx}
use Rattle.es_node.specs.View.{kind_of}
use Rattle.es_walk.specs.Any.{Any, any_settled}
use Rattle.es_walk.specs.Given.{Ids, load}
use Rattle.es_walk.specs.Holes.{Hole}
use Rattle.es_walk.specs.Hooks as hooks
use Rattle.es_walk.specs.Hooks.{is_entering, is_leaving, is_last, role_here, enter_hook_of_role, enter_hook_of_kind, exit_hook_of_role, exit_hook_of_kind, Calls, EntersNode, LeavesNode}
use Rattle.es_walk.specs.Laws.{AllSettled, BelowSettled}
use Rattle.es_walk.specs.SettledStores.{ListsSettled}
use Rattle.es_walk.specs.Placing.{place_same}
use Rattle.es_walk.specs.Steps.{KeepPlaces}
use Rattle.es_walk.specs.Weight.{total, total_of, total_of_part, heft, NoMore}
use Rattle.es_walk.specs.Whole.{whole}
use Rattle.es_walk.specs.declared.hooks.Hook.{Hook}

abbrev pub Stays : {T : Type 0} → Hook → T × TraverseCtx → Tree → T × TraverseCtx → Tree → Type 0
Stays h s t e u = (u ≡ t) × (e.1 ≡ s.1)

abbrev pub weight : Kind → ℕ
weight k = 1

pub weighs_something : (k : Kind) → 1 ≤ weight k
weighs_something k = omega arith

pub heft-nodes : (t : Tree) → heft weight t ≡ nodes t
heft-nodes (Node k i sp si ps) = omega arith

mutual
  pub total_same : (t : Tree) → total weight t ≡ nodes t
  total_same (Node k i sp si ps) = omega (arith, total_of-same ps)

  total_of_part-same : (p : Part) → total_of_part weight p ≡ nodes_of_part p
  total_of_part-same (child t) = total_same t
  total_of_part-same absent = refl
  total_of_part-same (list all) = total_of-same all
  total_of_part-same (string s) = refl
  total_of_part-same no_string = refl
  total_of_part-same (boolean b) = refl
  total_of_part-same (literal v) = refl

  total_of-same : (ps : Parts) → total_of weight ps ≡ nodes_of ps
  total_of-same end = refl
  total_of-same (more p ps) = omega (arith, total_of_part-same p, total_of-same ps)

module _ {T : Type 0} where
  pub stays_pays : (h : Hook) (before : Tree → ℕ) (ids : Ids) → NoMore {S = T × TraverseCtx} (Stays h) before before (load (λ t. 0) ids)
  stays_pays h before ids s e t u x = rw (x.0, x.1) (omega arith)

  pub last_pays : (h : Hook) (ids : Ids) → NoMore {S = T × TraverseCtx} (Stays h) (heft weight) nodes (load (λ t. 0) ids)
  last_pays h ids s e t u x = rw (x.0, x.1) (omega (arith, heft-nodes t))

  pub keeps_place : (h : Hook) → KeepPlaces {T = T} (Stays h)
  keeps_place h s e t u x = place_same s e x.1

-- ---- all hooks of a node

calls_stay : {T : Type 0} (sort : Hook → Bool) (o : Option Hook) (s e : T × TraverseCtx) (t u : Tree) → Calls sort Stays o s t e u → (u ≡ t) × (e.1 ≡ s.1)
calls_stay sort (Some h) s e t u x = x.1
calls_stay sort None s e t u x = (x.0, ap (λ z. z.1) x.1)

enters_stay : {T : Type 0} (s e : T × TraverseCtx) (t u : Tree) → EntersNode Stays s t e u → (u ≡ t) × (e.1 ≡ s.1)
enters_stay s e t u (hooks.enters m v x y) =
    let first = calls_stay is_entering (enter_hook_of_role (role_here s.1.path) (kind_of t)) s m t v x in
    let second = calls_stay is_entering (enter_hook_of_kind (kind_of v)) m e v u y in
    (second.0 ∙ first.0, second.1 ∙ first.1)

leaves_stay : {T : Type 0} (s e : T × TraverseCtx) (t u : Tree) → LeavesNode Stays s t e u → (u ≡ t) × (e.1 ≡ s.1)
leaves_stay s e t u (hooks.leaves m v x y) =
    let first = calls_stay is_leaving (exit_hook_of_kind (kind_of t)) s m t v x in
    let second = calls_stay is_last (exit_hook_of_role (role_here s.1.path) (kind_of t)) m e v u y in
    (second.0 ∙ first.0, second.1 ∙ first.1)

-- the whole is the program
abbrev pub Keeps : {T : Type 0} → T × TraverseCtx → Tree → T × TraverseCtx → Tree → List Tree → List Tree → Type 0
Keeps begin program s t around rest = t ≡ program

module _ {T : Type 0} where
  pub enter_settles : (s e : T × TraverseCtx) (t u : Tree) → EntersNode Stays s t e u → ListsSettled Any s.1.lists → ListsSettled Any e.1.lists
  enter_settles s e t u h l = rw (enters_stay s e t u h).1 l

  pub leave_settles : (s e : T × TraverseCtx) (t u : Tree) → LeavesNode Stays s t e u → ListsSettled Any s.1.lists → BelowSettled Any t → ListsSettled Any e.1.lists × AllSettled Any u
  leave_settles s e t u h l below = let k = leaves_stay s e t u h in (rw k.1 l, any_settled u)

  pub enter_keeps : (program : Tree) (s e : T × TraverseCtx) (t u : Tree) → EntersNode Stays s t e u → (hole : Hole) → whole s.1.lists hole t ≡ program → whole e.1.lists hole u ≡ program
  enter_keeps program s e t u h hole x = let k = enters_stay s e t u h in rw (k.0, k.1) x

  pub leave_keeps : (program : Tree) (s e : T × TraverseCtx) (t u : Tree) → LeavesNode Stays s t e u → (hole : Hole) → whole s.1.lists hole t ≡ program → whole e.1.lists hole u ≡ program
  leave_keeps program s e t u h hole x = let k = leaves_stay s e t u h in rw (k.0, k.1) x
