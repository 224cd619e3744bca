-- A walk that makes a reference for each `this` and changes nothing else.
use Rattle.std.specs.Prelude.{◌≡◌, ℕ, ◌+◌, ◌≤◌, Bool, true, false, ◌&&◌, length}
use Rattle.std.proofs.Common.{ap, arith}
use Rattle.es_base.specs.Preorder.{nodes}
use Rattle.es_base.specs.Tree.{Tree, Node}
use Rattle.es_base.specs.declared.kind.Kind.{Kind}
use Rattle.es_ctx.specs.Stores.{stored}
use Rattle.es_ctx.specs.declared.ctx.TraverseCtx.{TraverseCtx}
use Rattle.es_walk.specs.Any.{Any, any_settled}
use Rattle.es_walk.specs.Given.{Ids, of_nodes, of_scopes, of_symbols, of_references, ids_given, load}
use Rattle.es_walk.specs.Laws.{AllSettled, BelowSettled}
use Rattle.es_walk.specs.Placing.{place_here}
use Rattle.es_walk.specs.SettledStores.{ListsSettled}
use Rattle.es_walk.specs.Steps.{KeepPlaces}
use Rattle.es_walk.specs.Weight.{total, heft, NoMore}
use Rattle.walk_tests.specs.Hoist.{Enters, is_this, is_this_kind, is_none}

abbrev pub one_if : Bool → ℕ
one_if true = 1
one_if false = 0

-- a `this` weighs its reference beside itself
abbrev pub weight : Kind → ℕ
weight k = 1 + one_if (is_this_kind k)

pub weighs_something : (k : Kind) → 1 ≤ weight k
weighs_something k = omega arith

most_if : (b : Bool) → one_if b ≤ 1
most_if true = omega arith
most_if false = omega arith

pub weighs_most : (k : Kind) → weight k ≤ 2
weighs_most k = omega (arith, most_if (is_this_kind k))

pub record Leaves {T : Type 0} (s : T × TraverseCtx) (t : Tree) (e : T × TraverseCtx) (u : Tree) : Type 0 where
  pub node : u ≡ t
  pub next : e.1.next ≡ s.1.next
  pub path : e.1.path ≡ s.1.path
  pub lists : e.1.lists ≡ s.1.lists
  pub scopes : e.1.scoping.scoping.scopes ≡ s.1.scoping.scoping.scopes
  pub symbols : e.1.scoping.scoping.symbols ≡ s.1.scoping.scoping.symbols
  pub references : length e.1.scoping.scoping.references ≡ length s.1.scoping.scoping.references + one_if (is_this t)

fewer : (b c : Bool) → one_if (b && c) ≤ one_if b
fewer true true = omega arith
fewer true false = omega arith
fewer false c = omega arith

pub weighs_reference : (t : Tree) → nodes t + one_if (is_this t) ≤ heft weight t
weighs_reference (Node k i sp si ps) = omega (arith, fewer (is_this_kind k) (is_none ps))

given_few : {T : Type 0} (ids : Ids) (s : T × TraverseCtx) (t : Tree) (e : T × TraverseCtx) (u : Tree) → Leaves s t e u → ids_given ids e.1 ≤ ids_given ids s.1 + one_if (is_this t)
given_few of_nodes s t e u h = omega (arith, h.next)
given_few of_scopes s t e u h = omega (arith, ap length h.scopes)
given_few of_symbols s t e u h = omega (arith, ap length h.symbols)
given_few of_references s t e u h = omega (arith, h.references)

given_more : {T : Type 0} (ids : Ids) (s : T × TraverseCtx) (t : Tree) (e : T × TraverseCtx) (u : Tree) → Leaves s t e u → ids_given ids s.1 ≤ ids_given ids e.1
given_more of_nodes s t e u h = omega (arith, h.next)
given_more of_scopes s t e u h = omega (arith, ap length h.scopes)
given_more of_symbols s t e u h = omega (arith, ap length h.symbols)
given_more of_references s t e u h = omega (arith, h.references)

module _ {T : Type 0} where
  pub enter_pays : (goes : Bool) (ids : Ids) → NoMore {S = T × TraverseCtx} (Enters goes) (total weight) (total weight) (load (λ t. 0) ids)
  enter_pays goes ids s e t u h = rw (h.1, h.2) (omega arith)

  pub leave_pays : (ids : Ids) → NoMore {S = T × TraverseCtx} Leaves (heft weight) nodes (load (λ t. 0) ids)
  leave_pays ids s e t u h = omega (arith, ap nodes h.node, ap stored h.lists, weighs_reference t, given_few ids s t e u h)

  pub enter_keeps_place : (goes : Bool) → KeepPlaces {T = T} (Enters goes)
  enter_keeps_place goes s e t u h = rw h.2 (place_here s)

  pub leave_keeps_place : KeepPlaces {T = T} Leaves
  leave_keeps_place s e t u h = record { path = h.path; depth = ap length h.lists; given = λ ids. given_more ids s t e u h }

  pub enter_settles : (s e : T × TraverseCtx) (t u : Tree) → Enters true s t e u → ListsSettled Any s.1.lists → ListsSettled Any e.1.lists
  enter_settles s e t u h l = rw h.2 l

  pub leave_settles : (s e : T × TraverseCtx) (t u : Tree) → Leaves s t e u → ListsSettled Any s.1.lists → BelowSettled Any t → ListsSettled Any e.1.lists × AllSettled Any u
  leave_settles s e t u h l below = (rw h.lists l, any_settled u)
