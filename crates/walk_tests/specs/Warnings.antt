-- A walk that warns of each `await` and changes nothing else.
use Rattle.std.specs.Prelude.{◌≡◌, ℕ, List, [], ◌∷◌, ◌++◌, Bool, true, false, map, length, refl}
use Rattle.std.proofs.Common.{ap, sym, ◌∙◌, arith, append-nil, append_assoc}
use Rattle.es_base.specs.Preorder.{nodes}
use Rattle.es_base.specs.Tree.{Tree, Part, Node}
use Rattle.es_base.specs.declared.diagnostic.Diagnostic.{Diagnostic}
use Rattle.es_base.specs.declared.kind.Kind.{Kind}
use Rattle.es_ctx.specs.Stores.{stored}
use Rattle.es_ctx.specs.declared.ancestor.Parent.{Parent}
use Rattle.es_ctx.specs.declared.ctx.TraverseCtx.{TraverseCtx}
use Rattle.es_scopes.specs.Table.{Table}
use Rattle.es_walk.specs.Any.{Any, any_settled}
use Rattle.es_walk.specs.Given.{Ids, ids_given-same, load}
use Rattle.es_walk.specs.Holes.{Hole, pending, pending_below}
use Rattle.es_walk.specs.Laws.{AllSettled, BelowSettled}
use Rattle.es_walk.specs.Placing.{place_same}
use Rattle.es_walk.specs.SettledStores.{ListsSettled}
use Rattle.es_walk.specs.Steps.{OpensPart, ClosesPart, KeepPlaces}
use Rattle.es_walk.specs.Weight.{total, heft, NoMore}
use Rattle.es_walk.specs.Whole.{whole}
use Rattle.walk_tests.specs.Calls.{weight, heft-nodes}

-- the numbers of the nodes that are warned of
abbrev pub warned : List Diagnostic → List ℕ
warned found = map (λ d. d.node.0) found

abbrev pub own_await : Tree → List ℕ
own_await (Node Kind.AwaitExpression i sp si ps) = i ∷ []
own_await t = []

-- the numbers of those of these nodes that are `await`s
abbrev pub awaits : List Tree → List ℕ
awaits [] = []
awaits (t ∷ ts) = own_await t ++ awaits ts

pub record Enters {T : Type 0} (goes : Bool) (s : T × TraverseCtx) (t : Tree) (e : T × TraverseCtx) (u : Tree) : Type 0 where
  pub into : goes ≡ true
  pub node : u ≡ t
  pub next : e.1.next ≡ s.1.next
  pub path : e.1.path ≡ s.1.path
  pub lists : e.1.lists ≡ s.1.lists
  pub scoping : e.1.scoping ≡ s.1.scoping
  pub warnings : warned e.1.diagnostics ≡ warned s.1.diagnostics ++ own_await t

abbrev pub Leaves : {T : Type 0} → T × TraverseCtx → Tree → T × TraverseCtx → Tree → Type 0
Leaves s t e u = (u ≡ t) × (e.1 ≡ s.1)

-- a walk goes into every node
pub never : {A : Type 0} → false ≡ true → A
never e = absurd (cc e)

-- the whole is the program, the warnings so far with the `await`s to come are all of them, and the table and the names stay
pub record Keeps {T : Type 0} (begin : T × TraverseCtx) (program : Tree) (s : T × TraverseCtx) (t : Tree) (around rest : List Tree) : Type 0 where
  pub same : t ≡ program
  pub warnings : warned s.1.diagnostics ++ awaits rest ≡ warned begin.1.diagnostics ++ awaits (pending program [])
  pub scoping : s.1.scoping ≡ begin.1.scoping

awaits-entered : (t : Tree) (rest : List Tree) → awaits (pending t rest) ≡ own_await t ++ awaits (pending_below t rest)
awaits-entered (Node k i sp si ps) rest = refl

module _ {T : Type 0} where
  pub enter_pays : (goes : Bool) (ids : Ids) → NoMore {S = T × TraverseCtx} (Enters goes) (total weight) (total weight) (load (λ t. 0) ids)
  enter_pays goes ids s e t u h = omega (arith, ap (total weight) h.node, ap stored h.lists, ids_given-same ids s.1 e.1 h.next (ap (λ x. x.scoping) h.scoping))

  pub leave_pays : (ids : Ids) → NoMore {S = T × TraverseCtx} Leaves (heft weight) nodes (load (λ t. 0) ids)
  leave_pays ids s e t u h = rw (h.0, h.1) (omega (arith, heft-nodes t))

  pub enter_keeps_place : (goes : Bool) → KeepPlaces {T = T} (Enters goes)
  enter_keeps_place goes s e t u h = record { path = h.path; depth = ap length h.lists; given = λ ids. omega (arith, ids_given-same ids s.1 e.1 h.next (ap (λ x. x.scoping) h.scoping)) }

  pub leave_keeps_place : KeepPlaces {T = T} Leaves
  leave_keeps_place s e t u h = place_same s e h.1

  pub enter_settles : (s e : T × TraverseCtx) (t u : Tree) → Enters true s t e u → ListsSettled Any s.1.lists → ListsSettled Any e.1.lists
  enter_settles s e t u h l = rw h.lists l

  pub leave_settles : (s e : T × TraverseCtx) (t u : Tree) → Leaves s t e u → ListsSettled Any s.1.lists → BelowSettled Any t → ListsSettled Any e.1.lists × AllSettled Any u
  leave_settles s e t u h l below = (rw h.1 l, any_settled u)

  pub enter_keeps : (begin : T × TraverseCtx) (program : Tree) (s e : T × TraverseCtx) (t u : Tree) → Enters true s t e u → (hole : Hole) (around rest : List Tree) → Keeps begin program s (whole s.1.lists hole t) around (pending t rest) → Keeps begin program e (whole e.1.lists hole u) (t ∷ around) (pending_below u rest)
  enter_keeps begin program s e t u h hole around rest x = record {
    same = rw (h.lists, h.node) x.same;
    warnings =
        ap (λ ns. ns ++ awaits (pending_below u rest)) h.warnings
        ∙ append_assoc (warned s.1.diagnostics) (own_await t) (awaits (pending_below u rest))
        ∙ ap (λ v. warned s.1.diagnostics ++ (own_await t ++ awaits (pending_below v rest))) h.node
        ∙ sym (ap (λ ns. warned s.1.diagnostics ++ ns) (awaits-entered t rest))
        ∙ x.warnings;
    scoping = h.scoping ∙ x.scoping;
  }

  pub leave_keeps : (begin : T × TraverseCtx) (program : Tree) (s e : T × TraverseCtx) (t u : Tree) → Leaves s t e u → (hole : Hole) (entered : Tree) (around rest : List Tree) → Keeps begin program s (whole s.1.lists hole t) (entered ∷ around) rest → Keeps begin program e (whole e.1.lists hole u) around rest
  leave_keeps begin program s e t u h hole entered around rest x = record { same = rw (h.0, h.1) x.same; warnings = rw h.1 x.warnings; scoping = rw h.1 x.scoping }

  pub open_keeps : (begin : T × TraverseCtx) (program : Tree) (s e : T × TraverseCtx) (parent : Parent) (at : ℕ) (p : Part) → OpensPart s parent at p e → (t : Tree) (around rest : List Tree) → Keeps begin program s t around rest → Keeps begin program e t around rest
  open_keeps begin program s e parent at p h t around rest x = record { same = x.same; warnings = rw h.outcome.diagnostics x.warnings; scoping = h.outcome.scoping ∙ x.scoping }

  pub close_keeps : (begin : T × TraverseCtx) (program : Tree) (s e : T × TraverseCtx) (parent : Parent) (at : ℕ) (p q : Part) → ClosesPart s parent at p e q → (t : Tree) (around rest : List Tree) → Keeps begin program s t around rest → Keeps begin program e t around rest
  close_keeps begin program s e parent at p q h t around rest x = record { same = x.same; warnings = rw h.outcome.diagnostics x.warnings; scoping = h.outcome.scoping ∙ x.scoping }

  -- as the walk begins, and at its end
  pub none_warned : (s : T × TraverseCtx) (program : Tree) → Keeps s program s program [] (pending program [])
  none_warned s program = record { same = refl; warnings = refl; scoping = refl }

  pub all_warned : (begin s : T × TraverseCtx) (program t : Tree) → begin.1.diagnostics ≡ [] → Keeps begin program s t [] [] → warned s.1.diagnostics ≡ awaits (pending program [])
  all_warned begin s program t none x = sym (append-nil (warned s.1.diagnostics)) ∙ x.warnings ∙ ap (λ ds. warned ds ++ awaits (pending program [])) none

  pub table_stays : (begin s : T × TraverseCtx) (program t : Tree) (table : Table) → begin.1.scoping.scoping ≡ table → Keeps begin program s t [] [] → s.1.scoping.scoping ≡ table
  table_stays begin s program t table is x = ap (λ c. c.scoping) x.scoping ∙ is
