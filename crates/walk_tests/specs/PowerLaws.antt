-- The laws of the hooks that replace powers.
use Rattle.std.specs.Prelude.{◌≡◌, ℕ, ◌+◌, ◌≤◌, ◌&&◌, Bool, true, false, Option, length, refl}
use Rattle.std.proofs.Common.{ap, arith}
use Rattle.es_base.specs.Preorder.{nodes, nodes_of}
use Rattle.es_base.specs.Tree.{Tree, Part, Parts, Node, end, more, child, absent, list, string, no_string, boolean, literal}
use Rattle.es_base.specs.declared.kind.Kind.{Kind}
use Rattle.es_ctx.specs.Stores.{stored}
use Rattle.es_ctx.specs.declared.ctx.TraverseCtx.{TraverseCtx}
use Rattle.es_walk.specs.Given.{Ids, ids_given-few, ids_given-more, load}
use Rattle.es_walk.specs.Idle.{NothingKept}
use Rattle.es_walk.specs.Laws.{AllSettled, BelowSettled, PartsSettled, PartSettled, ItemsSettled, ItemSettled}
use Rattle.es_walk.specs.Placing.{place_here}
use Rattle.es_walk.specs.SettledStores.{ListsSettled}
use Rattle.es_walk.specs.Steps.{KeepPlaces}
use Rattle.es_walk.specs.Weight.{total, heft, NoMore, KeepsReady}
use Rattle.walk_tests.specs.Power.{is_binary, has_power, is_power, IsNoPower, called, replaced, lowered, three_if, weight_if, weight, Enters, Leaves}

weighs_if : (b : Bool) → 1 ≤ weight_if b
weighs_if true = omega arith
weighs_if false = omega arith

pub weighs_something : (k : Kind) → 1 ≤ weight k
weighs_something k = weighs_if (is_binary k)

nodes-called : (n : ℕ) (ps : Parts) → nodes_of (called n ps) ≤ nodes_of ps + 3
nodes-called n end = omega arith
nodes-called n (more p ps) = omega arith

-- a power weighs its call and the numbers of it
replaced-total : (n : ℕ) (b c : Bool) (k : Kind) (i : ℕ) (sp : Option (ℕ × ℕ)) (si : Option ℕ) (ps : Parts) → nodes (replaced (b && c) n (Node k i sp si ps)) + three_if (b && c) ≤ weight_if b + nodes_of ps
replaced-total n true true k i sp si ps = omega (arith, nodes-called n ps)
replaced-total n true false k i sp si ps = omega arith
replaced-total n false c k i sp si ps = omega arith

pub lowered-total : (n : ℕ) (t : Tree) → nodes (lowered n t) + three_if (is_power t) ≤ heft weight t
lowered-total n (Node k i sp si ps) = replaced-total n (is_binary k) (has_power ps) k i sp si ps

most_if : (b : Bool) → weight_if b ≤ 7
most_if true = omega arith
most_if false = omega arith

pub weighs_most : (k : Kind) → weight k ≤ 7
weighs_most k = most_if (is_binary k)

-- ---- settled

as_item : (p : Part) → PartSettled IsNoPower p → ItemSettled IsNoPower p
as_item (child t) h = h
as_item absent h = tt {0}
as_item (list all) h = tt {0}
as_item (string s) h = tt {0}
as_item no_string h = tt {0}
as_item (boolean b) h = tt {0}
as_item (literal v) h = tt {0}

as_items : (ps : Parts) → PartsSettled IsNoPower ps → ItemsSettled IsNoPower ps
as_items end h = tt {0}
as_items (more p ps) h = (as_item p h.0, as_items ps h.1)

called-settled : (n : ℕ) (ps : Parts) → PartsSettled IsNoPower ps → PartsSettled IsNoPower (called n ps)
called-settled n end h = h
called-settled n (more p ps) h = ((refl, ((refl, (tt {0}, tt {0})), ((refl, (tt {0}, tt {0})), (tt {0}, (tt {0}, tt {0}))))), (as_items ps h.1, (tt {0}, tt {0})))

replaced-settled : (b : Bool) (n : ℕ) (t : Tree) → is_power t ≡ b → BelowSettled IsNoPower t → AllSettled IsNoPower (replaced b n t)
replaced-settled true n (Node k i sp si ps) is h = (refl, called-settled n ps h)
replaced-settled false n (Node k i sp si ps) is h = (is, h)

pub lowered-settled : (n : ℕ) (t : Tree) → BelowSettled IsNoPower t → AllSettled IsNoPower (lowered n t)
lowered-settled n t h = replaced-settled (is_power t) n t refl h

-- ---- the hooks, and what the walk does beside them

module _ {T : Type 0} where
  pub enter_ready : (goes : Bool) → KeepsReady {S = T × TraverseCtx} (Enters goes) NothingKept
  enter_ready goes s e t u h r = rw h.2 r

  pub leave_ready : KeepsReady {S = T × TraverseCtx} Leaves NothingKept
  leave_ready s e t u h r = rw h.3 r

  pub enter_pays : (goes : Bool) (ids : Ids) → NoMore {S = T × TraverseCtx} (Enters goes) (total weight) (total weight) (load (λ t. 0) ids)
  enter_pays goes ids s e t u h = rw (h.1, h.2) (omega arith)

  pub leave_pays : (ids : Ids) → NoMore {S = T × TraverseCtx} Leaves (heft weight) nodes (load (λ t. 0) ids)
  leave_pays ids s e t u h = omega (arith, ap nodes h.0, lowered-total s.1.next t, ids_given-few ids (three_if (is_power t)) s.1 e.1 h.1 (ap (λ x. x.scoping) h.4), ap stored h.3)

  pub enter_keeps_place : (goes : Bool) → KeepPlaces {T = T} (Enters goes)
  enter_keeps_place goes s e t u h = rw h.2 (place_here s)

  pub leave_keeps_place : KeepPlaces {T = T} Leaves
  leave_keeps_place s e t u h = record { path = h.2; depth = ap length h.3; given = λ ids. ids_given-more ids s.1 e.1 (omega (arith, h.1)) (ap (λ x. x.scoping) h.4) }

  pub enter_settles : (s e : T × TraverseCtx) (t u : Tree) → Enters true s t e u → NothingKept s → ListsSettled IsNoPower s.1.lists → ListsSettled IsNoPower e.1.lists
  enter_settles s e t u h r l = rw h.2 l

  pub pass_settles : (s e : T × TraverseCtx) (t u : Tree) → Enters false s t e u → NothingKept s → ListsSettled IsNoPower s.1.lists → ListsSettled IsNoPower e.1.lists × AllSettled IsNoPower u
  pass_settles s e t u h r l = absurd (cc h.0)

  pub leave_settles : (s e : T × TraverseCtx) (t u : Tree) → Leaves s t e u → NothingKept s → ListsSettled IsNoPower s.1.lists → BelowSettled IsNoPower t → ListsSettled IsNoPower e.1.lists × AllSettled IsNoPower u
  leave_settles s e t u h r l below = (rw h.3 l, rw h.0 (lowered-settled s.1.next t below))
