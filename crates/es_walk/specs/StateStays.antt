-- What walks keep whose hooks are functions of the node, and leave the transform and the context as they are: the state stays.
use Rattle.std.specs.Prelude.{◌≡◌, ℕ, List, Bool, true, false, refl}
use Rattle.std.proofs.Common.{◌∙◌, sym}
use Rattle.es_base.specs.Tree.{Tree, Part}
use Rattle.es_ctx.specs.Outcome.{KeepsOutcome}
use Rattle.es_ctx.specs.declared.ancestor.Parent.{Parent}
use Rattle.es_ctx.specs.declared.ctx.TraverseCtx.{TraverseCtx}
use Rattle.es_walk.specs.Holes.{Hole, places}
use Rattle.es_walk.specs.Idle.{NothingKept}
use Rattle.es_walk.specs.Laws.{AllSettled, BelowSettled}
use Rattle.es_walk.specs.Rewriting.{Enters, Leaves}
use Rattle.es_walk.specs.SettledStores.{ListsSettled}
use Rattle.es_walk.specs.Steps.{OpensPart, ClosesPart, path_of, lists_of}

-- ---- what is settled

-- what the hooks leave, where the functions give what is settled
module _ {T : Type 0} (goes : Tree → Bool) (passed left : Tree → Tree) (settled : Tree → Type 0) where
  pub enter_settles : (s e : T × TraverseCtx) (t u : Tree) → Enters goes passed true s t e u → NothingKept s → ListsSettled settled (lists_of s) → ListsSettled settled (lists_of e)
  enter_settles s e t u h r l = rw h.state l

  pub pass_settles : ((t : Tree) → goes t ≡ false → AllSettled settled (passed t)) → (s e : T × TraverseCtx) (t u : Tree) → Enters goes passed false s t e u → NothingKept s → ListsSettled settled (lists_of s) → ListsSettled settled (lists_of e) × AllSettled settled u
  pass_settles law s e t u h r l = (rw h.state l, rw h.node (law t (sym h.answered)))

  pub leave_settles : ((t : Tree) → BelowSettled settled t → AllSettled settled (left t)) → (s e : T × TraverseCtx) (t u : Tree) → Leaves left s t e u → NothingKept s → ListsSettled settled (lists_of s) → BelowSettled settled t → ListsSettled settled (lists_of e) × AllSettled settled u
  leave_settles law s e t u h r l below = (rw h.state l, rw h.node (law t below))

-- ---- what is kept

-- the transform, and of the context the number that is given next and what the walk hands on at its end
pub record StateStays {T : Type 0} (begin s : T × TraverseCtx) : Type 0 where
  pub transform : s.0 ≡ begin.0
  pub next : s.1.next ≡ begin.1.next
  pub outcome : KeepsOutcome begin.1 s.1

outcome-kept : (c d e : TraverseCtx) → KeepsOutcome c d → KeepsOutcome d e → KeepsOutcome c e
outcome-kept c d e h k = record { scoping = k.scoping ∙ h.scoping; assumptions = k.assumptions ∙ h.assumptions; diagnostics = k.diagnostics ∙ h.diagnostics }

-- as the walk begins
pub begins : {T : Type 0} (s : T × TraverseCtx) → StateStays s s
begins s = record { transform = refl; next = refl; outcome = record { scoping = refl; assumptions = refl; diagnostics = refl } }

module _ {T : Type 0} (goes : Tree → Bool) (passed left : Tree → Tree) where
  pub enter_keeps : (answer : Bool) (begin : T × TraverseCtx) (program : Tree) (s e : T × TraverseCtx) (t u : Tree) → Enters goes passed answer s t e u → NothingKept s → (hole : Hole) → path_of s ≡ places hole → (around rest : List Tree) → StateStays begin s → StateStays begin e
  enter_keeps answer begin program s e t u h r hole here around rest x = rw h.state x

  pub leave_keeps : (begin : T × TraverseCtx) (program : Tree) (s e : T × TraverseCtx) (t u : Tree) → Leaves left s t e u → NothingKept s → (hole : Hole) → path_of s ≡ places hole → (entered : Tree) (around rest : List Tree) → StateStays begin s → StateStays begin e
  leave_keeps begin program s e t u h r hole here entered around rest x = rw h.state x

module _ {T : Type 0} where
  pub open_keeps : (begin : T × TraverseCtx) (program : Tree) (s e : T × TraverseCtx) (parent : Parent) (at : ℕ) (p : Part) → OpensPart s parent at p e → NothingKept s → (t : Tree) (around rest : List Tree) → StateStays begin s → StateStays begin e
  open_keeps begin program s e parent at p h r t around rest x = record { transform = h.transform ∙ x.transform; next = h.next ∙ x.next; outcome = outcome-kept begin.1 s.1 e.1 x.outcome h.outcome }

  pub close_keeps : (begin : T × TraverseCtx) (program : Tree) (s e : T × TraverseCtx) (parent : Parent) (at : ℕ) (p q : Part) → ClosesPart s parent at p e q → NothingKept s → (t : Tree) (around rest : List Tree) → StateStays begin s → StateStays begin e
  close_keeps begin program s e parent at p q h r t around rest x = record { transform = h.transform ∙ x.transform; next = h.next ∙ x.next; outcome = outcome-kept begin.1 s.1 e.1 x.outcome h.outcome }
