-- A walk whose hooks keep nothing for the open lists.
use Rattle.std.specs.Prelude.{◌≡◌, ℕ, List, [], ◌∷◌, ◌++◌, Bool, true, false, refl}
use Rattle.std.proofs.Common.{ap, ◌∙◌}
use Rattle.es_base.specs.Tree.{Part, child, absent, list, string, no_string, boolean, literal}
use Rattle.es_ctx.specs.Ancestors.{has_statements}
use Rattle.es_ctx.specs.Stores.{open_list, front, placed, spread, opened, closed, filled}
use Rattle.es_ctx.specs.declared.ancestor.Parent.{Parent}
use Rattle.es_ctx.specs.declared.ctx.TraverseCtx.{TraverseCtx}
use Rattle.es_ctx.specs.declared.stores.OpenList.{OpenList}
use Rattle.es_walk.specs.Placing.{spread-none, behind-none}
use Rattle.es_walk.specs.Steps.{OpensPart, ClosesPart, lists_of}

-- nothing is kept for a list
pub record IsIdle (l : OpenList) : Type 0 where
  pub slots : l.slots ≡ []
  pub vars : l.vars ≡ []
  pub lets : l.lets ≡ []

abbrev pub Idle : List OpenList → Type 0
Idle [] = Unit {0}
Idle (l ∷ ls) = IsIdle l × Idle ls

push-idle : (ls : List OpenList) (l : OpenList) → IsIdle l → Idle ls → Idle (ls ++ l ∷ [])
push-idle [] l h k = (h, tt {0})
push-idle (m ∷ ls) l h k = (k.0, push-idle ls l h k.1)

pub opened-idle : (b : Bool) (p : Part) (ls : List OpenList) → Idle ls → Idle (opened b p ls)
opened-idle true p ls h = push-idle ls (open_list p) (record { slots = refl; vars = refl; lets = refl }) h
opened-idle false p ls h = h

front-idle : (ls : List OpenList) → Idle ls → Idle (front ls)
front-idle [] h = h
front-idle (l ∷ []) h = tt {0}
front-idle (l ∷ m ∷ ls) h = (h.0, front-idle (m ∷ ls) h.1)

pub closed-idle : (b : Bool) (ls : List OpenList) → Idle ls → Idle (closed b ls)
closed-idle true ls h = front-idle ls h
closed-idle false ls h = h

placed-idle : (l : OpenList) (p : Part) → IsIdle l → placed l p ≡ p
placed-idle l (child t) h = refl
placed-idle l absent h = refl
placed-idle l (list all) h = rw (h.slots, h.vars, h.lets) (ap list (behind-none (spread [] all) ∙ spread-none all))
placed-idle l (string s) h = refl
placed-idle l no_string h = refl
placed-idle l (boolean b) h = refl
placed-idle l (literal v) h = refl

pub filled-idle : (b : Bool) (ls : List OpenList) (p : Part) → Idle ls → filled b ls p ≡ p
filled-idle true [] p h = refl
filled-idle true (l ∷ []) p h = placed-idle l p h.0
filled-idle true (l ∷ m ∷ ls) p h = filled-idle true (m ∷ ls) p h.1
filled-idle false ls p h = refl

-- ---- states

module _ {T : Type 0} where
  -- nothing is kept for any list
  abbrev pub NothingKept : T × TraverseCtx → Type 0
  NothingKept s = Idle (lists_of s)

  pub open_keeps_none : (s e : T × TraverseCtx) (parent : Parent) (at : ℕ) (p : Part) → OpensPart s parent at p e → NothingKept s → NothingKept e
  open_keeps_none s e parent at p h none = rw h.lists (opened-idle (has_statements parent.kind at) p s.1.lists none)

  pub close_keeps_none : (s e : T × TraverseCtx) (parent : Parent) (at : ℕ) (p q : Part) → ClosesPart s parent at p e q → NothingKept s → NothingKept e
  close_keeps_none s e parent at p q h none = rw h.lists (closed-idle (has_statements parent.kind at) s.1.lists none)

  -- so a member is what it was as it is closed
  pub closes_same : (s e : T × TraverseCtx) (parent : Parent) (at : ℕ) (p q : Part) → ClosesPart s parent at p e q → NothingKept s → q ≡ p
  closes_same s e parent at p q h none = h.part ∙ filled-idle (has_statements parent.kind at) s.1.lists p none
