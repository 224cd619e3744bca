-- The numbers of the source stay, in their order.
use Rattle.std.specs.Prelude.{◌≡◌, ℕ, ◌+◌, ◌≤◌, List, [], ◌∷◌, ◌++◌, Bool, true, false, ◌&&◌, refl, Option, None}
use Rattle.std.proofs.Common.{ap, sym, ◌∙◌, arith, append-nil}
use Rattle.std.proofs.lemmas.Bool.{le-leb}
use Rattle.es_base.specs.Numbered.{old_numbers}
use Rattle.es_base.specs.Tree.{Tree, Part, Parts, Node, end, more, child, absent, list, string, no_string, boolean, literal}
use Rattle.es_base.specs.declared.kind.Kind.{Kind}
use Rattle.es_ctx.specs.declared.ancestor.Parent.{Parent}
use Rattle.es_ctx.specs.declared.ctx.TraverseCtx.{TraverseCtx}
use Rattle.es_ctx.specs.declared.stores.OpenList.{OpenList}
use Rattle.es_walk.specs.Holes.{Hole}
use Rattle.es_walk.specs.Idle.{Idle, NothingKept}
use Rattle.es_walk.specs.Steps.{OpensPart, ClosesPart}
use Rattle.es_walk.specs.Whole.{whole}
use Rattle.walk_tests.specs.OldNumbers.{old_of_part, old_of, old-more, old-node, Quiet, old-whole}
use Rattle.walk_tests.specs.Power.{is_binary, is_power_string, has_power, callee, called, replaced, lowered, Enters, Leaves}

-- a list for which nothing is kept
idle-quiet : (first : ℕ) (ls : List OpenList) → Idle ls → Quiet first ls
idle-quiet first [] h = tt {0}
idle-quiet first (l ∷ ls) h = (record { slots = h.0.slots; vars = rw h.0.vars refl; lets = h.0.lets }, idle-quiet first ls h.1)

module _ (first : ℕ) where
  -- the replacement of a power
  old-callee : (n : ℕ) → first ≤ n → old_numbers first (callee n) ≡ []
  old-callee n l = rw (le-leb first n l, le-leb first (n + 1) (omega arith), le-leb first (n + 2) (omega arith)) refl

  old-string : (p : Part) → is_power_string p ≡ true → old_of_part first p ≡ []
  old-string (child t) e = absurd (cc e)
  old-string absent e = absurd (cc e)
  old-string (list all) e = absurd (cc e)
  old-string (string s) e = refl
  old-string no_string e = absurd (cc e)
  old-string (boolean b) e = absurd (cc e)
  old-string (literal v) e = absurd (cc e)

  begins : (p : Part) (ps : Parts) → has_power (more p ps) ≡ true → is_power_string p ≡ true
  begins p end e = absurd (cc e)
  begins p (more q end) e = absurd (cc e)
  begins p (more q (more r end)) e = e
  begins p (more q (more r (more s rest))) e = absurd (cc e)

  old-called : (n : ℕ) (ps : Parts) → first ≤ n → has_power ps ≡ true → old_of first (called n ps) ≡ old_of first ps
  old-called n end l e = absurd (cc e)
  old-called n (more p ps) l e =
      old-more first (child (callee n)) (more (list ps) (more (boolean false) end)) ∙ ap (λ ks. ks ++ old_of first (more (list ps) (more (boolean false) end))) (old-callee n l)
      ∙ old-more first (list ps) (more (boolean false) end) ∙ append-nil (old_of first ps) ∙ sym (old-more first p ps ∙ ap (λ ks. ks ++ old_of first ps) (old-string p (begins p ps e)))

  old-replaced : (n : ℕ) (b c : Bool) (k : Kind) (i : ℕ) (sp : Option (ℕ × ℕ)) (si : Option ℕ) (ps : Parts) → first ≤ n → has_power ps ≡ c → old_numbers first (replaced (b && c) n (Node k i sp si ps)) ≡ old_numbers first (Node k i sp si ps)
  old-replaced n true true k i sp si ps l e = old-node first Kind.CallExpression k i sp None si (called n ps) ps (old-called n ps l e)
  old-replaced n true false k i sp si ps l e = refl
  old-replaced n false c k i sp si ps l e = refl

  pub old-lowered : (n : ℕ) (t : Tree) → first ≤ n → old_numbers first (lowered n t) ≡ old_numbers first t
  old-lowered n (Node k i sp si ps) l = old-replaced n (is_binary k) (has_power ps) k i sp si ps l refl

  -- what the walk keeps of the whole
  module _ {T : Type 0} (olds : List ℕ) where
    pub record Kept (s : T × TraverseCtx) (t : Tree) (around rest : List Tree) : Type 0 where
      pub numbers : old_numbers first t ≡ olds
      pub fresh : first ≤ s.1.next

-- the old numbers are those of the program, where the numbers that are given are new
abbrev pub Keeps : {T : Type 0} → T × TraverseCtx → Tree → T × TraverseCtx → Tree → List Tree → List Tree → Type 0
Keeps begin program s t around rest = Kept begin.1.next (old_numbers begin.1.next program) s t around rest

module _ {T : Type 0} where
  pub enter_keeps : (begin : T × TraverseCtx) (program : Tree) (s e : T × TraverseCtx) (t u : Tree) → Enters true s t e u → (hole : Hole) (around around' rest rest' : List Tree) → Keeps begin program s (whole s.1.lists hole t) around rest → Keeps begin program e (whole e.1.lists hole u) around' rest'
  enter_keeps begin program s e t u h hole around around' rest rest' x = record { numbers = rw (h.1, h.2) x.numbers; fresh = rw h.2 x.fresh }

  pub leave_keeps : (begin : T × TraverseCtx) (program : Tree) (s e : T × TraverseCtx) (t u : Tree) → Leaves s t e u → NothingKept s → (hole : Hole) (around around' rest : List Tree) → Keeps begin program s (whole s.1.lists hole t) around rest → Keeps begin program e (whole e.1.lists hole u) around' rest
  leave_keeps begin program s e t u h r hole around around' rest x = record {
    numbers = rw (h.0, h.3) (old-whole begin.1.next s.1.lists s.1.lists (idle-quiet begin.1.next s.1.lists r) (idle-quiet begin.1.next s.1.lists r) hole (lowered s.1.next t) t (old-lowered begin.1.next s.1.next t x.fresh) ∙ x.numbers);
    fresh = omega (arith, h.1, x.fresh);
  }

  pub open_keeps : (begin : T × TraverseCtx) (program : Tree) (s e : T × TraverseCtx) (parent : Parent) (at : ℕ) (p : Part) → OpensPart s parent at p e → NothingKept s → (t : Tree) (around rest : List Tree) → Keeps begin program s t around rest → Keeps begin program e t around rest
  open_keeps begin program s e parent at p h r t around rest x = record { numbers = x.numbers; fresh = omega (arith, h.next, x.fresh) }

  pub close_keeps : (begin : T × TraverseCtx) (program : Tree) (s e : T × TraverseCtx) (parent : Parent) (at : ℕ) (p q : Part) → ClosesPart s parent at p e q → NothingKept s → (t : Tree) (around rest : List Tree) → Keeps begin program s t around rest → Keeps begin program e t around rest
  close_keeps begin program s e parent at p q h r t around rest x = record { numbers = x.numbers; fresh = omega (arith, h.next, x.fresh) }
