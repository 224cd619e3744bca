-- The nodes that have a number stay, in their order.
use Rattle.std.specs.Prelude.{◌≡◌, ℕ, List, Bool, true, false, ◌&&◌, refl, Option}
use Rattle.std.proofs.Common.{◌∙◌}
use Rattle.es_base.specs.Numbered.{unnumbered, old_numbers}
use Rattle.es_base.specs.Tree.{Tree, Parts, Node, end, more}
use Rattle.es_base.specs.declared.kind.Kind.{Kind}
use Rattle.es_ctx.specs.declared.ctx.TraverseCtx.{TraverseCtx}
use Rattle.es_walk.specs.Holes.{Hole}
use Rattle.es_walk.specs.Whole.{whole}
use Rattle.walk_tests.specs.Hoist.{is_this_kind, is_none, is_this, replaced, Enters, Leaves}
use Rattle.walk_tests.specs.HoistLaws.{Ready, leave_ready}
use Rattle.walk_tests.specs.OldNumbers.{old-whole}

old-replaced : (b c : Bool) (k : Kind) (i : ℕ) (sp : Option (ℕ × ℕ)) (si : Option ℕ) (ps : Parts) → is_none ps ≡ c → old_numbers unnumbered (replaced (b && c) (Node k i sp si ps)) ≡ old_numbers unnumbered (Node k i sp si ps)
old-replaced true true k i sp si end is = refl
old-replaced true true k i sp si (more p ps) is = absurd (cc is)
old-replaced true false k i sp si ps is = refl
old-replaced false c k i sp si ps is = refl

old-lowered : (t : Tree) → old_numbers unnumbered (replaced (is_this t) t) ≡ old_numbers unnumbered t
old-lowered (Node k i sp si ps) = old-replaced (is_this_kind k) (is_none ps) k i sp si ps refl

-- the numbers of the program are those of the whole
abbrev pub Keeps : {T : Type 0} → T × TraverseCtx → Tree → T × TraverseCtx → Tree → List Tree → List Tree → Type 0
Keeps begin program s t around rest = old_numbers unnumbered t ≡ old_numbers unnumbered program

module _ {T : Type 0} where
  pub enter_keeps : (begin : T × TraverseCtx) (program : Tree) (s e : T × TraverseCtx) (t u : Tree) → Enters true s t e u → (hole : Hole) (around rest : List Tree) → Keeps begin program s (whole s.1.lists hole t) around rest → Keeps begin program e (whole e.1.lists hole u) around rest
  enter_keeps begin program s e t u h hole around rest x = rw (h.1, h.2) x

  pub leave_keeps : (begin : T × TraverseCtx) (program : Tree) (s e : T × TraverseCtx) (t u : Tree) → Leaves s t e u → Ready s → (hole : Hole) (around rest : List Tree) → Keeps begin program s (whole s.1.lists hole t) around rest → Keeps begin program e (whole e.1.lists hole u) around rest
  leave_keeps begin program s e t u h r hole around rest x =
      let same : old_numbers unnumbered u ≡ old_numbers unnumbered t = rw h.0 (old-lowered t) in
      old-whole unnumbered e.1.lists s.1.lists (leave_ready s e t u h r) r hole u t same ∙ x
