-- A walk whose hooks are functions of the node makes of a tree what those functions make of it.
use Rattle.std.specs.Prelude.{◌≡◌, ℕ, Bool, true, false, Option, refl}
use Rattle.std.proofs.Common.{ap, sym, ◌∙◌}
use Rattle.es_base.specs.Tree.{Tree, Part, Parts, Node, more, child, absent, list, string, no_string, boolean, literal}
use Rattle.es_base.specs.declared.kind.Kind.{Kind}
use Rattle.es_ctx.specs.declared.ancestor.Parent.{Parent}
use Rattle.es_ctx.specs.declared.ctx.TraverseCtx.{TraverseCtx}
use Rattle.es_visit.specs.Bare.{is_bare, is_child}
use Rattle.es_visit.specs.Changed.{chosen}
use Rattle.es_walk.specs.Changed as c
use Rattle.es_walk.specs.Idle.{NothingKept, open_keeps_none, close_keeps_none, closes_same}
use Rattle.es_walk.specs.Laws.{stays_parts, stays_member, stays_part, stays_item}
use Rattle.es_walk.specs.Rewriting as rewriting
use Rattle.es_walk.specs.Steps.{OpensPart, ClosesPart}
use Rattle.es_walk.specs.Traversed as w
use Rattle.es_walk.specs.Weight.{KeepsReady}

module _ {S : Type 0} (enters : Bool → S → Tree → S → Tree → Type 0) (leaves : S → Tree → S → Tree → Type 0)
    (opens : S → Parent → ℕ → Part → S → Type 0) (closes : S → Parent → ℕ → Part → S → Part → Type 0)
    (ready : S → Type 0)
    (enter_ready : (answer : Bool) → KeepsReady (enters answer) ready) (leave_ready : KeepsReady leaves ready)
    (open_ready : (s e : S) (k : Parent) (at : ℕ) (p : Part) → opens s k at p e → ready s → ready e)
    (close_ready : (s e : S) (k : Parent) (at : ℕ) (p q : Part) → closes s k at p e q → ready s → ready e)
    (goes : Tree → Bool) (passed left : Tree → Tree)
    (enter_law : (s e : S) (t u : Tree) → enters true s t e u → ready s → (goes t ≡ true) × (u ≡ t))
    (pass_law : (s e : S) (t u : Tree) → enters false s t e u → ready s → (goes t ≡ false) × (u ≡ passed t))
    (leave_law : (s e : S) (t u : Tree) → leaves s t e u → ready s → u ≡ left t)
    (close_law : (s e : S) (k : Parent) (at : ℕ) (p q : Part) → closes s k at p e q → ready s → q ≡ p) where
  went : (t u : Tree) (k : Kind) (i : ℕ) (sp : Option (ℕ × ℕ)) (si : Option ℕ) (ps qs : Parts) → goes t ≡ true → Node k i sp si ps ≡ t → qs ≡ c.changed_parts goes passed left ps → u ≡ left (Node k i sp si qs) → u ≡ c.changed goes passed left t
  went t u k i sp si ps qs into same below is =
      let inside : Tree = left (Node k i sp si (c.changed_parts goes passed left ps)) in
      is
      ∙ ap (λ rs. left (Node k i sp si rs)) below
      ∙ sym (ap (λ b. chosen b inside (passed (Node k i sp si ps))) (ap goes same ∙ into))
      ∙ ap (c.changed goes passed left) same

  stayed : (t u : Tree) → goes t ≡ false → u ≡ passed t → u ≡ c.changed goes passed left t
  stayed (Node k i sp si ps) u out is = is ∙ sym (ap (λ b. chosen b (left (Node k i sp si (c.changed_parts goes passed left ps))) (passed (Node k i sp si ps))) out)

  bare-part : (p : Part) → is_bare p ≡ true → p ≡ c.changed_part goes passed left p
  bare-part (child t) e = absurd (cc e)
  bare-part (list ps) e = absurd (cc e)
  bare-part absent e = refl
  bare-part (string s) e = refl
  bare-part no_string e = refl
  bare-part (boolean b) e = refl
  bare-part (literal v) e = refl

  other-item : (p : Part) → is_child p ≡ false → p ≡ c.changed_item goes passed left p
  other-item (child t) e = absurd (cc e)
  other-item (list ps) e = refl
  other-item absent e = refl
  other-item (string s) e = refl
  other-item no_string e = refl
  other-item (boolean b) e = refl
  other-item (literal v) e = refl

  mutual
    pub rewrites : {s e : S} {t u : Tree} → w.Traversed enters leaves opens closes s t e u → ready s → u ≡ c.changed goes passed left t
    rewrites (w.through {t = t} {u = u} {k = k} {i = i} {sp = sp} {si = si} {ps = ps} {qs = qs} a h b) r =
        let before = enter_ready true _ _ _ _ a r in
        let after = stays_parts enters leaves opens closes ready enter_ready leave_ready open_ready close_ready h before in
        let entered = enter_law _ _ _ _ a r in
        went t u k i sp si ps qs entered.0 entered.1 (rewrites_parts h before) (leave_law _ _ _ _ b after)
    rewrites (w.passed_by {t = t} {u = u} a) r =
        let entered = pass_law _ _ _ _ a r in
        stayed t u entered.0 entered.1

    rewrites_parts : {k : Parent} {at : ℕ} {s e : S} {ps qs : Parts} → w.TraversedParts enters leaves opens closes k at s ps e qs → ready s → qs ≡ c.changed_parts goes passed left ps
    rewrites_parts w.none r = refl
    rewrites_parts (w.next {p = p} {q = q} {ps = ps} {qs = qs} h hs) r =
        let later = stays_member enters leaves opens closes ready enter_ready leave_ready open_ready close_ready h r in
        ap (λ x. more x qs) (rewrites_member h r) ∙ ap (more (c.changed_part goes passed left p)) (rewrites_parts hs later)

    rewrites_member : {k : Parent} {at : ℕ} {s e : S} {p q : Part} → w.TraversedMember enters leaves opens closes k at s p e q → ready s → q ≡ c.changed_part goes passed left p
    rewrites_member (w.between a h b) r =
        let before = open_ready _ _ _ _ _ a r in
        let after = stays_part enters leaves opens closes ready enter_ready leave_ready open_ready close_ready h before in
        close_law _ _ _ _ _ _ b after ∙ rewrites_part h before

    rewrites_part : {s e : S} {p q : Part} → w.TraversedPart enters leaves opens closes s p e q → ready s → q ≡ c.changed_part goes passed left p
    rewrites_part (w.of_child h) r = ap child (rewrites h r)
    rewrites_part (w.of_list h) r = ap list (rewrites_items h r)
    rewrites_part (w.bare {p = p} is) r = bare-part p is

    rewrites_items : {s e : S} {ps qs : Parts} → w.TraversedItems enters leaves opens closes s ps e qs → ready s → qs ≡ c.changed_items goes passed left ps
    rewrites_items w.no_item r = refl
    rewrites_items (w.next_item {p = p} {q = q} {ps = ps} {qs = qs} h hs) r =
        let later = stays_item enters leaves opens closes ready enter_ready leave_ready open_ready close_ready h r in
        ap (λ x. more x qs) (rewrites_item h r) ∙ ap (more (c.changed_item goes passed left p)) (rewrites_items hs later)

    rewrites_item : {s e : S} {p q : Part} → w.TraversedItem enters leaves opens closes s p e q → ready s → q ≡ c.changed_item goes passed left p
    rewrites_item (w.item h) r = ap child (rewrites h r)
    rewrites_item (w.other {p = p} is) r = other-item p is

-- so do hooks that leave the transform and the context as they are, where nothing is kept for a list
module _ {T : Type 0} (goes : Tree → Bool) (passed left : Tree → Tree) where
  entered : (s e : T × TraverseCtx) (t u : Tree) → rewriting.Enters goes passed true s t e u → NothingKept s → (goes t ≡ true) × (u ≡ t)
  entered s e t u h k = (sym h.answered, h.node)

  passes : (s e : T × TraverseCtx) (t u : Tree) → rewriting.Enters goes passed false s t e u → NothingKept s → (goes t ≡ false) × (u ≡ passed t)
  passes s e t u h k = (sym h.answered, h.node)

  pub rewritten : {s e : T × TraverseCtx} {t u : Tree} → w.Traversed (rewriting.Enters goes passed) (rewriting.Leaves left) OpensPart ClosesPart s t e u → NothingKept s → u ≡ c.changed goes passed left t
  rewritten h k =
      rewrites (rewriting.Enters goes passed) (rewriting.Leaves left) OpensPart ClosesPart NothingKept
      (rewriting.enter_ready goes passed left) (rewriting.leave_ready goes passed left) open_keeps_none close_keeps_none
      goes passed left entered passes (λ s e t u b idle. b.node) closes_same
      h k
