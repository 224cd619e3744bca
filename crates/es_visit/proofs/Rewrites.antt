-- A visitor whose hooks are functions of the node makes of a tree what those functions make of it.
use Rattle.std.specs.Prelude.{◌≡◌, ℕ, Bool, true, false, Option, refl}
use Rattle.std.proofs.Common.{ap, sym, ◌∙◌}
use Rattle.es_base.specs.Table.{members_of}
use Rattle.es_base.specs.Tree.{Tree, Part, Parts, Node, more, child, absent, list, string, no_string, boolean, literal}
use Rattle.es_base.specs.declared.kind.Kind.{Kind}
use Rattle.es_node.specs.View.{kind_of}
use Rattle.es_visit.specs.Bare.{is_bare}
use Rattle.es_visit.specs.Changed as c
use Rattle.es_visit.specs.Roles.{role_at}
use Rattle.es_visit.specs.Visited.{hook_of_role, hook_of_kind}
use Rattle.es_visit.specs.Visited as w
use Rattle.es_visit.specs.declared.roles.Role.{Role}
use Rattle.es_visit.specs.declared.visit_mut.Hook.{Hook}

module _ {S : Type 0} (enters : Hook → S → Tree → Bool → S → Type 0) (leaves : Hook → S → Tree → S → Tree → Type 0)
    (scope_enters : ℕ → S → S → Type 0) (scope_leaves : S → S → Type 0) (goes : Hook → Tree → Bool) (change : Hook → Tree → Tree)
    (enter_law : (hook : Hook) (s e : S) (t : Tree) (answer : Bool) → enters hook s t answer e → answer ≡ goes hook t)
    (leave_law : (hook : Hook) (s e : S) (t u : Tree) → leaves hook s t e u → u ≡ change hook t) where
  changed-node : (role : Role) (t : Tree) → c.changed goes change role t ≡ c.around goes change (hook_of_role role (kind_of t)) t (c.changed_by_kind goes change t)
  changed-node role (Node k i sp si ps) = refl

  changed-kind : (t : Tree) → c.changed_by_kind goes change t ≡ c.around goes change (hook_of_kind (kind_of t)) t (c.changed_inside goes change t)
  changed-kind (Node k i sp si ps) = refl

  bare-part : (role : Role) (p : Part) → is_bare p ≡ true → p ≡ c.changed_part goes change role p
  bare-part role (child t) e = absurd (cc e)
  bare-part role (list ps) e = absurd (cc e)
  bare-part role absent e = refl
  bare-part role (string s) e = refl
  bare-part role no_string e = refl
  bare-part role (boolean b) e = refl
  bare-part role (literal v) e = refl

  went : (hook : Hook) (t v x u : Tree) → true ≡ goes hook t → u ≡ change hook v → v ≡ x → u ≡ c.chosen (goes hook t) (change hook x) t
  went hook t v x u into is below = rw (← into) (is ∙ ap (change hook) below)

  stayed : (hook : Hook) (t x : Tree) → false ≡ goes hook t → t ≡ c.chosen (goes hook t) (change hook x) t
  stayed hook t x out = rw (← out) refl

  mutual
    pub rewrites : {role : Role} {s e : S} {t u : Tree} → w.Visited enters leaves scope_enters scope_leaves role s t e u → u ≡ c.changed goes change role t
    rewrites {role} {s} {e} {t} {u} (w.by_role h) = rewrites_by h ∙ sym (changed-node role t)

    rewrites_by : {o : Option Hook} {s e : S} {t u : Tree} → w.VisitedBy enters leaves scope_enters scope_leaves o s t e u → u ≡ c.around goes change o t (c.changed_by_kind goes change t)
    rewrites_by {t = t} (w.no_hook h) = rewrites_kind h ∙ sym (changed-kind t)
    rewrites_by {t = t} {u = u} (w.through {hook = hook} {v = v} a h b) = went hook t v (c.changed_by_kind goes change t) u (enter_law _ _ _ _ _ a) (leave_law _ _ _ _ _ b) (rewrites_kind h ∙ sym (changed-kind t))
    rewrites_by {t = t} (w.passed_by {hook = hook} a) = stayed hook t (c.changed_by_kind goes change t) (enter_law _ _ _ _ _ a)

    rewrites_kind : {o : Option Hook} {s e : S} {t u : Tree} → w.VisitedKind enters leaves scope_enters scope_leaves o s t e u → u ≡ c.around goes change o t (c.changed_inside goes change t)
    rewrites_kind (w.no_kind_hook h) = rewrites_inside h
    rewrites_kind {t = t} {u = u} (w.kind_through {hook = hook} {v = v} a h b) = went hook t v (c.changed_inside goes change t) u (enter_law _ _ _ _ _ a) (leave_law _ _ _ _ _ b) (rewrites_inside h)
    rewrites_kind {t = t} (w.kind_passed_by {hook = hook} a) = stayed hook t (c.changed_inside goes change t) (enter_law _ _ _ _ _ a)

    rewrites_inside : {s e : S} {t u : Tree} → w.VisitedInside enters leaves scope_enters scope_leaves s t e u → u ≡ c.changed_inside goes change t
    rewrites_inside (w.inside {k = k} {i = i} {sp = sp} {si = si} a h b) = ap (Node k i sp si) (rewrites_below h)

    rewrites_below : {k : Kind} {computed : Bool} {at : ℕ} {s e : S} {ps qs : Parts} → w.VisitedBelow enters leaves scope_enters scope_leaves k computed at s ps e qs → qs ≡ c.changed_below goes change k computed at ps
    rewrites_below w.none = refl
    rewrites_below {k} {computed} {at} (w.next {p = p} {q = q} {ps = ps} {qs = qs} h hs) =
        ap (λ x. more x qs) (rewrites_part h) ∙ ap (more (c.changed_part goes change (role_at computed (members_of k) at) p)) (rewrites_below hs)

    rewrites_part : {role : Role} {s e : S} {p q : Part} → w.VisitedPart enters leaves scope_enters scope_leaves role s p e q → q ≡ c.changed_part goes change role p
    rewrites_part (w.of_child h) = ap child (rewrites h)
    rewrites_part (w.of_list h) = ap list (rewrites_items h)
    rewrites_part {role} (w.bare {p = p} is) = bare-part role p is

    rewrites_items : {role : Role} {s e : S} {ps qs : Parts} → w.VisitedItems enters leaves scope_enters scope_leaves role s ps e qs → qs ≡ c.changed_items goes change role ps
    rewrites_items w.no_item = refl
    rewrites_items {role} (w.next_item {p = p} {q = q} {ps = ps} {qs = qs} h hs) =
        ap (λ x. more x qs) (rewrites_part h) ∙ ap (more (c.changed_part goes change role p)) (rewrites_items hs)
