-- A walk calls hooks in the order of `meetings`.
use Rattle.std.specs.Prelude.{◌≡◌, ℕ, List, [], ◌∷◌, ◌++◌, Bool, true, false, Option, Some, None, fold, refl}
use Rattle.std.proofs.Common.{ap, ◌∙◌}
use Rattle.es_base.specs.Tree.{Tree, Part, Parts, Node, child, absent, list, string, no_string, boolean, literal}
use Rattle.es_base.specs.declared.kind.Kind.{Kind}
use Rattle.es_node.specs.View.{kind_of}
use Rattle.es_visit.specs.Bare.{is_bare}
use Rattle.es_visit.specs.Meetings as m
use Rattle.es_visit.specs.Meetings.{Event, entered, left, scope_entered, scope_left}
use Rattle.es_visit.specs.Order.{AnswersBy}
use Rattle.es_visit.specs.Roles.{is_computed}
use Rattle.es_visit.specs.Visited.{hook_of_role, hook_of_kind, scope_of}
use Rattle.es_visit.specs.Visited as w
use Rattle.es_visit.specs.declared.roles.Role.{Role}
use Rattle.es_visit.specs.declared.visit_mut.Hook.{Hook}

-- the calls of a node but for the hook of its place, and but for both its hooks
abbrev inside : (Hook → Tree → Bool) → Tree → List Event
inside goes (Node k i sp si ps) = m.with_scope (scope_of k si) (m.meetings_below goes k (is_computed k ps) 0 ps)

abbrev by_kind : (Hook → Tree → Bool) → Tree → List Event
by_kind goes t = m.with_hook goes (hook_of_kind (kind_of t)) t (inside goes t)

meetings-node : (goes : Hook → Tree → Bool) (role : Role) (t : Tree) → m.meetings goes role t ≡ m.with_hook goes (hook_of_role role (kind_of t)) t (by_kind goes t)
meetings-node goes role (Node k i sp si ps) = refl

meetings-bare : (goes : Hook → Tree → Bool) (role : Role) (p : Part) → is_bare p ≡ true → m.meetings_part goes role p ≡ []
meetings-bare goes role (child t) e = absurd (cc e)
meetings-bare goes role (list ps) e = absurd (cc e)
meetings-bare goes role absent e = refl
meetings-bare goes role (string s) e = refl
meetings-bare goes role no_string e = refl
meetings-bare goes role (boolean b) e = refl
meetings-bare goes role (literal v) e = refl

module _ {S : Type 0} (enters : Hook → S → Tree → Bool → S → Type 0) (leaves : Hook → S → Tree → S → Tree → Type 0)
    (scope_enters : ℕ → S → S → Type 0) (scope_leaves : S → S → Type 0) (goes : Hook → Tree → Bool) where
  as_told : {s e : S} {xs ys : List Event} → ys ≡ xs → m.Led enters leaves scope_enters scope_leaves goes s xs e → m.Led enters leaves scope_enters scope_leaves goes s ys e
  as_told same h = rw same h

  led_append : {s n e : S} {xs ys : List Event} → m.Led enters leaves scope_enters scope_leaves goes s xs n → m.Led enters leaves scope_enters scope_leaves goes n ys e → m.Led enters leaves scope_enters scope_leaves goes s (xs ++ ys) e
  led_append m.no_call y = y
  led_append (m.enters_node a x) y = m.enters_node a (led_append x y)
  led_append (m.leaves_node made a x) y = m.leaves_node made a (led_append x y)
  led_append (m.enters_scope a x) y = m.enters_scope a (led_append x y)
  led_append (m.leaves_scope a x) y = m.leaves_scope a (led_append x y)

  scoped : (o : Option ℕ) {s n p e : S} {es : List Event} → w.EntersScope enters leaves scope_enters scope_leaves o s n → m.Led enters leaves scope_enters scope_leaves goes n es p → w.LeavesScope enters leaves scope_enters scope_leaves o p e → m.Led enters leaves scope_enters scope_leaves goes s (m.with_scope o es) e
  scoped (Some scope) a h b = m.enters_scope a (led_append h (m.leaves_scope b m.no_call))
  scoped None a h b = let from_here = rw a at h in rw b from_here

  module _ (answers : AnswersBy enters goes) where
    went : {hook : Hook} {o : Option Hook} {s n p e : S} {t v u : Tree} {es : List Event} → enters hook s t true n → m.Led enters leaves scope_enters scope_leaves goes n es p → w.VisitedKind enters leaves scope_enters scope_leaves o n t p v → leaves hook p v e u → m.Led enters leaves scope_enters scope_leaves goes s (m.with_hook goes (Some hook) t es) e
    went {hook} {o} {s} {n} {p} {e} {t} {v} {u} {es} a h made b =
        let into : true ≡ goes hook t = answers hook s n t true a in
        let asked : enters hook s t (goes hook t) n = rw into at a in
        m.enters_node asked (rw (← into) (led_append h (m.leaves_node made b m.no_call)))

    passed : {hook : Hook} {s e : S} {t : Tree} (es : List Event) → enters hook s t false e → m.Led enters leaves scope_enters scope_leaves goes s (m.with_hook goes (Some hook) t es) e
    passed {hook} {s} {e} {t} es a =
        let out : false ≡ goes hook t = answers hook s e t false a in
        let asked : enters hook s t (goes hook t) e = rw out at a in
        m.enters_node asked (rw (← out) m.no_call)

    mutual
      pub meets : {role : Role} {s e : S} {t u : Tree} → w.Visited enters leaves scope_enters scope_leaves role s t e u → m.Led enters leaves scope_enters scope_leaves goes s (m.meetings goes role t) e
      meets {role} {t = t} (w.by_role h) = as_told (meetings-node goes role t) (meets_by h)

      meets_by : {o : Option Hook} {s e : S} {t u : Tree} → w.VisitedBy enters leaves scope_enters scope_leaves o s t e u → m.Led enters leaves scope_enters scope_leaves goes s (m.with_hook goes o t (by_kind goes t)) e
      meets_by (w.no_hook h) = meets_kind h
      meets_by (w.through a h b) = went a (meets_kind h) h b
      meets_by {t = t} (w.passed_by a) = passed (by_kind goes t) a

      meets_kind : {o : Option Hook} {s e : S} {t u : Tree} → w.VisitedKind enters leaves scope_enters scope_leaves o s t e u → m.Led enters leaves scope_enters scope_leaves goes s (m.with_hook goes o t (inside goes t)) e
      meets_kind (w.no_kind_hook h) = meets_inside h
      meets_kind (w.kind_through a h b) = went a (meets_inside h) (w.no_kind_hook h) b
      meets_kind {t = t} (w.kind_passed_by a) = passed (inside goes t) a

      meets_inside : {s e : S} {t u : Tree} → w.VisitedInside enters leaves scope_enters scope_leaves s t e u → m.Led enters leaves scope_enters scope_leaves goes s (inside goes t) e
      meets_inside (w.inside {k = k} {si = si} a h b) = scoped (scope_of k si) a (meets_below h) b

      meets_below : {k : Kind} {computed : Bool} {at : ℕ} {s e : S} {ps qs : Parts} → w.VisitedBelow enters leaves scope_enters scope_leaves k computed at s ps e qs → m.Led enters leaves scope_enters scope_leaves goes s (m.meetings_below goes k computed at ps) e
      meets_below w.none = m.no_call
      meets_below (w.next h hs) = led_append (meets_part h) (meets_below hs)

      meets_part : {role : Role} {s e : S} {p q : Part} → w.VisitedPart enters leaves scope_enters scope_leaves role s p e q → m.Led enters leaves scope_enters scope_leaves goes s (m.meetings_part goes role p) e
      meets_part (w.of_child h) = meets h
      meets_part (w.of_list h) = meets_items h
      meets_part {role} (w.bare {p = p} is) = as_told (meetings-bare goes role p is) m.no_call

      pub meets_items : {role : Role} {s e : S} {ps qs : Parts} → w.VisitedItems enters leaves scope_enters scope_leaves role s ps e qs → m.Led enters leaves scope_enters scope_leaves goes s (m.meetings_items goes role ps) e
      meets_items w.no_item = m.no_call
      meets_items (w.next_item h hs) = led_append (meets_part h) (meets_items hs)

  -- whatever relation each call keeps, as `leads` of the visitor that reads, the walk keeps
  module _ (leads : S → List Event → S → Type 0)
      (no_call_leads : (s : S) → leads s [] s)
      (entering_leads : (hook : Hook) (s n e : S) (t : Tree) (es : List Event) → enters hook s t (goes hook t) n → leads n es e → leads s (entered hook t ∷ es) e)
      (leaving_leads : (hook : Hook) (o : Option Hook) (b s n e : S) (t v u : Tree) (es : List Event) → w.VisitedKind enters leaves scope_enters scope_leaves o b t s v → leaves hook s v n u → leads n es e → leads s (left hook t ∷ es) e)
      (scope_entering_leads : (scope : ℕ) (s n e : S) (es : List Event) → scope_enters scope s n → leads n es e → leads s (scope_entered scope ∷ es) e)
      (scope_leaving_leads : (scope : ℕ) (s n e : S) (es : List Event) → scope_leaves s n → leads n es e → leads s (scope_left scope ∷ es) e) where
    pub follows : {s e : S} {es : List Event} → m.Led enters leaves scope_enters scope_leaves goes s es e → leads s es e
    follows m.no_call = no_call_leads _
    follows (m.enters_node a h) = entering_leads _ _ _ _ _ _ a (follows h)
    follows (m.leaves_node made a h) = leaving_leads _ _ _ _ _ _ _ _ _ _ made a (follows h)
    follows (m.enters_scope a h) = scope_entering_leads _ _ _ _ _ a (follows h)
    follows (m.leaves_scope a h) = scope_leaving_leads _ _ _ _ _ a (follows h)

  -- a value that each call changes as a function of the call
  module _ {A : Type 0} (value : S → A) (step : A → Event → A)
      (entering_steps : (hook : Hook) (s n : S) (t : Tree) → enters hook s t (goes hook t) n → value n ≡ step (value s) (entered hook t))
      (leaving_steps : (hook : Hook) (o : Option Hook) (b s n : S) (t v u : Tree) → w.VisitedKind enters leaves scope_enters scope_leaves o b t s v → leaves hook s v n u → value n ≡ step (value s) (left hook t))
      (scope_entering_steps : (scope : ℕ) (s n : S) → scope_enters scope s n → value n ≡ step (value s) (scope_entered scope))
      (scope_leaving_steps : (scope : ℕ) (s n : S) → scope_leaves s n → value n ≡ step (value s) (scope_left scope)) where
    pub folds : {s e : S} {es : List Event} → m.Led enters leaves scope_enters scope_leaves goes s es e → value e ≡ fold step (value s) es
    folds = follows (λ s es e. value e ≡ fold step (value s) es)
        (λ s. refl)
        (λ hook s n e t es a h. h ∙ ap (λ x. fold step x es) (entering_steps hook s n t a))
        (λ hook o b s n e t v u es made a h. h ∙ ap (λ x. fold step x es) (leaving_steps hook o b s n t v u made a))
        (λ scope s n e es a h. h ∙ ap (λ x. fold step x es) (scope_entering_steps scope s n a))
        (λ scope s n e es a h. h ∙ ap (λ x. fold step x es) (scope_leaving_steps scope s n a))
