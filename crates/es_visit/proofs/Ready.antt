-- What holds whenever a hook is called holds after a walk.
use Rattle.std.specs.Prelude.{ℕ, Bool, Option, Some, None}
use Rattle.es_base.specs.Tree.{Tree, Part, Parts}
use Rattle.es_base.specs.declared.kind.Kind.{Kind}
use Rattle.es_visit.specs.Visited as w
use Rattle.es_visit.specs.declared.roles.Role.{Role}
use Rattle.es_visit.specs.declared.visit_mut.Hook.{Hook}

module _ {S : Type 0} (enters : Hook → S → Tree → Bool → S → Type 0) (leaves : Hook → S → Tree → S → Tree → Type 0)
    (scope_enters : ℕ → S → S → Type 0) (scope_leaves : S → S → Type 0) (ready : S → Type 0)
    (enter_law : (hook : Hook) (s e : S) (t : Tree) (goes : Bool) → enters hook s t goes e → ready s → ready e)
    (leave_law : (hook : Hook) (s e : S) (t u : Tree) → leaves hook s t e u → ready s → ready e)
    (scope_enter_law : (scope : ℕ) (s e : S) → scope_enters scope s e → ready s → ready e)
    (scope_leave_law : (s e : S) → scope_leaves s e → ready s → ready e) where
  pub scope_entered : (o : Option ℕ) {s e : S} → w.EntersScope enters leaves scope_enters scope_leaves o s e → ready s → ready e
  scope_entered (Some scope) h r = scope_enter_law scope _ _ h r
  scope_entered None h r = rw h r

  pub scope_left : (o : Option ℕ) {s e : S} → w.LeavesScope enters leaves scope_enters scope_leaves o s e → ready s → ready e
  scope_left (Some scope) h r = scope_leave_law _ _ h r
  scope_left None h r = rw h r

  mutual
    pub stays : {role : Role} {s e : S} {t u : Tree} → w.Visited enters leaves scope_enters scope_leaves role s t e u → ready s → ready e
    stays (w.by_role h) r = stays_by h r

    stays_by : {o : Option Hook} {s e : S} {t u : Tree} → w.VisitedBy enters leaves scope_enters scope_leaves o s t e u → ready s → ready e
    stays_by (w.no_hook h) r = stays_kind h r
    stays_by (w.through a h b) r = leave_law _ _ _ _ _ b (stays_kind h (enter_law _ _ _ _ _ a r))
    stays_by (w.passed_by a) r = enter_law _ _ _ _ _ a r

    pub stays_kind : {o : Option Hook} {s e : S} {t u : Tree} → w.VisitedKind enters leaves scope_enters scope_leaves o s t e u → ready s → ready e
    stays_kind (w.no_kind_hook h) r = stays_inside h r
    stays_kind (w.kind_through a h b) r = leave_law _ _ _ _ _ b (stays_inside h (enter_law _ _ _ _ _ a r))
    stays_kind (w.kind_passed_by a) r = enter_law _ _ _ _ _ a r

    pub stays_inside : {s e : S} {t u : Tree} → w.VisitedInside enters leaves scope_enters scope_leaves s t e u → ready s → ready e
    stays_inside (w.inside a h b) r = scope_left _ b (stays_below h (scope_entered _ a r))

    pub stays_below : {k : Kind} {computed : Bool} {at : ℕ} {s e : S} {ps qs : Parts} → w.VisitedBelow enters leaves scope_enters scope_leaves k computed at s ps e qs → ready s → ready e
    stays_below w.none r = r
    stays_below (w.next h hs) r = stays_below hs (stays_part h r)

    pub stays_part : {role : Role} {s e : S} {p q : Part} → w.VisitedPart enters leaves scope_enters scope_leaves role s p e q → ready s → ready e
    stays_part (w.of_child h) r = stays h r
    stays_part (w.of_list h) r = stays_items h r
    stays_part (w.bare is) r = r

    pub stays_items : {role : Role} {s e : S} {ps qs : Parts} → w.VisitedItems enters leaves scope_enters scope_leaves role s ps e qs → ready s → ready e
    stays_items w.no_item r = r
    stays_items (w.next_item h hs) r = stays_items hs (stays_part h r)
