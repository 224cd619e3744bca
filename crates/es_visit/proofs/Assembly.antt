-- The walk that changes a node, from the walks of what stands in it.
use Rattle.std.specs.Prelude.{◌≡◌, ℕ, Bool, true, false, List, length, Option, Some, None, refl}
use Rattle.std.proofs.Common.{sym, ◌∙◌, ap}
use Rattle.es_base.specs.Refilled.{refilled}
use Rattle.es_base.specs.Tree.{Tree, Parts, child, list, trees, nullable, nullable_trees}
use Rattle.es_base.specs.declared.kind.Kind.{Kind}
use Rattle.es_node.proofs.Renumbered.{refilled_same}
use Rattle.es_node.specs.View.{kind_of, node_of, part_of, parts_of}
use Rattle.es_node.specs.declared.node.Part as code
use Rattle.es_node.specs.declared.node.Part.TheVariants as part
use Rattle.es_visit.specs.Roles.{is_computed}
use Rattle.es_visit.specs.Visited.{hook_of_role, hook_of_kind, scope_of}
use Rattle.es_visit.specs.Visited as w
use Rattle.es_visit.specs.declared.roles.Role.{Role}
use Rattle.es_visit.specs.declared.visit_mut.Hook.{Hook}

pub taken_is : (v taken : Tree) (k : Kind) (i : ℕ) (sp : Option (ℕ × ℕ)) (si : Option ℕ) (ps : List code.Part) → taken ≡ v → k ≡ kind_of taken → taken ≡ node_of (kind_of taken) i sp si ps → v ≡ node_of k i sp si ps
taken_is v taken k i sp si ps same kind view = sym same ∙ view ∙ ap (λ l. node_of l i sp si ps) (sym kind)

module _ {S : Type 0} (enters : Hook → S → Tree → Bool → S → Type 0) (leaves : Hook → S → Tree → S → Tree → Type 0)
    (scope_enters : ℕ → S → S → Type 0) (scope_leaves : S → S → Type 0) where
  pub role_through : {role : Role} {hook : Hook} {s m n e : S} {t v u : Tree} (k : Kind) (o : Option Hook) {b : Bool} → k ≡ kind_of t → o ≡ hook_of_role role k → o ≡ Some hook → b ≡ true → enters hook s t b m → w.VisitedKind enters leaves scope_enters scope_leaves (hook_of_kind (kind_of t)) m t n v → leaves hook n v e u → w.Visited enters leaves scope_enters scope_leaves role s t e u
  role_through {role} {hook} {s} {m} {n} {e} {t} {v} {u} k o kind made is goes a h b =
      let asked : enters hook s t true m = rw goes at a in
      let found : hook_of_role role (kind_of t) ≡ Some hook = ap (hook_of_role role) (sym kind) ∙ sym made ∙ is in
      w.by_role (rw found (w.through asked h b))

  pub role_passed : {role : Role} {hook : Hook} {s e : S} {t : Tree} (k : Kind) (o : Option Hook) {b : Bool} → k ≡ kind_of t → o ≡ hook_of_role role k → o ≡ Some hook → b ≡ false → enters hook s t b e → w.Visited enters leaves scope_enters scope_leaves role s t e t
  role_passed {role} {hook} {s} {e} {t} k o kind made is stays a =
      let asked : enters hook s t false e = rw stays at a in
      let found : hook_of_role role (kind_of t) ≡ Some hook = ap (hook_of_role role) (sym kind) ∙ sym made ∙ is in
      w.by_role (rw found (w.passed_by asked))

  pub role_plain : {role : Role} {s e : S} {t u : Tree} (k : Kind) (o : Option Hook) → k ≡ kind_of t → o ≡ hook_of_role role k → o ≡ None → w.VisitedKind enters leaves scope_enters scope_leaves (hook_of_kind (kind_of t)) s t e u → w.Visited enters leaves scope_enters scope_leaves role s t e u
  role_plain {role} {s} {e} {t} {u} k o kind made is h =
      let none : hook_of_role role (kind_of t) ≡ None = ap (hook_of_role role) (sym kind) ∙ sym made ∙ is in
      w.by_role (rw none (w.no_hook h))

  pub kind_through : {hook : Hook} {s m n e : S} {t v u : Tree} (k : Kind) (o : Option Hook) {b : Bool} → k ≡ kind_of t → o ≡ hook_of_kind k → o ≡ Some hook → b ≡ true → enters hook s t b m → w.VisitedInside enters leaves scope_enters scope_leaves m t n v → leaves hook n v e u → w.VisitedKind enters leaves scope_enters scope_leaves (hook_of_kind (kind_of t)) s t e u
  kind_through {hook} {s} {m} {n} {e} {t} {v} {u} k o kind made is goes a h b =
      let asked : enters hook s t true m = rw goes at a in
      let found : hook_of_kind (kind_of t) ≡ Some hook = ap hook_of_kind (sym kind) ∙ sym made ∙ is in
      rw found (w.kind_through asked h b)

  pub kind_passed : {hook : Hook} {s e : S} {t : Tree} (k : Kind) (o : Option Hook) {b : Bool} → k ≡ kind_of t → o ≡ hook_of_kind k → o ≡ Some hook → b ≡ false → enters hook s t b e → w.VisitedKind enters leaves scope_enters scope_leaves (hook_of_kind (kind_of t)) s t e t
  kind_passed {hook} {s} {e} {t} k o kind made is stays a =
      let asked : enters hook s t false e = rw stays at a in
      let found : hook_of_kind (kind_of t) ≡ Some hook = ap hook_of_kind (sym kind) ∙ sym made ∙ is in
      rw found (w.kind_passed_by asked)

  pub kind_plain : {s e : S} {t u : Tree} (k : Kind) (o : Option Hook) → k ≡ kind_of t → o ≡ hook_of_kind k → o ≡ None → w.VisitedInside enters leaves scope_enters scope_leaves s t e u → w.VisitedKind enters leaves scope_enters scope_leaves (hook_of_kind (kind_of t)) s t e u
  kind_plain {s} {e} {t} {u} k o kind made is h =
      let none : hook_of_kind (kind_of t) ≡ None = ap hook_of_kind (sym kind) ∙ sym made ∙ is in
      rw none (w.no_kind_hook h)

  -- v becomes x as its parts are walked
  pub node_inside : {s m n e : S} (v x : Tree) (k : Kind) (i : ℕ) (sp : Option (ℕ × ℕ)) (si o : Option ℕ) (computed : Bool) (ps qs : List code.Part)
      → v ≡ node_of k i sp si ps → x ≡ node_of k i sp si qs → o ≡ scope_of k si → computed ≡ is_computed k (parts_of ps)
      → w.EntersScope enters leaves scope_enters scope_leaves o s m → w.VisitedBelow enters leaves scope_enters scope_leaves k computed 0 m (parts_of ps) n (parts_of qs) → w.LeavesScope enters leaves scope_enters scope_leaves o n e → w.VisitedInside enters leaves scope_enters scope_leaves s v e x
  node_inside {s} {m} {n} {e} v x k i sp si o computed ps qs is is' scope key a h b =
      let before : w.EntersScope enters leaves scope_enters scope_leaves (scope_of k si) s m = rw scope at a in
      let after : w.LeavesScope enters leaves scope_enters scope_leaves (scope_of k si) n e = rw scope at b in
      let below : w.VisitedBelow enters leaves scope_enters scope_leaves k (is_computed k (parts_of ps)) 0 m (parts_of ps) n (parts_of qs) = rw key at h in
      rw (is, is') (w.inside before below after)

  pub some_visited : {role : Role} {s e : S} {u : Tree} {o : Option Tree} (x : Tree) → o ≡ Some x → w.Visited enters leaves scope_enters scope_leaves role s x e u → w.VisitedPart enters leaves scope_enters scope_leaves role s (nullable o) e (child u)
  some_visited x is h = rw is (w.of_child h)

  pub none_visited : {role : Role} {s : S} {o : Option Tree} → o ≡ None → w.VisitedPart enters leaves scope_enters scope_leaves role s (nullable o) s (nullable o)
  none_visited is = rw is (w.bare refl)

  pub child_visited : {role : Role} {s e : S} {y : code.Part} (x u : Tree) → y ≡ part.Child x → w.Visited enters leaves scope_enters scope_leaves role s x e u → w.VisitedPart enters leaves scope_enters scope_leaves role s (part_of y) e (child u)
  child_visited x u is h = rw is (w.of_child h)

  pub list_visited : {role : Role} {s e : S} {y : code.Part} (xs us : List Tree) → y ≡ part.List xs → w.VisitedItems enters leaves scope_enters scope_leaves role s (trees xs) e (trees us) → w.VisitedPart enters leaves scope_enters scope_leaves role s (part_of y) e (list (trees us))
  list_visited xs us is h = rw is (w.of_list h)

  pub holes_visited : {role : Role} {s e : S} {y : code.Part} (xs us : List (Option Tree)) → y ≡ part.Holes xs → w.VisitedItems enters leaves scope_enters scope_leaves role s (nullable_trees xs) e (nullable_trees us) → w.VisitedPart enters leaves scope_enters scope_leaves role s (part_of y) e (list (nullable_trees us))
  holes_visited xs us is h = rw is (w.of_list h)

  -- lists that were walked through slices
  pub items_refilled : {X : Type 0} (all : List X → Parts) {role : Role} {s e : S} {ps : Parts} (xs ys : List X) → length ys ≡ length xs → w.VisitedItems enters leaves scope_enters scope_leaves role s ps e (all ys) → w.VisitedItems enters leaves scope_enters scope_leaves role s ps e (all (refilled xs ys))
  items_refilled all xs ys same h = rw (refilled_same xs ys same) h

  pub parts_refilled : {k : Kind} {computed : Bool} {at : ℕ} {s e : S} {ps : Parts} (xs ys : List code.Part) → length ys ≡ length xs → w.VisitedBelow enters leaves scope_enters scope_leaves k computed at s ps e (parts_of ys) → w.VisitedBelow enters leaves scope_enters scope_leaves k computed at s ps e (parts_of (refilled xs ys))
  parts_refilled xs ys same h = rw (refilled_same xs ys same) h

  pub bare_visited : {role : Role} {s : S} (y : code.Part) → ((x : Tree) → y ≡ part.Child x → ⊥) → ((xs : List Tree) → y ≡ part.List xs → ⊥) → ((xs : List (Option Tree)) → y ≡ part.Holes xs → ⊥) → w.VisitedPart enters leaves scope_enters scope_leaves role s (part_of y) s (part_of y)
  bare_visited (part.Child x) no_child no_list no_holes = absurd (no_child x refl)
  bare_visited part.Absent no_child no_list no_holes = w.bare refl
  bare_visited (part.List xs) no_child no_list no_holes = absurd (no_list xs refl)
  bare_visited (part.Holes xs) no_child no_list no_holes = absurd (no_holes xs refl)
  bare_visited (part.String x) no_child no_list no_holes = w.bare refl
  bare_visited part.NoString no_child no_list no_holes = w.bare refl
  bare_visited (part.Word x) no_child no_list no_holes = w.bare refl
  bare_visited (part.Boolean x) no_child no_list no_holes = w.bare refl
  bare_visited (part.Literal x) no_child no_list no_holes = w.bare refl
