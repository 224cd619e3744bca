-- The walk of a node and of each sort of part, from the walks of what stands in it.
use Rattle.std.specs.Prelude.{◌≡◌, ℕ, zero, suc, ◌+◌, ◌<◌, ◌&&◌, Bool, true, false, List, [], ◌∷◌, Option, Some, None, refl, length, IsTrue}
use Rattle.std.proofs.Common.{sym, ◌∙◌, ap, get_or, arith}
use Rattle.es_base.specs.Preorder.{nodes_of}
use Rattle.es_base.specs.Table.{Field, members_of}
use Rattle.es_base.specs.Tree.{Tree, Part, Parts, Node, child, list, trees, nullable, nullable_trees}
use Rattle.es_base.specs.Refilled.{refilled}
use Rattle.es_base.specs.declared.kind.Kind.{Kind}
use Rattle.es_base.specs.declared.table.Sort.{Sort}
use Rattle.es_ctx.specs.Ancestors.{parent_of, is_statement_list, has_statements_in}
use Rattle.es_ctx.specs.declared.ancestor.Parent.{Parent}
use Rattle.es_node.proofs.Renumbered.{refilled_same}
use Rattle.es_node.specs.Bearing.{semantic_id_fits}
use Rattle.es_node.specs.View.{kind_of, node_of, part_of, parts_of, is_list, has_shape, have_shapes, is_shaped}
use Rattle.es_node.specs.declared.node.Part as code
use Rattle.es_node.specs.declared.node.Part.TheVariants as part
use Rattle.es_walk.specs.Traversed as w
use Rattle.es_walk.specs.Weight.{total, total_of, heft}

pub total-node : (weight : Kind → ℕ) (t : Tree) (k : Kind) (i : ℕ) (sp : Option (ℕ × ℕ)) (si : Option ℕ) (ps : List code.Part) → t ≡ node_of k i sp si ps → total weight t ≡ weight k + total_of weight (parts_of ps)
total-node weight t k i sp si ps is = ap (total weight) is

pub heft-node : (weight : Kind → ℕ) (t : Tree) (k : Kind) (i : ℕ) (sp : Option (ℕ × ℕ)) (si : Option ℕ) (ps : List code.Part) → t ≡ node_of k i sp si ps → heft weight t ≡ weight k + nodes_of (parts_of ps)
heft-node weight t k i sp si ps is = ap (heft weight) is

pub taken_is : (v taken : Tree) (k : Kind) (i : ℕ) (sp : Option (ℕ × ℕ)) (si : Option ℕ) (ps : List code.Part) → taken ≡ v → k ≡ kind_of taken → taken ≡ node_of (kind_of taken) i sp si ps → v ≡ node_of k i sp si ps
taken_is v taken k i sp si ps same kind view = sym same ∙ view ∙ ap (λ l. node_of l i sp si ps) (sym kind)

-- ---- shapes

parent_kind : (t : Tree) → (parent_of t).kind ≡ kind_of t
parent_kind (Node k i sp si ps) = refl

kind-told : (v taken : Tree) (parent : Parent) → taken ≡ v → parent ≡ parent_of v → parent.kind ≡ kind_of taken
kind-told v taken parent same of = ap (λ (p : Parent). p.kind) of ∙ parent_kind v ∙ ap kind_of (sym same)

pub shapes_told : (v taken : Tree) (parent : Parent) (ps : List code.Part) → taken ≡ v → parent ≡ parent_of v → have_shapes (members_of (kind_of taken)) ps ≡ true → have_shapes (members_of parent.kind) ps ≡ true
shapes_told v taken parent ps same of h = ap (λ k. have_shapes (members_of k) ps) (kind-told v taken parent same of) ∙ h

pub shaped_again : (v taken : Tree) (parent : Parent) (k : Kind) (si : Option ℕ) (ps : List code.Part) → taken ≡ v → parent ≡ parent_of v → k ≡ kind_of taken → semantic_id_fits (kind_of taken) si ≡ true → have_shapes (members_of parent.kind) ps ≡ true → IsTrue (is_shaped k si ps)
shaped_again v taken parent k si ps same of kind borne shapes =
    let told : have_shapes (members_of (kind_of taken)) ps ≡ true = sym (ap (λ l. have_shapes (members_of l) ps) (kind-told v taken parent same of)) ∙ shapes in
    rw (kind, borne, told) refl

left_of : (a b : Bool) → (a && b) ≡ true → a ≡ true
left_of true b h = refl
left_of false b h = h

right_of : (a b : Bool) → (a && b) ≡ true → b ≡ true
right_of true b h = h
right_of false b h = absurd (cc)

list-sort : (sort : Sort) (p : code.Part) → is_statement_list sort ≡ true → has_shape sort p ≡ true → is_list p ≡ true
list-sort (Sort.Child place) p is h = absurd (cc is)
list-sort (Sort.Nullable place) p is h = absurd (cc is)
list-sort (Sort.Key place) p is h = absurd (cc is)
list-sort (Sort.List place) p is h = h
list-sort (Sort.NonEmptyList place) p is h = h
list-sort (Sort.ListWithHoles place) p is h = absurd (cc is)
list-sort Sort.Name p is h = absurd (cc is)
list-sort Sort.NullableString p is h = absurd (cc is)
list-sort Sort.Boolean p is h = absurd (cc is)
list-sort Sort.False p is h = absurd (cc is)
list-sort (Sort.Word set) p is h = absurd (cc is)
list-sort Sort.Literal p is h = absurd (cc is)
list-sort Sort.Raw p is h = absurd (cc is)
list-sort Sort.Cooked p is h = absurd (cc is)
list-sort Sort.Type p is h = absurd (cc is)

-- what a list of statements holds has the shape of one
pub statements_shape : (fs : List Field) (ps : List code.Part) (at : ℕ) (d : code.Part) → at < length ps → have_shapes fs ps ≡ true → has_statements_in fs at ≡ true → is_list (get_or ps at d) ≡ true
statements_shape [] ps at d within h s = absurd (cc s)
statements_shape (f ∷ fs) [] at d within h s = absurd (cc h)
statements_shape (f ∷ fs) (p ∷ ps) zero d within h s = list-sort f.sort p s (left_of (has_shape f.sort p) _ h)
statements_shape (f ∷ fs) (p ∷ ps) (suc at) d within h s =
    let below : at < length ps = omega arith in
    statements_shape fs ps at d below (right_of (has_shape f.sort p) _ h) s

-- ---- walks

module _ {S : Type 0} (enters : Bool → S → Tree → S → Tree → Type 0) (leaves : S → Tree → S → Tree → Type 0)
    (opens : S → Parent → ℕ → Part → S → Type 0) (closes : S → Parent → ℕ → Part → S → Part → Type 0) where
  -- v becomes x as its parts are walked
  pub node_walked : {s m n e : S} {t u : Tree} (v x : Tree) (parent : Parent) (k : Kind) (i : ℕ) (sp : Option (ℕ × ℕ)) (si : Option ℕ) (ps qs : List code.Part)
      → v ≡ node_of k i sp si ps → x ≡ node_of k i sp si qs → parent ≡ parent_of v → {b : Bool} → b ≡ true → enters b s t m v → w.TraversedParts enters leaves opens closes parent 0 m (parts_of ps) n (parts_of qs) → leaves n x e u → w.Traversed enters leaves opens closes s t e u
  node_walked {s} {m} {n} {e} {t} {u} v x parent k i sp si ps qs is is' of goes a h b =
      let before : enters true s t m (Node k i sp si (parts_of ps)) = rw (goes, is) at a in
      let after : leaves n (Node k i sp si (parts_of qs)) e u = rw is' at b in
      let inside : w.TraversedParts enters leaves opens closes (parent_of (Node k i sp si (parts_of ps))) 0 m (parts_of ps) n (parts_of qs) = rw (of ∙ ap parent_of is) at h in
      w.through before inside after

  pub node_passed : {s e : S} {t u : Tree} {b : Bool} → b ≡ false → enters b s t e u → w.Traversed enters leaves opens closes s t e u
  node_passed stays a = w.passed_by (rw stays at a)

  -- a list that was walked through a slice
  pub items_refilled : {X : Type 0} (all : List X → Parts) {s e : S} {ps : Parts} (xs ys : List X) → length ys ≡ length xs → w.TraversedItems enters leaves opens closes s ps e (all ys) → w.TraversedItems enters leaves opens closes s ps e (all (refilled xs ys))
  items_refilled all xs ys same h = rw (refilled_same xs ys same) h

  pub parts_refilled : {k : Parent} {at : ℕ} {s e : S} {ps : Parts} (xs ys : List code.Part) → length ys ≡ length xs → w.TraversedParts enters leaves opens closes k at s ps e (parts_of ys) → w.TraversedParts enters leaves opens closes k at s ps e (parts_of (refilled xs ys))
  parts_refilled xs ys same h = rw (refilled_same xs ys same) h

  pub some_walked : {s e : S} {u : Tree} {o : Option Tree} (x : Tree) → o ≡ Some x → w.Traversed enters leaves opens closes s x e u → w.TraversedItem enters leaves opens closes s (nullable o) e (child u)
  some_walked x is h = rw is (w.item h)

  pub none_walked : {s : S} {o : Option Tree} → o ≡ None → w.TraversedItem enters leaves opens closes s (nullable o) s (nullable o)
  none_walked is = rw is (w.other refl)

  pub child_walked : {s e : S} {y : code.Part} (x u : Tree) → y ≡ part.Child x → w.Traversed enters leaves opens closes s x e u → w.TraversedPart enters leaves opens closes s (part_of y) e (child u)
  child_walked x u is h = rw is (w.of_child h)

  pub list_walked : {s e : S} {y : code.Part} (xs us : List Tree) → y ≡ part.List xs → w.TraversedItems enters leaves opens closes s (trees xs) e (trees us) → w.TraversedPart enters leaves opens closes s (part_of y) e (list (trees us))
  list_walked xs us is h = rw is (w.of_list h)

  pub holes_walked : {s e : S} {y : code.Part} (xs us : List (Option Tree)) → y ≡ part.Holes xs → w.TraversedItems enters leaves opens closes s (nullable_trees xs) e (nullable_trees us) → w.TraversedPart enters leaves opens closes s (part_of y) e (list (nullable_trees us))
  holes_walked xs us is h = rw is (w.of_list h)

  pub bare_walked : {s : S} (y : code.Part) → ((x : Tree) → y ≡ part.Child x → ⊥) → ((xs : List Tree) → y ≡ part.List xs → ⊥) → ((xs : List (Option Tree)) → y ≡ part.Holes xs → ⊥) → w.TraversedPart enters leaves opens closes s (part_of y) s (part_of y)
  bare_walked (part.Child x) no_child no_list no_holes = absurd (no_child x refl)
  bare_walked part.Absent no_child no_list no_holes = w.bare refl
  bare_walked (part.List xs) no_child no_list no_holes = absurd (no_list xs refl)
  bare_walked (part.Holes xs) no_child no_list no_holes = absurd (no_holes xs refl)
  bare_walked (part.String x) no_child no_list no_holes = w.bare refl
  bare_walked part.NoString no_child no_list no_holes = w.bare refl
  bare_walked (part.Word x) no_child no_list no_holes = w.bare refl
  bare_walked (part.Boolean x) no_child no_list no_holes = w.bare refl
  bare_walked (part.Literal x) no_child no_list no_holes = w.bare refl
