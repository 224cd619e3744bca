-- The lowering as a transform of the walk: what it makes of a node as the walk comes to it, and what nodes weigh.
use Rattle.std.specs.Prelude.{◌≡◌, ℕ, ◌+◌, ◌≤◌, map, Bool, true, false, refl}
use Rattle.std.specs.List.{list_all}
use Rattle.std.proofs.Common.{arith}
use Rattle.std.proofs.lemmas.Bool.{and_parts}
use Rattle.es_base.specs.Preorder.{nodes}
use Rattle.es_base.specs.Tree.{Tree, Part, Parts, Node, end, more, child, list, trees}
use Rattle.es_base.specs.declared.kind.Kind.{Kind}
use Rattle.es_ctx.specs.declared.ctx.TraverseCtx.{TraverseCtx}
use Rattle.es_node.specs.View.{kind_of}
use Rattle.es_visit.specs.Changed.{chosen}
use Rattle.es_walk.specs.Any.{Any, any_settled}
use Rattle.es_walk.specs.Given.{Ids, load}
use Rattle.es_walk.specs.Idle.{NothingKept}
use Rattle.es_walk.specs.Laws.{AllSettled, BelowSettled}
use Rattle.es_walk.specs.Rewriting as rewriting
use Rattle.es_walk.specs.Rewriting.{Enters, Leaves}
use Rattle.es_walk.specs.SettledStores.{ListsSettled}
use Rattle.es_walk.specs.StateStays as keeping
use Rattle.es_walk.specs.Steps.{lists_of}
use Rattle.es_walk.specs.Weight.{total, total_of, total_of_part, heft, NoMore, nodes-heft}
use Rattle.class_properties.specs.Form.{is_named_field, is_body_of_fields, is_class_of_fields}
use Rattle.class_properties.specs.Lowering.{children, value_or_void, definition, lowered_elements, lowered_body, lowered_class}

abbrev pub is_program : Kind → Bool
is_program Kind.Program = true
is_program kind = false

-- the walk goes into the program alone
abbrev pub goes_into : Tree → Bool
goes_into t = is_program (kind_of t)

-- a class of fields is lowered, and any other node stays
abbrev pub lowered_node : Tree → Tree
lowered_node t = chosen (is_class_of_fields t) (lowered_class t) t

abbrev pub stays : Tree → Tree
stays t = t

-- the first field of a class weighs the constructor too
abbrev pub weight : Kind → ℕ
weight Kind.PropertyDefinition = 13
weight kind = 1

pub weighs_something : (k : Kind) → 1 ≤ weight k
weighs_something Kind.PropertyDefinition = omega arith
weighs_something k = omega arith

pub weighs_most : (k : Kind) → weight k ≤ 13
weighs_most Kind.PropertyDefinition = omega arith
weighs_most k = omega arith

-- ---- a lowered class weighs no more than the class

value-weighs : (p : Part) → total weight (value_or_void p) ≤ 2 + total_of_part weight p
value-weighs (child t) = omega arith
value-weighs p = omega arith

definition-weighs : (t : Tree) → is_named_field t ≡ true → total weight (definition t) + 4 ≤ total weight t
definition-weighs (Node Kind.PropertyDefinition id span semantic_id (more (child key) (more value ps))) h = omega (arith, value-weighs value)
definition-weighs t h = absurd (cc h)

definitions-weigh : (ps : Parts) → list_all is_named_field (children ps) ≡ true → total_of weight (trees (map definition (children ps))) ≤ total_of weight ps
definitions-weigh end h = omega arith
definitions-weigh (more (child t) ps) h =
    let fields = and_parts (is_named_field t) (list_all is_named_field (children ps)) h in
    omega (arith, definition-weighs t fields.0, definitions-weigh ps fields.1)
definitions-weigh (more p ps) h = omega (arith, definitions-weigh ps h)

elements-weigh : (ps : Parts) → list_all is_named_field (children ps) ≡ true → total_of weight (trees (lowered_elements (children ps))) ≤ total_of weight ps
elements-weigh end h = omega arith
elements-weigh (more (child t) ps) h =
    let fields = and_parts (is_named_field t) (list_all is_named_field (children ps)) h in
    omega (arith, definition-weighs t fields.0, definitions-weigh ps fields.1)
elements-weigh (more p ps) h = omega (arith, elements-weigh ps h)

body-weighs : (t : Tree) → is_body_of_fields t ≡ true → total weight (lowered_body t) ≤ total weight t
body-weighs (Node Kind.ClassBody id span semantic_id (more (list elements) ps)) h = omega (arith, elements-weigh elements h)
body-weighs t h = absurd (cc h)

class-weighs : (t : Tree) → is_class_of_fields t ≡ true → total weight (lowered_class t) ≤ total weight t
class-weighs (Node Kind.ClassDeclaration id span semantic_id (more name (more super_class (more (child body) ps)))) h = omega (arith, body-weighs body h)
class-weighs t h = absurd (cc h)

lowered_node-weighs : (t : Tree) → total weight (lowered_node t) ≤ total weight t
lowered_node-weighs t = by (is_class_of_fields t) refl
  where
    by : (b : Bool) → is_class_of_fields t ≡ b → total weight (chosen b (lowered_class t) t) ≤ total weight t
    by true is = class-weighs t is
    by false is = omega arith

module _ {T : Type 0} where
  pub enter_pays : (answer : Bool) (ids : Ids) → NoMore {S = T × TraverseCtx} (Enters goes_into lowered_node answer) (total weight) (total weight) (load (λ s. 0) ids)
  enter_pays = rewriting.enter_pays goes_into lowered_node stays weight (λ s. 0) lowered_node-weighs

  pub leave_pays : (ids : Ids) → NoMore {S = T × TraverseCtx} (Leaves stays) (heft weight) nodes (load (λ s. 0) ids)
  leave_pays = rewriting.leave_pays goes_into lowered_node stays weight (λ s. 0) (nodes-heft weight weighs_something)

  -- of a class below a node that the walk does not go into nothing is said
  pub pass_settles : (s e : T × TraverseCtx) (t u : Tree) → Enters goes_into lowered_node false s t e u → NothingKept s → ListsSettled Any (lists_of s) → ListsSettled Any (lists_of e) × AllSettled Any u
  pass_settles = keeping.pass_settles goes_into lowered_node stays Any (λ t out. any_settled (lowered_node t))

  pub leave_settles : (s e : T × TraverseCtx) (t u : Tree) → Leaves stays s t e u → NothingKept s → ListsSettled Any (lists_of s) → BelowSettled Any t → ListsSettled Any (lists_of e) × AllSettled Any u
  leave_settles = keeping.leave_settles goes_into lowered_node stays Any (λ t below. any_settled t)
