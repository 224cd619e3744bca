-- The shapes that put a program outside the equality of meanings. (Our own: in each of them the lowering changes the order
-- of events, or reads a name twice.)
use Rattle.std.specs.Prelude.{ℕ, suc, List, [], ◌∷◌, ◌++◌, map, Bool, true, false, cond, not, ◌&&◌, ◌||◌, nat_eq, codes, bytes_eq, Option, Some, None}
use Rattle.es_base.specs.Preorder.{preorder}
use Rattle.es_base.specs.Shape.{shape_number}
use Rattle.es_base.specs.Tree.{Tree, Part, Parts, Node, end, more, child, absent, list, boolean}
use Rattle.es_base.specs.declared.kind.Kind.{Kind}
use Rattle.es_base.specs.declared.shape.Shape.{Shape}
use Rattle.es_steps.specs.Expressions.{is_logical}
use Rattle.es_steps.specs.LoweredClasses.{is_private_key, Element, elements_of, any_element, is_lowered_class, constructor_in, referent_of, is_written_binding, is_hoisted_key}
use Rattle.es_steps.specs.Meaning.{Meaning, source_terms, means}
use Rattle.es_steps.specs.NameScopes.{is_suspended_scope}
use Rattle.es_steps.specs.Options.{lowers_fields, lowers_blocks, keeps_privates_as_properties}
use Rattle.es_steps.specs.Parts.{at, items, string_of, is_true, is_present, has_pattern}
use Rattle.es_steps.specs.PrivateNames.{PrivateMember, PrivateReference, seen_members, private_reference}
use Rattle.es_steps.specs.Quiet.{Around, nothing_around, id_number, inside, has_events_at}
use Rattle.es_steps.specs.References.{Reference, resolve, written, changed_otherwise, varying, has_number}
use Rattle.es_steps.specs.Scopes.{is_class_expression}
use Rattle.es_steps.specs.Values.{Referent, Bound, Free}
use Rattle.es_steps.specs.declared.options.Options.{Options}

-- ---- what is asked of a class

pub record ClassAt : Type 0 where
  pub number : ℕ
  pub is_expression : Bool
  pub id : Part
  pub heritage : Part
  pub body : Part
  pub elements : List Element

abbrev pub class_at : Kind → ℕ → Parts → ClassAt
class_at kind n ps = record { number = n; is_expression = is_class_expression kind; id = at 0 ps; heritage = at 1 ps; body = at 2 ps; elements = elements_of ps }

-- the classes that are lowered, in preorder
abbrev pub lowered_classes : Options → List Tree → List ClassAt
lowered_classes o [] = []
lowered_classes o (Node kind n span semantic_id ps ∷ ts) = cond (is_lowered_class o kind ps) (class_at kind n ps ∷ []) [] ++ lowered_classes o ts

abbrev pub any_class : (ClassAt → Bool) → List ClassAt → Bool
any_class test [] = false
any_class test (k ∷ ks) = test k || any_class test ks

-- ---- 1: a heritage with events, and a hoisted key, or an expression with lowered blocks and no static field

abbrev pub is_static_field : Element → Bool
is_static_field e = e.is_field && e.is_static

-- lowered blocks stand before an expression that gets no temporary
abbrev pub runs_before_class : Options → ClassAt → Bool
runs_before_class o k = k.is_expression && (lowers_blocks o && (any_element (λ e. e.is_block) k.elements && not (any_element is_static_field k.elements)))

abbrev pub moves_before_heritage : Options → List ℕ → List Reference → ClassAt → Bool
moves_before_heritage o written references k = any_element (is_hoisted_key written references) k.elements || runs_before_class o k

-- the heritage is read where it stands: a is around the class
abbrev pub heritage_has_events : Options → Tree → Around → Kind → Parts → Bool
heritage_has_events o program a kind ps = has_events_at o program (inside a kind ps 1) (at 1 ps)

-- whether a node is a lowered class in which something moves before a heritage with events
abbrev pub moves_here : Options → Tree → Around → Kind → ℕ → Parts → Bool
moves_here o program a kind m ps = is_lowered_class o kind ps && (heritage_has_events o program a kind ps && moves_before_heritage o (written program) (resolve program) (class_at kind m ps))

module _ (o : Options) (program : Tree) where
  abbrev mutual
    pub moves_heritage : Around → Tree → Bool
    moves_heritage a (Node kind m span semantic_id ps) = moves_here o program a kind m ps || moves_heritage_in (inside a kind ps) ps

    pub moves_heritage_in : (ℕ → Around) → Parts → Bool
    moves_heritage_in a end = false
    moves_heritage_in a (more p ps) = moves_heritage_at (a 0) p || moves_heritage_in (λ i. a (suc i)) ps

    pub moves_heritage_at : Around → Part → Bool
    moves_heritage_at a (child t) = moves_heritage a t
    moves_heritage_at a (list ps) = moves_heritage_of a ps
    moves_heritage_at a p = false

    pub moves_heritage_of : Around → Parts → Bool
    moves_heritage_of a end = false
    moves_heritage_of a (more p ps) = moves_heritage_at a p || moves_heritage_of a ps

abbrev pub has_shape_1 : Options → Tree → Bool
has_shape_1 o t = lowers_fields o && moves_heritage o t nothing_around t

-- ---- 2: fields or private methods of instances of a base class, and a parameter that is no identifier

abbrev pub has_pattern_parameter : Part → Bool
has_pattern_parameter (child (Node kind f span semantic_id ps)) = has_pattern (items (at 1 ps))
has_pattern_parameter p = false

abbrev pub initializes_instances : Element → Bool
initializes_instances e = not e.is_static && (e.is_field || e.is_private)

abbrev pub initializes_with_pattern : ClassAt → Bool
initializes_with_pattern k = any_element initializes_instances k.elements && has_pattern_parameter (constructor_in k.body)

abbrev pub is_late_class : ClassAt → Bool
is_late_class k = not (is_present k.heritage) && initializes_with_pattern k

abbrev pub late_classes : List ClassAt → List ℕ
late_classes [] = []
late_classes (k ∷ ks) = cond (is_late_class k) (k.number ∷ []) [] ++ late_classes ks

-- the classes whose fields come behind their parameters
abbrev pub late_of : Options → Tree → List ℕ
late_of o t = cond (lowers_fields o) (late_classes (lowered_classes o (preorder t))) []

abbrev pub has_shape_2 : Options → List ClassAt → Bool
has_shape_2 o ks = lowers_fields o && any_class is_late_class ks

-- ---- 3: a static block that is kept beside a static field or a private member, or, in a class with a heritage, beside fields and
-- a parameter that is no identifier: it may call `super(..)`, and the fields are then initialized outside of the class

abbrev pub initializes_outside : ClassAt → Bool
initializes_outside k = is_present k.heritage && initializes_with_pattern k

abbrev pub keeps_block : ClassAt → Bool
keeps_block k = any_element (λ e. e.is_block) k.elements && (any_element (λ e. is_static_field e || e.is_private) k.elements || initializes_outside k)

abbrev pub has_shape_3 : Options → List ClassAt → Bool
has_shape_3 o ks = lowers_fields o && (not (lowers_blocks o) && any_class keeps_block ks)

-- ---- 4: a bound name that varies and is read twice: the object of a private member that is written by an
-- operator, updated, called, a tag or behind `?.`, or the key of a `super` member in moved code that is written by an
-- operator or updated. A private member that is kept as a property is read once but where a logical operator writes it, and
-- behind `?.`. And a name that changes without a write as a computed key of a lowered class, which is read at another time: that of a
-- field, where the field is defined; and any, where other keys are evaluated in front of the class.

abbrev pub is_written_name : List ℕ → List Reference → Part → Bool
is_written_name written references (child (Node Kind.IdentifierReference m span semantic_id ps)) = is_written_binding written (referent_of m references)
is_written_name written references p = false

abbrev pub private_object : Part → Part
private_object (child (Node Kind.PrivateField m span semantic_id ps)) = at 0 ps
private_object p = absent

abbrev pub super_key : Part → Part
super_key (child (Node Kind.MemberExpression m span semantic_id (more (child (Node Kind.Super s sspan s_semantic_id ss)) (more key (more (boolean true) rest))))) = key
super_key p = absent

abbrev pub is_super_reference : Part → Bool
is_super_reference p = is_present (super_key p)

-- what a chain begins with: the object of its first `?.` before a private name
abbrev pub optional_object : Bool → Part → Part
optional_object true p = p
optional_object false p = absent

abbrev pub part_if : Bool → Part → Part
part_if true p = p
part_if false p = absent

-- the parts that a node by itself reads twice, where private members are kept as properties, and in moved code, or not
abbrev pub read_twice : Bool → Bool → Kind → Parts → List Part
read_twice loose moved Kind.AssignmentExpression ps = cond (bytes_eq (string_of (at 0 ps)) (codes "=")) [] (part_if (not loose || is_logical (string_of (at 0 ps))) (private_object (at 1 ps)) ∷ part_if moved (super_key (at 1 ps)) ∷ [])
read_twice loose moved Kind.UpdateExpression ps = part_if (not loose) (private_object (at 1 ps)) ∷ part_if moved (super_key (at 1 ps)) ∷ []
read_twice loose moved Kind.CallExpression ps = part_if (not loose) (private_object (at 0 ps)) ∷ []
read_twice loose moved Kind.TaggedTemplateExpression ps = part_if (not loose) (private_object (at 0 ps)) ∷ []
read_twice loose moved Kind.PrivateField ps = optional_object (is_true (at 3 ps)) (at 0 ps) ∷ []
read_twice loose moved kind ps = []

abbrev pub any_written : List ℕ → List Reference → List Part → Bool
any_written written references [] = false
any_written written references (p ∷ ps) = is_written_name written references p || any_written written references ps

-- whether code is moved in the i-th part of a node: the value of a static field, a static block that is lowered, and a
-- private method, whose function this is or not
abbrev pub moved_in : Options → Bool → Bool → Kind → Parts → ℕ → Bool
moved_in o moved of_method Kind.FunctionDeclaration ps i = false
moved_in o moved of_method Kind.FunctionExpression ps i = of_method
moved_in o moved of_method Kind.PropertyDefinition ps i = cond (nat_eq i 1) (is_true (at 3 ps)) moved
moved_in o moved of_method Kind.StaticBlock ps i = lowers_blocks o
moved_in o moved of_method kind ps i = moved

abbrev pub is_private_function : Kind → Parts → ℕ → Bool
is_private_function Kind.MethodDefinition ps i = nat_eq i 1 && is_private_key (at 0 ps)
is_private_function kind ps i = false

module _ (o : Options) (written : List ℕ) (references : List Reference) where
  abbrev mutual
    pub reads_twice : Bool → Bool → Tree → Bool
    reads_twice moved of_method (Node kind m span semantic_id ps) = any_written written references (read_twice (keeps_privates_as_properties o) moved kind ps) || reads_twice_in (moved_in o moved of_method kind ps) (is_private_function kind ps) ps

    pub reads_twice_in : (ℕ → Bool) → (ℕ → Bool) → Parts → Bool
    reads_twice_in moved of_method end = false
    reads_twice_in moved of_method (more p ps) = reads_twice_at (moved 0) (of_method 0) p || reads_twice_in (λ i. moved (suc i)) (λ i. of_method (suc i)) ps

    pub reads_twice_at : Bool → Bool → Part → Bool
    reads_twice_at moved of_method (child t) = reads_twice moved of_method t
    reads_twice_at moved of_method (list ps) = reads_twice_of moved ps
    reads_twice_at moved of_method p = false

    pub reads_twice_of : Bool → Parts → Bool
    reads_twice_of moved end = false
    reads_twice_of moved (more p ps) = reads_twice_at moved false p || reads_twice_of moved ps

-- a name that changes without a write as a computed key, which has no temporary: that of a field, or one that stays behind keys
-- or static blocks in front of the class
abbrev pub is_changing_key : Bool → List ℕ → List Reference → Element → Bool
is_changing_key is_behind changed references e = e.computed && (is_written_name changed references e.key && (e.is_field || is_behind))

abbrev pub has_changing_key : Options → List ℕ → List ℕ → List Reference → ClassAt → Bool
has_changing_key o written changed references k = any_element (is_changing_key (moves_before_heritage o written references k) changed references) k.elements

abbrev pub has_shape_4 : Options → Tree → List ClassAt → Bool
has_shape_4 o t ks = lowers_fields o && (reads_twice o (varying t) (resolve t) false false t || any_class (has_changing_key o (written t) (changed_otherwise t) (resolve t)) ks)

-- ---- 5: a private member without a writing side as a target in a pattern; 8: a private name behind `?.` in one chain

abbrev pub is_present_number : Option ℕ → Bool
is_present_number None = false
is_present_number (Some d) = true

abbrev pub is_unwritable : Option PrivateReference → Bool
is_unwritable None = false
is_unwritable (Some r) = not (is_present_number r.writes)

abbrev pub private_spelling : Part → List ℕ
private_spelling (child (Node kind m span semantic_id ps)) = string_of (at 0 ps)
private_spelling p = []

abbrev pub is_unwritable_target : List PrivateMember → Part → Bool
is_unwritable_target seen (child (Node Kind.PrivateField m span semantic_id ps)) = is_unwritable (private_reference (private_spelling (at 1 ps)) seen)
is_unwritable_target seen p = false

abbrev pub any_unwritable : List PrivateMember → Parts → Bool
any_unwritable seen end = false
any_unwritable seen (more p ps) = is_unwritable_target seen p || any_unwritable seen ps

-- the targets that a part of a pattern has by itself
abbrev pub holds_unwritable : List PrivateMember → Kind → Parts → Bool
holds_unwritable seen Kind.ArrayAssignmentTarget ps = any_unwritable seen (items (at 0 ps))
holds_unwritable seen Kind.AssignmentTargetProperty ps = is_unwritable_target seen (at 1 ps)
holds_unwritable seen Kind.AssignmentTargetWithDefault ps = is_unwritable_target seen (at 0 ps)
holds_unwritable seen Kind.AssignmentTargetRest ps = is_unwritable_target seen (at 0 ps)
holds_unwritable seen Kind.ForInStatement ps = is_unwritable_target seen (at 0 ps)
holds_unwritable seen Kind.ForOfStatement ps = is_unwritable_target seen (at 0 ps)
holds_unwritable seen kind ps = false

abbrev mutual
  pub has_unwritable : List PrivateMember → Tree → Bool
  has_unwritable seen (Node kind m span semantic_id ps) = holds_unwritable seen kind ps || unwritable_in (λ i. seen_members kind m ps i ++ seen) ps

  pub unwritable_in : (ℕ → List PrivateMember) → Parts → Bool
  unwritable_in seen end = false
  unwritable_in seen (more p ps) = unwritable_part (seen 0) p || unwritable_in (λ i. seen (suc i)) ps

  pub unwritable_part : List PrivateMember → Part → Bool
  unwritable_part seen (child t) = has_unwritable seen t
  unwritable_part seen (list ps) = unwritable_items seen ps
  unwritable_part seen p = false

  pub unwritable_items : List PrivateMember → Parts → Bool
  unwritable_items seen end = false
  unwritable_items seen (more p ps) = unwritable_part seen p || unwritable_items seen ps

abbrev pub has_shape_5 : Options → Tree → Bool
has_shape_5 o t = lowers_fields o && has_unwritable [] t

-- ---- 6: a write of the name of a lowered class; 7: its own name in its keys or heritage, outside functions

abbrev pub class_names : List ClassAt → List ℕ
class_names [] = []
class_names (k ∷ ks) = id_number k.id ++ class_names ks

abbrev pub refers_to : List ℕ → Referent → Bool
refers_to names (Bound b) = has_number b names
refers_to names (Free s) = false

abbrev pub writes_any : List ℕ → List Reference → Bool
writes_any names [] = false
writes_any names (r ∷ rs) = (r.writes && refers_to names r.to) || writes_any names rs

-- where static blocks alone are lowered, also classes that suspend and have a scope for names
abbrev pub suspended_names : Options → List Tree → List ℕ
suspended_names o [] = []
suspended_names o (Node kind m span semantic_id ps ∷ ts) = cond (not (lowers_fields o) && (lowers_blocks o && is_suspended_scope kind ps)) (id_number (at 0 ps)) [] ++ suspended_names o ts

abbrev pub has_shape_6 : Options → Tree → List ClassAt → Bool
has_shape_6 o t ks = writes_any (class_names ks ++ suspended_names o (preorder t)) (resolve t)

abbrev pub is_any_function : Kind → Bool
is_any_function Kind.FunctionDeclaration = true
is_any_function Kind.FunctionExpression = true
is_any_function Kind.ArrowFunctionExpression = true
is_any_function kind = false

abbrev pub refers_as : List ℕ → Option Referent → Bool
refers_as names None = false
refers_as names (Some r) = refers_to names r

abbrev pub is_reference_node : Kind → Bool
is_reference_node Kind.IdentifierReference = true
is_reference_node kind = false

-- whether a reference to one of these names stands in a tree, outside functions
abbrev mutual
  pub names_stand : List ℕ → List Reference → Tree → Bool
  names_stand names references (Node kind m span semantic_id ps) = cond (is_any_function kind) false ((is_reference_node kind && refers_as names (referent_of m references)) || names_stand_in names references ps)

  pub names_stand_at : List ℕ → List Reference → Part → Bool
  names_stand_at names references (child t) = names_stand names references t
  names_stand_at names references (list ps) = names_stand_in names references ps
  names_stand_at names references p = false

  pub names_stand_in : List ℕ → List Reference → Parts → Bool
  names_stand_in names references end = false
  names_stand_in names references (more p ps) = names_stand_at names references p || names_stand_in names references ps

abbrev pub named_in_keys : List ℕ → List Reference → List Element → Bool
named_in_keys names references [] = false
named_in_keys names references (e ∷ es) = (e.computed && names_stand_at names references e.key) || named_in_keys names references es

abbrev pub has_shape_7 : Tree → List ClassAt → Bool
has_shape_7 t ks = any_class (λ k. names_stand_at (id_number k.id) (resolve t) k.heritage || named_in_keys (id_number k.id) (resolve t) k.elements) ks

abbrev pub is_private_field : Kind → Bool
is_private_field Kind.PrivateField = true
is_private_field kind = false

abbrev pub is_optional : Kind → Parts → Bool
is_optional Kind.MemberExpression ps = is_true (at 3 ps)
is_optional Kind.PrivateField ps = is_true (at 3 ps)
is_optional Kind.CallExpression ps = is_true (at 2 ps)
is_optional kind ps = false

abbrev pub is_spine : Kind → Bool
is_spine Kind.MemberExpression = true
is_spine Kind.PrivateField = true
is_spine Kind.CallExpression = true
is_spine kind = false

-- the spine of a chain from its end: whether a private name that was met stands behind a `?.`
abbrev mutual
  pub private_behind : Bool → Tree → Bool
  private_behind met (Node kind m span semantic_id ps) = (is_optional kind ps && (met || is_private_field kind)) || (is_spine kind && private_behind_first (met || is_private_field kind) ps)

  pub private_behind_first : Bool → Parts → Bool
  private_behind_first met end = false
  private_behind_first met (more p ps) = private_behind_part met p

  pub private_behind_part : Bool → Part → Bool
  private_behind_part met (child t) = private_behind met t
  private_behind_part met p = false

abbrev pub private_chains : List Tree → Bool
private_chains [] = false
private_chains (Node Kind.ChainExpression m span semantic_id ps ∷ ts) = private_behind_part false (at 0 ps) || private_chains ts
private_chains (t ∷ ts) = private_chains ts

abbrev pub has_shape_8 : Options → Tree → Bool
has_shape_8 o t = lowers_fields o && private_chains (preorder t)

-- ---- the shapes of a program, ascending, each once

abbrev pub if_has : Bool → Shape → List Shape → List Shape
if_has true shape rest = shape ∷ rest
if_has false shape rest = rest

abbrev pub shapes_of : Options → Tree → List ClassAt → List Shape
shapes_of o t ks =
    if_has (has_shape_1 o t) Shape.S1 (if_has (has_shape_2 o ks) Shape.S2 (if_has (has_shape_3 o ks) Shape.S3 (if_has (has_shape_4 o t ks) Shape.S4
    (if_has (has_shape_5 o t) Shape.S5 (if_has (has_shape_6 o t ks) Shape.S6 (if_has (has_shape_7 t ks) Shape.S7 (if_has (has_shape_8 o t) Shape.S8 [])))))))

abbrev pub shapes : Options → Tree → List Shape
shapes o t = shapes_of o t (lowered_classes o (preorder t))

abbrev pub shape_numbers : Options → Tree → List ℕ
shape_numbers o t = map shape_number (shapes o t)

-- the meaning of a source program with the parameters before the fields in each class of the second shape
abbrev pub source_means_after : Options → Tree → Option Meaning
source_means_after o t = means (record (source_terms o t) { late = late_of o t }) t
