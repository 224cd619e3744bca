-- The definitions of fields in a lowered program, and that they are those of the source, in its order. (Our own. p is the
-- source, q what it was lowered to, `first` the number of the first new node.)
use Rattle.std.specs.Prelude.{ℕ, List, [], ◌∷◌, ◌++◌, Bool, true, false, cond, not, ◌&&◌, ◌||◌, nat_eq, codes, bytes_eq, Option, Some, None}
use Rattle.es_base.specs.Numbered.{is_new}
use Rattle.es_base.specs.Preorder.{preorder, number_of}
use Rattle.es_base.specs.Tree.{Tree, Part, Parts, Node, end, more, child, absent, list, string, literal}
use Rattle.es_base.specs.declared.kind.Kind.{Kind}
use Rattle.es_base.specs.declared.ledger.GeneratedKind.{GeneratedKind}
use Rattle.es_base.specs.declared.ledger.LedgerEntry.{LedgerEntry}
use Rattle.es_base.specs.declared.literal.LiteralValue.TheVariants as literal_value
use Rattle.es_steps.specs.Context.{generated_as, is_function}
use Rattle.es_steps.specs.KeptNodes.{is_within, stands_equal}
use Rattle.es_steps.specs.LoweredClasses.{Element, elements_of, is_left_out, is_lowered_element, constructor_in, referent_of, needs_temporary}
use Rattle.es_steps.specs.Options.{lowers_fields, sets_fields}
use Rattle.es_steps.specs.Parts.{at, items, string_of, is_true, is_present}
use Rattle.es_steps.specs.PrivateNames.{PrivateMember, member_at, is_class}
use Rattle.es_steps.specs.References.{Reference, resolve, written, has_number}
use Rattle.es_steps.specs.SameTrees.{same_part}
use Rattle.es_steps.specs.SameValues.{same_boolean}
use Rattle.es_steps.specs.Scopes.{class_in}
use Rattle.es_steps.specs.Values.{String, Referent, Bound}
use Rattle.es_steps.specs.declared.options.Options.{Options}

-- ---- forms of definitions

pub data DefinedKey : Type 0 where
  -- the brand of the private methods of a class, and a private member, by the generated name
  BrandKey : (name : String) → DefinedKey
  PrivateKey : (name : String) → DefinedKey
  -- a key, and whether it stands as a property name
  PublicKey : (key : Part) (is_name : Bool) → DefinedKey

-- a definition on an object, or of the object of a static field itself
pub record FieldDefinition : Type 0 where
  pub object : Part
  pub key : DefinedKey
  pub value : Part

abbrev pub definition : Part → DefinedKey → Part → List FieldDefinition
definition o k v = record { object = o; key = k; value = v } ∷ []

abbrev pub spelling : Part → String
spelling (child (Node Kind.IdentifierReference m span semantic_id ps)) = string_of (at 0 ps)
spelling (child (Node Kind.BindingIdentifier m span semantic_id ps)) = string_of (at 0 ps)
spelling p = []

-- `babelHelpers.defineProperty(o, k, v)`, `babelHelpers.classPrivateFieldInitSpec(o, W, v)`,
-- `babelHelpers.classPrivateMethodInitSpec(o, Q)`
abbrev pub helper_definition : String → Parts → List FieldDefinition
helper_definition h (more o (more k (more v end))) = cond (bytes_eq h (codes "defineProperty")) (definition o (PublicKey k false) v) (cond (bytes_eq h (codes "classPrivateFieldInitSpec")) (definition o (PrivateKey (spelling k)) v) [])
helper_definition h (more o (more k end)) = cond (bytes_eq h (codes "classPrivateMethodInitSpec")) (definition o (BrandKey (spelling k)) absent) []
helper_definition h es = []

-- the value in `{ writable: true, value: v }`, and in `{ _: v }`
abbrev pub property_value : String → Part → Part
property_value s (child (Node Kind.Property m span semantic_id (more (child (Node Kind.IdentifierName k kspan k_semantic_id (more (string t) end))) (more v rest)))) = cond (bytes_eq s t) v absent
property_value s p = absent

abbrev pub writable_part : Part → Part
writable_part (child (Node Kind.ObjectExpression m span semantic_id (more (list (more w (more v end))) end))) = cond (is_present (property_value (codes "writable") w)) (property_value (codes "value") v) absent
writable_part p = absent

abbrev pub field_part : Part → Part
field_part (child (Node Kind.ObjectExpression m span semantic_id (more (list (more v end)) end))) = property_value (codes "_") v
field_part p = absent

-- `Object.defineProperty(o, L, { writable: true, value: v })`
abbrev pub loose_by : Option GeneratedKind → Part → Part → Part → List FieldDefinition
loose_by (Some (GeneratedKind.LooseKey d)) o k (child v) = definition o (PrivateKey (spelling k)) (child v)
loose_by g o k v = []

abbrev pub object_definition : List LedgerEntry → Parts → List FieldDefinition
object_definition ledger (more o (more k (more v end))) = loose_by (generated_as (spelling k) ledger) o k (writable_part v)
object_definition ledger es = []

abbrev pub call_definition : ℕ → List LedgerEntry → Part → Parts → List FieldDefinition
call_definition first ledger (child (Node Kind.MemberExpression m span semantic_id (more (child (Node Kind.IdentifierReference b bspan b_semantic_id (more (string s) end))) (more (child (Node Kind.IdentifierName k kspan k_semantic_id (more (string h) end))) rest)))) es =
    cond (is_new first b && bytes_eq s (codes "babelHelpers")) (helper_definition h es) (cond (is_new first b && (bytes_eq s (codes "Object") && bytes_eq h (codes "defineProperty"))) (object_definition ledger es) [])
call_definition first ledger f es = []

-- `S = { _: v }`, and, where fields are set, `o.k = v` and `o[k] = v`
abbrev pub static_by : Option GeneratedKind → Part → Part → List FieldDefinition
static_by (Some (GeneratedKind.StaticField d)) to (child v) = definition absent (PrivateKey (spelling to)) (child v)
static_by g to v = []

abbrev pub static_definition : List LedgerEntry → Part → Part → List FieldDefinition
static_definition ledger to v = static_by (generated_as (spelling to) ledger) to (field_part v)

abbrev pub set_definition : Options → Part → Part → List FieldDefinition
set_definition o (child (Node Kind.MemberExpression m span semantic_id ps)) v = cond (sets_fields o) (definition (at 0 ps) (PublicKey (at 1 ps) (not (is_true (at 2 ps)))) v) []
set_definition o p v = []

abbrev pub is_assignment : Parts → Bool
is_assignment ps = bytes_eq (string_of (at 0 ps)) (codes "=")

-- the classes of names that stand for `super(..)`
abbrev pub is_super_of : ℕ → Option GeneratedKind → Bool
is_super_of n (Some (GeneratedKind.SuperFn k)) = nat_eq n k.0
is_super_of n g = false

-- what an assignment or a declarator gives to what
abbrev pub given_to : Kind → Parts → Part
given_to Kind.AssignmentExpression ps = at 1 ps
given_to Kind.VariableDeclarator ps = at 0 ps
given_to kind ps = absent

abbrev pub given_part : Kind → Parts → Part
given_part Kind.AssignmentExpression ps = at 2 ps
given_part Kind.VariableDeclarator ps = at 1 ps
given_part kind ps = absent

-- ---- the definitions in a tree

module _ (first : ℕ) (o : Options) (ledger : List LedgerEntry) where
  -- that a node is by itself
  abbrev pub definition_at : Kind → ℕ → Parts → List FieldDefinition
  definition_at Kind.CallExpression m ps = call_definition first ledger (at 0 ps) (items (at 1 ps))
  definition_at Kind.AssignmentExpression m ps = cond (is_new first m && is_assignment ps) (set_definition o (at 1 ps) (at 2 ps) ++ static_definition ledger (at 1 ps) (at 2 ps)) []
  definition_at Kind.VariableDeclarator m ps = static_definition ledger (at 0 ps) (at 1 ps)
  definition_at kind m ps = []

  abbrev pub is_given_super : ℕ → Kind → Parts → Bool
  is_given_super n kind ps = is_super_of n (generated_as (spelling (given_to kind ps)) ledger)

  -- outside nested classes, functions that are no arrows, and what stands for `super(..)` of class n
  abbrev mutual
    pub definitions_in : ℕ → Tree → List FieldDefinition
    definitions_in n (Node kind m span semantic_id ps) = cond (is_class kind || (is_function kind || is_given_super n kind ps)) [] (definition_at kind m ps ++ definitions_of n ps)

    pub definitions_at : ℕ → Part → List FieldDefinition
    definitions_at n (child t) = definitions_in n t
    definitions_at n (list ps) = definitions_of n ps
    definitions_at n p = []

    pub definitions_of : ℕ → Parts → List FieldDefinition
    definitions_of n end = []
    definitions_of n (more p ps) = definitions_at n p ++ definitions_of n ps

  -- in a function
  abbrev pub function_definitions : ℕ → Part → List FieldDefinition
  function_definitions n (child (Node kind m span semantic_id ps)) = definitions_of n ps
  function_definitions n p = []

  -- in the functions that stand for `super(..)` of class n
  abbrev pub super_definitions : ℕ → List Tree → List FieldDefinition
  super_definitions n [] = []
  super_definitions n (Node kind m span semantic_id ps ∷ ts) = cond (is_given_super n kind ps) (function_definitions n (given_part kind ps)) [] ++ super_definitions n ts

  -- the constructors of class n
  abbrev pub constructor_definitions : ℕ → List Tree → List FieldDefinition
  constructor_definitions n [] = []
  constructor_definitions n (Node kind k span semantic_id ps ∷ ts) = cond (is_class kind && nat_eq n k) (function_definitions n (constructor_in (at 2 ps))) [] ++ constructor_definitions n ts

  abbrev pub all_definitions : List Tree → List FieldDefinition
  all_definitions [] = []
  all_definitions (Node kind m span semantic_id ps ∷ ts) = definition_at kind m ps ++ all_definitions ts

-- ---- those of the instances of a class, and those of the class

abbrev pub is_new_this : ℕ → Part → Bool
is_new_this first (child (Node Kind.ThisExpression m span semantic_id ps)) = is_new first m
is_new_this first p = false

abbrev pub on_this : ℕ → List FieldDefinition → List FieldDefinition
on_this first [] = []
on_this first (d ∷ ds) = cond (is_new_this first d.object) (d ∷ []) [] ++ on_this first ds

abbrev pub instance_definitions : ℕ → Options → List LedgerEntry → Tree → ℕ → List FieldDefinition
instance_definitions first o ledger q n = on_this first (super_definitions first o ledger n (preorder q) ++ constructor_definitions first o ledger n (preorder q))

-- the identifiers that declare class n: its own, and that of a new `let` which names it
abbrev pub identifier_in : Part → List ℕ
identifier_in (child (Node Kind.BindingIdentifier b span semantic_id ps)) = b ∷ []
identifier_in p = []

abbrev pub is_class_number : ℕ → Option ℕ → Bool
is_class_number n None = false
is_class_number n (Some k) = nat_eq n k

-- a new `let` has the identifier of the class declaration that it stands for: one of another name may hold the class in its value
abbrev pub old_ones : ℕ → List ℕ → List ℕ
old_ones first [] = []
old_ones first (n ∷ ns) = cond (is_new first n) [] (n ∷ []) ++ old_ones first ns

abbrev pub declares_class : ℕ → ℕ → Kind → ℕ → Parts → List ℕ
declares_class first n Kind.ClassDeclaration m ps = cond (nat_eq n m) (identifier_in (at 0 ps)) []
declares_class first n Kind.ClassExpression m ps = cond (nat_eq n m) (identifier_in (at 0 ps)) []
declares_class first n Kind.VariableDeclarator m ps = cond (is_new first m && is_class_number n (class_in (at 1 ps))) (old_ones first (identifier_in (at 0 ps))) []
declares_class first n kind m ps = []

abbrev pub class_identifiers : ℕ → ℕ → List Tree → List ℕ
class_identifiers first n [] = []
class_identifiers first n (Node kind m span semantic_id ps ∷ ts) = declares_class first n kind m ps ++ class_identifiers first n ts

abbrev pub is_class_temporary : ℕ → Option GeneratedKind → Bool
is_class_temporary n (Some (GeneratedKind.ClassTemp k)) = nat_eq n k.0
is_class_temporary n g = false

abbrev pub is_bound_among : List ℕ → Option Referent → Bool
is_bound_among bs (Some (Bound b)) = has_number b bs
is_bound_among bs r = false

-- a reference to a name of class n, also where that is written
abbrev pub names_class : ℕ → List LedgerEntry → List Reference → List ℕ → Part → Bool
names_class n ledger references identifiers (child (Node Kind.IdentifierReference m span semantic_id ps)) = is_class_temporary n (generated_as (string_of (at 0 ps)) ledger) || is_bound_among identifiers (referent_of m references)
names_class n ledger references identifiers p = false

abbrev pub is_member_of : ℕ → Option PrivateMember → Bool
is_member_of n None = false
is_member_of n (Some x) = nat_eq n x.class

abbrev pub is_static_member : ℕ → Option GeneratedKind → List PrivateMember → Bool
is_static_member n (Some (GeneratedKind.StaticField d)) members = is_member_of n (member_at d.0 members)
is_static_member n g members = false

abbrev pub key_is_static : ℕ → List LedgerEntry → List PrivateMember → DefinedKey → Bool
key_is_static n ledger members (PrivateKey s) = is_static_member n (generated_as s ledger) members
key_is_static n ledger members k = false

abbrev pub is_static_of : ℕ → List LedgerEntry → List PrivateMember → List Reference → List ℕ → FieldDefinition → Bool
is_static_of n ledger members references identifiers d = cond (is_present d.object) (names_class n ledger references identifiers d.object) (key_is_static n ledger members d.key)

abbrev pub statics_of : (FieldDefinition → Bool) → List FieldDefinition → List FieldDefinition
statics_of test [] = []
statics_of test (d ∷ ds) = cond (test d) (d ∷ []) [] ++ statics_of test ds

abbrev pub static_definitions : ℕ → Options → List LedgerEntry → List PrivateMember → Tree → ℕ → List FieldDefinition
static_definitions first o ledger members q n = statics_of (is_static_of n ledger members (resolve q) (class_identifiers first n (preorder q))) (all_definitions first o ledger (preorder q))

-- ---- a definition is that of a field: its key

abbrev pub is_member_name : ℕ → Option GeneratedKind → Bool
is_member_name d (Some (GeneratedKind.WeakMap k)) = nat_eq d k.0
is_member_name d (Some (GeneratedKind.StaticField k)) = nat_eq d k.0
is_member_name d (Some (GeneratedKind.LooseKey k)) = nat_eq d k.0
is_member_name d g = false

abbrev pub is_temporary : Option GeneratedKind → Bool
is_temporary (Some GeneratedKind.Temp) = true
is_temporary g = false

abbrev pub is_member_key : Part → Option GeneratedKind → Bool
is_member_key (child (Node kind d span semantic_id ps)) g = is_member_name d g
is_member_key p g = false

-- what a name refers to
abbrev pub referent_at : Part → List Reference → Option Referent
referent_at (child (Node kind m span semantic_id ps)) references = referent_of m references
referent_at p references = None

abbrev pub is_property_name : String → Bool → Part → Bool
is_property_name s true (child (Node Kind.IdentifierName m span semantic_id ps)) = bytes_eq s (string_of (at 0 ps))
is_property_name s false (child (Node Kind.Literal m span semantic_id (more (literal (literal_value.String t raw)) end))) = bytes_eq s t
is_property_name s is_name p = false

abbrev pub same_referent : Option Referent → Option Referent → Bool
same_referent (Some (Bound b)) (Some (Bound c)) = nat_eq b c
same_referent r s = false

abbrev pub is_name_part : Part → Bool
is_name_part (child (Node Kind.IdentifierReference m span semantic_id ps)) = true
is_name_part p = false

-- what two programs say of names: of the source the bindings that are written
pub record Names : Type 0 where
  pub ledger : List LedgerEntry
  pub source : List Reference
  pub written : List ℕ
  pub lowered : List Reference
  pub identifiers : List ℕ

-- a computed key: one that needs a temporary is one, a name is that name or one of the class, all else is itself
abbrev pub is_computed_key : Names → ℕ → Part → Part → Bool
is_computed_key x n key k =
    cond (needs_temporary x.written x.source key) (is_temporary (generated_as (spelling k) x.ledger))
    (cond (is_name_part key) (same_referent (referent_at key x.source) (referent_at k x.lowered) || names_class n x.ledger x.lowered x.identifiers k) (same_part key k))

abbrev pub is_key_of : Names → ℕ → Element → Part → Bool → Part → Bool
is_key_of x n e (child (Node Kind.IdentifierName m span semantic_id ps)) is_name k = is_property_name (string_of (at 0 ps)) is_name k
is_key_of x n e key is_name k = not is_name && cond e.computed (is_computed_key x n key k) (same_part key k)

abbrev pub key_fits : Names → ℕ → Element → DefinedKey → Bool
key_fits x n e (BrandKey s) = false
key_fits x n e (PrivateKey s) = e.is_private && is_member_key e.key (generated_as s x.ledger)
key_fits x n e (PublicKey k is_name) = not e.is_private && is_key_of x n e e.key is_name k

-- ---- its value

abbrev pub is_void_zero : Part → Bool
is_void_zero (child (Node Kind.UnaryExpression m span semantic_id (more (string operator) (more (child (Node Kind.Literal k kspan k_semantic_id (more (literal (literal_value.Number raw)) end))) end)))) = bytes_eq operator (codes "void") && bytes_eq raw (codes "0")
is_void_zero p = false

abbrev pub nodes_in : Part → List Tree
nodes_in (child t) = preorder t
nodes_in p = []

abbrev pub number_stands : ℕ → List Tree → Bool
number_stands m [] = false
number_stands m (t ∷ ts) = nat_eq m (number_of t) || number_stands m ts

abbrev pub is_followed : Kind → Bool
is_followed Kind.IdentifierReference = true
is_followed Kind.FunctionExpression = true
is_followed Kind.ArrowFunctionExpression = true
is_followed Kind.ClassExpression = true
is_followed Kind.CallExpression = true
is_followed Kind.NewExpression = true
is_followed kind = false

abbrev pub value_fits : Part → Part → Bool
value_fits absent v = is_void_zero v
value_fits (child (Node Kind.Literal m span semantic_id ps)) v = stands_equal (Node Kind.Literal m span semantic_id ps) (nodes_in v)
value_fits (child (Node kind m span semantic_id ps)) v = not (is_followed kind) || number_stands m (nodes_in v)
value_fits p v = false

-- ---- all definitions of a class

abbrev pub all_fit : Names → ℕ → List Element → List FieldDefinition → Bool
all_fit x n [] [] = true
all_fit x n (e ∷ es) (d ∷ ds) = (key_fits x n e d.key && value_fits e.value d.value) && all_fit x n es ds
all_fit x n es ds = false

abbrev pub is_brand_of : ℕ → Option GeneratedKind → Bool
is_brand_of n (Some (GeneratedKind.Brand k)) = nat_eq n k.0
is_brand_of n g = false

abbrev pub is_brand_key : ℕ → List LedgerEntry → DefinedKey → Bool
is_brand_key n ledger (BrandKey s) = is_brand_of n (generated_as s ledger)
is_brand_key n ledger k = false

-- the brand stands in front where there is one
abbrev pub branded_fit : Names → ℕ → Bool → List Element → List FieldDefinition → Bool
branded_fit x n false es ds = all_fit x n es ds
branded_fit x n true es [] = false
branded_fit x n true es (d ∷ ds) = is_brand_key n x.ledger d.key && all_fit x n es ds

abbrev pub is_instance_method : Element → Bool
is_instance_method e = e.is_private && not (e.is_static || e.is_field)

abbrev pub any_of : (Element → Bool) → List Element → Bool
any_of test [] = false
any_of test (e ∷ es) = test e || any_of test es

abbrev pub chosen : (Element → Bool) → List Element → List Element
chosen test [] = []
chosen test (e ∷ es) = cond (test e) (e ∷ []) [] ++ chosen test es

-- the fields that are defined
abbrev pub defined_fields : Options → Bool → List Element → List Element
defined_fields o is_static es = chosen (λ e. e.is_field && (not (is_left_out o e) && same_boolean is_static e.is_static)) es

abbrev pub names_of : ℕ → List LedgerEntry → Tree → Tree → ℕ → Names
names_of first ledger p q n = record { ledger = ledger; source = resolve p; written = written p; lowered = resolve q; identifiers = class_identifiers first n (preorder q) }

-- of class n with these elements
abbrev pub class_fits : ℕ → Options → List LedgerEntry → List PrivateMember → Tree → Tree → ℕ → List Element → Bool
class_fits first o ledger members p q n es =
    let x : Names = names_of first ledger p q n in
    branded_fit x n (any_of is_instance_method es) (defined_fields o false es) (instance_definitions first o ledger q n) && all_fit x n (defined_fields o true es) (static_definitions first o ledger members q n)

abbrev pub classes_fit : ℕ → Options → List LedgerEntry → List PrivateMember → Tree → Tree → List Tree → Bool
classes_fit first o ledger members p q [] = true
classes_fit first o ledger members p q (Node kind n span semantic_id ps ∷ ts) = (not (is_class kind) || class_fits first o ledger members p q n (elements_of ps)) && classes_fit first o ledger members p q ts

-- what stands for `super(..)` and is not called, as in a constructor without one, is `(..._args) => (super(..._args), .., this)` with
-- definitions alone: nothing else says what stands in it
abbrev pub is_super_name : Option GeneratedKind → Bool
is_super_name (Some (GeneratedKind.SuperFn n)) = true
is_super_name g = false

abbrev pub any_reads : String → List Reference → Bool
any_reads s [] = false
any_reads s (r ∷ rs) = (bytes_eq s r.spelling && not r.writes) || any_reads s rs

abbrev pub any_definition : List FieldDefinition → Bool
any_definition [] = false
any_definition (d ∷ ds) = true

module _ (first : ℕ) (o : Options) (ledger : List LedgerEntry) where
  abbrev pub is_construction : Part → Bool
  is_construction (child (Node Kind.ThisExpression m span semantic_id ps)) = true
  is_construction (child (Node Kind.CallExpression m span semantic_id (more (child (Node Kind.Super k kspan k_semantic_id ks)) rest))) = true
  is_construction (child (Node kind m span semantic_id ps)) = any_definition (definition_at first o ledger kind m ps)
  is_construction p = false

  abbrev pub are_constructions : Parts → Bool
  are_constructions end = true
  are_constructions (more p ps) = is_construction p && are_constructions ps

  abbrev pub is_plain_super : Part → Bool
  is_plain_super (child (Node Kind.ArrowFunctionExpression m span semantic_id (more args (more (child (Node Kind.SequenceExpression k kspan k_semantic_id (more (list es) end))) rest)))) = are_constructions es
  is_plain_super p = false

  abbrev pub super_stands : List Reference → Kind → Parts → Bool
  super_stands rs kind ps = not (is_super_name (generated_as (spelling (given_to kind ps)) ledger)) || (any_reads (spelling (given_to kind ps)) rs || is_plain_super (given_part kind ps))

  abbrev pub supers_stand : List Reference → List Tree → Bool
  supers_stand rs [] = true
  supers_stand rs (Node kind m span semantic_id ps ∷ ts) = super_stands rs kind ps && supers_stand rs ts

-- the names that fields and private members need, which stay in their classes without class properties
abbrev pub is_of_members : GeneratedKind → Bool
is_of_members (GeneratedKind.WeakMap n) = true
is_of_members (GeneratedKind.StaticField n) = true
is_of_members (GeneratedKind.Brand n) = true
is_of_members (GeneratedKind.Method n) = true
is_of_members (GeneratedKind.LooseKey n) = true
is_of_members (GeneratedKind.SuperFn n) = true
is_of_members GeneratedKind.Args = true
is_of_members g = false

abbrev pub none_of_members : List LedgerEntry → Bool
none_of_members [] = true
none_of_members (e ∷ es) = not (is_of_members e.kind) && none_of_members es

-- fields are defined with class properties on
abbrev pub definitions_stand : ℕ → Options → List LedgerEntry → List PrivateMember → Tree → Tree → Bool
definitions_stand first o ledger members p q = cond (lowers_fields o) (classes_fit first o ledger members p q (preorder p) && supers_stand first o ledger (resolve q) (preorder q)) (none_of_members ledger)

-- ---- the keys that are temporaries: no two fields have one, and each is given before its class

abbrev pub key_temporary : List LedgerEntry → DefinedKey → List String
key_temporary ledger (PublicKey k is_name) = cond (is_temporary (generated_as (spelling k) ledger)) (spelling k ∷ []) []
key_temporary ledger k = []

abbrev pub key_temporaries : List LedgerEntry → List FieldDefinition → List String
key_temporaries ledger [] = []
key_temporaries ledger (d ∷ ds) = key_temporary ledger d.key ++ key_temporaries ledger ds

abbrev pub class_temporaries : ℕ → Options → List LedgerEntry → List PrivateMember → Tree → ℕ → List String
class_temporaries first o ledger members q n = key_temporaries ledger (instance_definitions first o ledger q n ++ static_definitions first o ledger members q n)

-- each with the class of the field
abbrev pub with_class : ℕ → List String → List (String × ℕ)
with_class n [] = []
with_class n (s ∷ ss) = (s, n) ∷ with_class n ss

abbrev pub all_temporaries : ℕ → Options → List LedgerEntry → List PrivateMember → Tree → List Tree → List (String × ℕ)
all_temporaries first o ledger members q [] = []
all_temporaries first o ledger members q (Node kind n span semantic_id ps ∷ ts) = cond (is_class kind) (with_class n (class_temporaries first o ledger members q n)) [] ++ all_temporaries first o ledger members q ts

abbrev pub is_among_first : String → List (String × ℕ) → Bool
is_among_first s [] = false
is_among_first s (p ∷ ps) = bytes_eq s p.0 || is_among_first s ps

abbrev pub all_different : List (String × ℕ) → Bool
all_different [] = true
all_different (p ∷ ps) = not (is_among_first p.0 ps) && all_different ps

-- ---- methods, constructors and what else is not lowered stand in the body of their class, in order

abbrev pub element_numbers : List Element → List ℕ
element_numbers [] = []
element_numbers (e ∷ es) = e.number ∷ element_numbers es

abbrev pub body_numbers : ℕ → List Tree → List ℕ
body_numbers n [] = []
body_numbers n (Node kind k span semantic_id ps ∷ ts) = cond (is_class kind && nat_eq n k) (element_numbers (elements_of ps)) (body_numbers n ts)

abbrev pub elements_kept : Options → List Tree → List Tree → Bool
elements_kept o [] qs = true
elements_kept o (Node kind n span semantic_id ps ∷ ts) qs = (not (is_class kind) || is_within (element_numbers (chosen (λ e. not (is_lowered_element o e)) (elements_of ps))) (body_numbers n qs)) && elements_kept o ts qs
