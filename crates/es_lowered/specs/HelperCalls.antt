-- Calls of helpers that convert or name: what they are called with. (Our own.)
use Rattle.std.specs.Prelude.{ℕ, List, [], ◌∷◌, ◌++◌, Bool, true, false, cond, not, ◌&&◌, ◌||◌, bytes_eq, codes, Option, Some, None}
use Rattle.es_base.specs.Conforms.{is_among}
use Rattle.es_base.specs.Numbered.{is_new}
use Rattle.es_base.specs.Preorder.{preorder, preorder_of, number_of}
use Rattle.es_base.specs.Tree.{Tree, Part, Parts, Node, end, more, child, absent, list, string, literal}
use Rattle.es_base.specs.declared.kind.Kind.{Kind}
use Rattle.es_base.specs.declared.ledger.GeneratedKind.{GeneratedKind}
use Rattle.es_base.specs.declared.ledger.LedgerEntry.{LedgerEntry}
use Rattle.es_base.specs.declared.literal.LiteralValue.TheVariants as literal_value
use Rattle.es_steps.specs.Context.{generated_as, is_generated}
use Rattle.es_lowered.specs.Definitions.{spelling}
use Rattle.es_steps.specs.NameScopes.{is_any_function}
use Rattle.es_steps.specs.Parts.{at, items, string_of, is_true, is_present}
use Rattle.es_steps.specs.Printable.{name_of_part, is_spelled}
use Rattle.es_steps.specs.References.{has_number}
use Rattle.es_steps.specs.Values.{String}

abbrev pub is_helper_callee : ℕ → String → Part → Bool
is_helper_callee first h (child (Node Kind.MemberExpression m span semantic_id (more (child (Node Kind.IdentifierReference b bspan b_semantic_id (more (string s) end))) (more (child (Node Kind.IdentifierName k kspan k_semantic_id (more (string t) end))) rest)))) = is_new first b && (bytes_eq s (codes "babelHelpers") && bytes_eq h t)
is_helper_callee first h p = false

abbrev pub is_any_helper : ℕ → Part → Bool
is_any_helper first (child (Node Kind.MemberExpression m span semantic_id (more (child (Node Kind.IdentifierReference b bspan b_semantic_id (more (string s) end))) rest))) = is_new first b && bytes_eq s (codes "babelHelpers")
is_any_helper first p = false

-- ---- the computed keys of the source, and the numbers that are keys of fields and properties, which get a temporary where a
-- function or a class is named by them

abbrev pub part_number : Part → List ℕ
part_number (child t) = number_of t ∷ []
part_number p = []

abbrev pub is_number_key : Part → Bool
is_number_key (child (Node Kind.Literal m span semantic_id (more (literal (literal_value.Number raw)) end))) = true
is_number_key (child (Node Kind.Literal m span semantic_id (more (literal (literal_value.BigInt s)) end))) = true
is_number_key p = false

-- the node whose value a key has: of a sequence the last expression
abbrev mutual
  pub value_number : Tree → List ℕ
  value_number (Node Kind.SequenceExpression m span semantic_id (more (list es) end)) = last_value_number es
  value_number t = number_of t ∷ []

  pub value_number_of : Part → List ℕ
  value_number_of (child t) = value_number t
  value_number_of p = []

  pub last_value_number : Parts → List ℕ
  last_value_number end = []
  last_value_number (more p end) = value_number_of p
  last_value_number (more p (more q rest)) = last_value_number (more q rest)

abbrev pub computed_key : Tree → List ℕ
computed_key (Node Kind.PropertyDefinition m span semantic_id ps) = cond (is_true (at 2 ps) || is_number_key (at 0 ps)) (value_number_of (at 0 ps)) []
computed_key (Node Kind.MethodDefinition m span semantic_id ps) = cond (is_true (at 3 ps)) (value_number_of (at 0 ps)) []
computed_key (Node Kind.Property m span semantic_id ps) = cond (is_true (at 5 ps) || is_number_key (at 0 ps)) (value_number_of (at 0 ps)) []
computed_key t = []

abbrev pub computed_keys : List Tree → List ℕ
computed_keys [] = []
computed_keys (t ∷ ts) = computed_key t ++ computed_keys ts

-- ---- whether the number of a node tells its value: an event has that number, or it is one of a literal, a function or a class. A
-- number that no event has may stand on another node

-- a generated name, but that of a class
abbrev pub is_renamed : Option GeneratedKind → Bool
is_renamed None = false
is_renamed (Some (GeneratedKind.ClassTemp n)) = false
is_renamed (Some kind) = true

abbrev pub is_private_kind : GeneratedKind → Bool
is_private_kind (GeneratedKind.Private n) = true
is_private_kind kind = false

abbrev pub is_private_name : List LedgerEntry → String → Bool
is_private_name [] s = false
is_private_name (e ∷ es) s = (is_private_kind e.kind && bytes_eq s e.name) || is_private_name es s

abbrev pub is_loose_key : Option GeneratedKind → Bool
is_loose_key (Some (GeneratedKind.LooseKey d)) = true
is_loose_key g = false

abbrev pub is_generated_name : List LedgerEntry → Part → Bool
is_generated_name ledger (child (Node Kind.IdentifierReference m span semantic_id ps)) = is_generated (string_of (at 0 ps)) ledger
is_generated_name ledger p = false

module _ (first : ℕ) (ledger : List LedgerEntry) where
  -- `super`, a generated name, a new function that is called where it stands
  abbrev pub is_silent_callee : Part → Bool
  is_silent_callee (child (Node Kind.Super m span semantic_id ps)) = true
  is_silent_callee (child (Node Kind.IdentifierReference m span semantic_id ps)) = is_generated (string_of (at 0 ps)) ledger
  is_silent_callee (child (Node kind m span semantic_id ps)) = is_new first m && is_any_function kind
  is_silent_callee p = false

  -- `Object.defineProperty(o, L, { writable: true, value: v })`
  abbrev pub is_loose_definition : Parts → Bool
  is_loose_definition (more o (more l rest)) = is_loose_key (generated_as (spelling l) ledger)
  is_loose_definition es = false

  -- a helper that reads or writes a member
  abbrev pub is_member_helper : Part → Bool
  is_member_helper f =
      (is_helper_callee first (codes "classPrivateFieldGet2") f || is_helper_callee first (codes "superPropGet") f)
      || (is_helper_callee first (codes "classPrivateFieldSet2") f || is_helper_callee first (codes "superPropSet") f)

  abbrev pub call_tells : Part → Parts → Bool
  call_tells f es = cond (is_any_helper first f) (is_member_helper f) (not (is_silent_callee f || is_loose_definition es))

  abbrev pub is_new_object : Part → Bool
  is_new_object (child (Node Kind.ObjectExpression m span semantic_id ps)) = is_new first m
  is_new_object p = false

  abbrev pub tells : Kind → Parts → Bool
  tells Kind.ThisExpression ps = false
  tells Kind.MetaProperty ps = false
  tells Kind.SequenceExpression ps = false
  tells Kind.AssignmentExpression ps = not (is_generated_name ledger (at 1 ps))
  -- a private element that was generated has the value that it was given
  tells Kind.PrivateField ps = not (is_private_name ledger (name_of_part (at 1 ps)))
  tells Kind.CallExpression ps = call_tells (at 0 ps) (items (at 1 ps))
  -- `({ k: e })[k]` has the value of e
  tells Kind.MemberExpression ps = not (is_new_object (at 0 ps))
  -- a name by its name, or by one of a class
  tells Kind.IdentifierReference ps = not (is_renamed (generated_as (string_of (at 0 ps)) ledger))
  tells kind ps = true

abbrev pub last_part : Parts → Part
last_part end = absent
last_part (more p end) = p
last_part (more p (more q rest)) = last_part (more q rest)

-- ---- a node whose value is that of a computed key of the source; keys are those that are what they were

module _ (first : ℕ) (ledger : List LedgerEntry) (keys : List ℕ) where
  abbrev pub is_key : Kind → ℕ → Parts → Bool
  is_key kind m ps = has_number m keys && tells first ledger kind ps

  abbrev pub is_key_part : Part → Bool
  is_key_part (child (Node kind m span semantic_id ps)) = is_key kind m ps
  is_key_part p = false

  -- whether a key is given to this name
  abbrev pub gives_key : String → List Tree → Bool
  gives_key s [] = false
  gives_key s (Node Kind.AssignmentExpression m span semantic_id ps ∷ ts) = (bytes_eq s (spelling (at 1 ps)) && is_key_part (at 2 ps)) || gives_key s ts
  gives_key s (t ∷ ts) = gives_key s ts

  abbrev pub ends_with_key : Parts → Bool
  ends_with_key es = is_generated_name ledger (last_part es) && gives_key (spelling (last_part es)) (preorder_of es)

  abbrev pub is_write : Part → Bool
  is_write f = is_helper_callee first (codes "classPrivateFieldSet2") f || is_helper_callee first (codes "superPropSet") f

  -- `(_t = k, _t)`, `a = k`, `B.toPropertyKey(k)`, `B.classPrivateFieldSet2(W, o, k)`, `B.superPropSet(h, p, k, r, 1)`
  abbrev mutual
    pub has_key : Tree → Bool
    has_key (Node kind m span semantic_id ps) = is_key kind m ps || form_has_key kind ps

    pub form_has_key : Kind → Parts → Bool
    form_has_key Kind.SequenceExpression (more (list es) end) = ends_with_key es || last_has_key es
    form_has_key Kind.AssignmentExpression (more (string operator) (more to (more right end))) = bytes_eq operator (codes "=") && part_has_key right
    form_has_key Kind.CallExpression (more f (more (list es) rest)) = (is_helper_callee first (codes "toPropertyKey") f && first_has_key es) || (is_write f && third_has_key es)
    form_has_key kind ps = false

    pub part_has_key : Part → Bool
    part_has_key (child t) = has_key t
    part_has_key p = false

    pub last_has_key : Parts → Bool
    last_has_key end = false
    last_has_key (more p end) = part_has_key p
    last_has_key (more p (more q rest)) = last_has_key (more q rest)

    pub first_has_key : Parts → Bool
    first_has_key (more p rest) = part_has_key p
    first_has_key end = false

    pub third_has_key : Parts → Bool
    third_has_key (more p (more q (more r rest))) = part_has_key r
    third_has_key ps = false

-- ---- the keys of static elements that may be `name`

pub data StaticKey : Type 0 where
  is_name : StaticKey
  -- computed, and kept by a generated name
  is_kept_by : (s : String) → StaticKey

abbrev pub kept_by : List String → StaticKey
kept_by [] = is_name
kept_by (s ∷ ss) = is_kept_by s

abbrev pub has_none : List StaticKey → Bool
has_none [] = true
has_none (k ∷ ks) = false

-- whether a class has a static block or a static field
abbrev pub runs_with_class : Part → Bool
runs_with_class (child (Node Kind.StaticBlock m span semantic_id ps)) = true
runs_with_class (child (Node Kind.PropertyDefinition m span semantic_id ps)) = is_true (at 3 ps)
runs_with_class p = false

abbrev pub any_runs : Parts → Bool
any_runs end = false
any_runs (more p ps) = runs_with_class p || any_runs ps

abbrev pub body_runs : Part → Bool
body_runs (child (Node Kind.ClassBody m span semantic_id ps)) = any_runs (items (at 0 ps))
body_runs p = false

abbrev pub is_class_body : Kind → Bool
is_class_body Kind.ClassBody = true
is_class_body kind = false

abbrev pub is_name_literal : Part → Bool
is_name_literal (child (Node Kind.Literal m span semantic_id (more (literal (literal_value.String s raw)) end))) = bytes_eq s (codes "name")
is_name_literal p = false

abbrev pub both_tests : Option (List String) → Option (List String) → Option (List String)
both_tests (Some ss) (Some ts) = Some (ss ++ ts)
both_tests ss ts = None

-- the keys that may be `name` behind tests
abbrev pub not_among : List String → StaticKey → List StaticKey
not_among tested is_name = is_name ∷ []
not_among tested (is_kept_by s) = cond (is_among s tested) [] (is_kept_by s ∷ [])

abbrev pub behind_tests : Option (List String) → List StaticKey → List StaticKey
behind_tests None ks = is_name ∷ []
behind_tests (Some tested) [] = []
behind_tests (Some tested) (k ∷ ks) = not_among tested k ++ behind_tests (Some tested) ks

module _ (first : ℕ) (ledger : List LedgerEntry) where
  abbrev pub generated_spelling : Part → List String
  generated_spelling p = cond (is_generated_name ledger p) (spelling p ∷ []) []

  abbrev pub is_key_conversion : Part → Bool
  is_key_conversion (child (Node Kind.CallExpression m span semantic_id ps)) = is_helper_callee first (codes "toPropertyKey") (at 0 ps)
  is_key_conversion p = false

  -- a key that is computed
  abbrev pub computed_static_key : Part → List StaticKey
  computed_static_key (child (Node Kind.Literal m span semantic_id (more (literal (literal_value.String s raw)) end))) = cond (bytes_eq s (codes "name")) (is_name ∷ []) []
  computed_static_key (child (Node Kind.AssignmentExpression m span semantic_id ps)) = cond (is_key_conversion (at 2 ps)) (kept_by (generated_spelling (at 1 ps))) is_name ∷ []
  computed_static_key p = is_name ∷ []

  abbrev pub static_key : Bool → Bool → Part → List StaticKey
  static_key false computed k = []
  static_key true true k = computed_static_key k
  static_key true false k = cond (is_spelled (codes "name") k) (is_name ∷ []) []

  abbrev pub method_key : Part → List StaticKey
  method_key (child (Node Kind.MethodDefinition m span semantic_id ps)) = static_key (is_true (at 4 ps)) (is_true (at 3 ps)) (at 0 ps)
  method_key p = []

  abbrev pub method_keys : Parts → List StaticKey
  method_keys end = []
  method_keys (more p ps) = method_key p ++ method_keys ps

  -- what a static field is given, and what a static block does, may give one
  abbrev pub field_key : Part → List StaticKey
  field_key (child (Node Kind.PropertyDefinition m span semantic_id ps)) = static_key (is_true (at 3 ps)) (is_true (at 2 ps)) (at 0 ps) ++ cond (is_true (at 3 ps) && is_present (at 1 ps)) (is_name ∷ []) []
  field_key (child (Node Kind.StaticBlock m span semantic_id ps)) = is_name ∷ []
  field_key p = []

  -- ---- `B.setFunctionName(this, k)` stands in a static element, alone, first in a sequence, or behind tests that keys are not
  -- `name`, and no element in front and no static method may have given the class a name

  -- `_key !== "name"`, and several by `&&`
  abbrev mutual
    pub tests_of : Tree → Option (List String)
    tests_of (Node Kind.LogicalExpression m span semantic_id (more (string s) (more l (more r end)))) = cond (bytes_eq s (codes "&&")) (both_tests (tests_at l) (tests_at r)) None
    tests_of (Node Kind.BinaryExpression m span semantic_id (more (string s) (more l (more r end)))) = cond (bytes_eq s (codes "!==") && (is_generated_name ledger l && is_name_literal r)) (Some (spelling l ∷ [])) None
    tests_of t = None

    pub tests_at : Part → Option (List String)
    tests_at (child t) = tests_of t
    tests_at p = None

  -- the numbers of the calls that stand so in a value; ks are the keys that may be `name`
  abbrev mutual
    pub naming_in : List StaticKey → Tree → List ℕ
    naming_in ks (Node Kind.CallExpression m span semantic_id (more f rest)) = cond (is_helper_callee first (codes "setFunctionName") f && has_none ks) (m ∷ []) []
    naming_in ks (Node Kind.SequenceExpression m span semantic_id (more (list (more p ps)) end)) = naming_at ks p
    naming_in ks (Node Kind.LogicalExpression m span semantic_id (more (string s) (more l (more r end)))) = cond (bytes_eq s (codes "&&")) (naming_at (behind_tests (tests_at l) ks) r) []
    naming_in ks t = []

    pub naming_at : List StaticKey → Part → List ℕ
    naming_at ks (child t) = naming_in ks t
    naming_at ks p = []

  abbrev pub element_naming : List StaticKey → Part → List ℕ
  element_naming ks (child (Node Kind.PropertyDefinition m span semantic_id ps)) = cond (is_true (at 3 ps)) (naming_at ks (at 1 ps)) []
  element_naming ks p = []

  abbrev pub body_naming : List StaticKey → Parts → List ℕ
  body_naming ks end = []
  body_naming ks (more p ps) = element_naming ks p ++ body_naming (ks ++ field_key p) ps

  abbrev pub naming_calls : List Tree → List ℕ
  naming_calls [] = []
  naming_calls (Node Kind.ClassBody m span semantic_id ps ∷ ts) = body_naming (method_keys (items (at 0 ps))) (items (at 0 ps)) ++ naming_calls ts
  naming_calls (t ∷ ts) = naming_calls ts

  -- what else it names has no static `name` of its own: a function, a class where it stands, with which nothing runs that may give
  -- it one
  abbrev pub body_keys : Part → List StaticKey
  body_keys (child (Node Kind.ClassBody m span semantic_id ps)) = method_keys (items (at 0 ps))
  body_keys p = []

  abbrev pub is_nameless : Part → Bool
  is_nameless (child (Node Kind.FunctionExpression m span semantic_id ps)) = true
  is_nameless (child (Node Kind.ArrowFunctionExpression m span semantic_id ps)) = true
  is_nameless (child (Node Kind.ClassExpression m span semantic_id ps)) = has_none (body_keys (at 2 ps)) && not (body_runs (at 2 ps))
  is_nameless p = false

  -- ---- a key by which a function or a class keeps its name was converted, `({ [_key]: e })[_key]` and `static #_ = _key`: one that
  -- is converted twice may be two

  -- the generated names that a converted key is given to
  abbrev pub converted_key : Tree → List String
  converted_key (Node Kind.AssignmentExpression m span semantic_id ps) = cond (is_key_conversion (at 2 ps)) (generated_spelling (at 1 ps)) []
  converted_key t = []

  abbrev pub converted_keys : List Tree → List String
  converted_keys [] = []
  converted_keys (t ∷ ts) = converted_key t ++ converted_keys ts

  abbrev pub is_new_private : Part → Bool
  is_new_private (child (Node Kind.PrivateIdentifier d span semantic_id ps)) = is_new first d
  is_new_private p = false

  abbrev pub new_private_names : List Tree → List String
  new_private_names [] = []
  new_private_names (Node Kind.PropertyDefinition m span semantic_id ps ∷ ts) = cond (is_new_private (at 0 ps)) (name_of_part (at 0 ps) ∷ []) [] ++ new_private_names ts
  new_private_names (t ∷ ts) = new_private_names ts

  -- `({ [A.#_]: e })[A.#_]`: the private names that are keys
  abbrev pub private_spelling : Part → List String
  private_spelling (child (Node Kind.PrivateField m span semantic_id ps)) = name_of_part (at 1 ps) ∷ []
  private_spelling p = []

  abbrev pub private_keys : List Tree → List String
  private_keys [] = []
  private_keys (Node Kind.Property m span semantic_id ps ∷ ts) = cond (is_new first m && is_true (at 5 ps)) (private_spelling (at 0 ps)) [] ++ private_keys ts
  private_keys (t ∷ ts) = private_keys ts

abbrev pub is_one_among : List String → List String → Bool
is_one_among [] names = false
is_one_among (s ∷ ss) names = is_among s names

-- what is known of a lowered program: the numbers of the calls that name classes by `this`, the names of converted keys, and the
-- private names that are new
pub record Conversions : Type 0 where
  pub naming : List ℕ
  pub converted : List String
  pub privates : List String

module _ (first : ℕ) (ledger : List LedgerEntry) (keys : List ℕ) (x : Conversions) where
  abbrev pub last_spelling : Part → List String
  last_spelling (child (Node Kind.SequenceExpression m span semantic_id (more (list es) end))) = generated_spelling first ledger (last_part es)
  last_spelling p = generated_spelling first ledger p

  abbrev pub may_be_named : ℕ → Part → Bool
  may_be_named m (child (Node Kind.ThisExpression k span semantic_id ps)) = has_number m x.naming
  may_be_named m p = is_nameless first ledger p

  -- `B.toPropertyKey(k)` and `B.setFunctionName(f, k)`
  abbrev pub call_fits : ℕ → Part → Parts → Bool
  call_fits m f (more e es) =
      (not (is_helper_callee first (codes "toPropertyKey") f) || part_has_key first ledger keys e)
      && (not (is_helper_callee first (codes "setFunctionName") f) || may_be_named m e)
  call_fits m f end = true

  abbrev pub is_kept_key : Part → Bool
  is_kept_key (child (Node Kind.PrivateField m span semantic_id ps)) = is_among (name_of_part (at 1 ps)) x.privates
  is_kept_key (child (Node Kind.Literal m span semantic_id (more (literal (literal_value.String s raw)) end))) = true
  is_kept_key p = is_one_among (generated_spelling first ledger p) x.converted

  -- names are the private names that are keys in the class body around
  abbrev pub node_fits : List String → Kind → ℕ → Parts → Bool
  node_fits names Kind.CallExpression m ps = call_fits m (at 0 ps) (items (at 1 ps))
  node_fits names Kind.Property m ps = not (is_new first m && is_true (at 5 ps)) || is_kept_key (at 0 ps)
  node_fits names Kind.PropertyDefinition m ps = not (is_new_private first ledger (at 0 ps) && is_among (name_of_part (at 0 ps)) names) || is_one_among (last_spelling (at 1 ps)) x.converted
  node_fits names kind m ps = true

  abbrev pub names_inside : List String → Kind → Parts → List String
  names_inside names Kind.ClassBody ps = private_keys first ledger (preorder_of ps)
  names_inside names kind ps = names

  abbrev mutual
    pub calls_fit : List String → Tree → Bool
    calls_fit names (Node kind m span semantic_id ps) = node_fits names kind m ps && calls_in (names_inside names kind ps) ps

    pub calls_in : List String → Parts → Bool
    calls_in names end = true
    calls_in names (more p ps) = calls_at names p && calls_in names ps

    pub calls_at : List String → Part → Bool
    calls_at names (child t) = calls_fit names t
    calls_at names (list ps) = calls_in names ps
    calls_at names p = true

abbrev pub conversions : ℕ → List LedgerEntry → List Tree → Conversions
conversions first ledger qs = record { naming = naming_calls first ledger qs; converted = converted_keys first ledger qs; privates = new_private_names first ledger qs }

-- of a lowered program
abbrev pub helper_calls_fit : ℕ → List LedgerEntry → List ℕ → Tree → Bool
helper_calls_fit first ledger keys q = calls_fit first ledger keys (conversions first ledger (preorder q)) [] q
