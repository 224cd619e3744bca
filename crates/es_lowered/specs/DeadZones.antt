-- What reads a name or `this` without an event, and what makes a class of such, stands behind what it stood behind in the source: a name
-- may be in its dead zone there (ECMA-262, 9.1.1.1.6), and in a constructor of a class with a heritage `this` is there behind `super(..)`
-- (9.1.1.3.4). (Our own.)
use Rattle.std.specs.Prelude.{ℕ, suc, List, [], ◌∷◌, ◌++◌, Bool, true, false, map, cond, not, ◌&&◌, ◌||◌, nat_eq, nat_le, bytes_eq, codes, Option, Some}
use Rattle.es_base.specs.Numbered.{is_new}
use Rattle.es_base.specs.Preorder.{preorder, preorder_of, preorder_of_part}
use Rattle.es_base.specs.Tree.{Tree, Part, Parts, Node, end, more, child, list}
use Rattle.es_base.specs.declared.kind.Kind.{Kind}
use Rattle.es_base.specs.declared.ledger.GeneratedKind.{GeneratedKind}
use Rattle.es_base.specs.declared.ledger.LedgerEntry.{LedgerEntry}
use Rattle.es_lowered.specs.ClassNames.{numbers_of, any_among, common}
use Rattle.es_lowered.specs.Definitions.{spelling, is_assignment, writable_part}
use Rattle.es_lowered.specs.HelperCalls.{part_number, is_class_body, runs_with_class}
use Rattle.es_lowered.specs.Timely.{is_same, is_held, super_functions}
use Rattle.es_steps.specs.ClassHeads.{body_keys, is_named_pair, named_by}
use Rattle.es_steps.specs.Context.{generated_as, is_function, is_super_call}
use Rattle.es_steps.specs.KeptNodes.{all_pairs_stand, is_within}
use Rattle.es_steps.specs.LoweredClasses.{Element, constructor_in, is_hoisted_key, is_lowered_class}
use Rattle.es_steps.specs.NameScopes.{is_any_function}
use Rattle.es_steps.specs.Options.{lowers_fields}
use Rattle.es_steps.specs.Parts.{at, items, is_present, string_of}
use Rattle.es_steps.specs.Printable.{has_optional}
use Rattle.es_steps.specs.PrivateNames.{is_class, is_element}
use Rattle.es_steps.specs.References.{Reference, resolve, has_number, written}
use Rattle.es_steps.specs.Repeated.{is_arrow}
use Rattle.es_steps.specs.Shapes.{ClassAt, class_at, runs_before_class}
use Rattle.es_steps.specs.Values.{String, Referent, Bound, Free}
use Rattle.es_steps.specs.declared.options.Options.{Options}

pub data TouchForm : Type 0 where
  -- a reference to identifier b, which is a variable
  reads : (b : ℕ) → TouchForm
  -- a reference of the source to the name of a class
  names_class : TouchForm
  reads_this : TouchForm
  makes_class : TouchForm
  calls_super : TouchForm
  -- a call of the closure that arrow k is
  runs_closure : (k : ℕ) → TouchForm
  -- a field, or a write behind an operation that has its number, or what stands for one of these
  defines_field : TouchForm
  -- an event of a node between its parts
  between_parts : TouchForm
  -- any other reference, an identifier that declares, and what runs other code
  another : TouchForm

-- what code touches at a node, and the parts around it in its body that may run or not, or again
pub record Touch : Type 0 where
  pub number : ℕ
  pub form : TouchForm
  pub held : List (ℕ × ℕ)

-- what a program, a function or the fields of a class touch in the order of evaluation: its number, with that of the class whose
-- constructor it is, or for whose `super(..)` it stands, and whether `this` is there behind `super(..)` alone
pub record Body : Type 0 where
  pub number : ℕ
  pub is_of_fields : Bool
  pub of_class : List ℕ
  pub derives : Bool
  pub touches : List Touch

-- ---- the variables of a program

abbrev pub bound_numbers : List Tree → List ℕ
bound_numbers [] = []
bound_numbers (Node Kind.BindingIdentifier b span semantic_id ps ∷ ts) = b ∷ bound_numbers ts
bound_numbers (t ∷ ts) = bound_numbers ts

abbrev pub variables_by : Kind → Parts → List ℕ
variables_by Kind.VariableDeclarator ps = bound_numbers (preorder_of_part (at 0 ps))
variables_by Kind.CatchClause ps = bound_numbers (preorder_of_part (at 0 ps))
variables_by Kind.ArrowFunctionExpression ps = bound_numbers (preorder_of_part (at 0 ps))
variables_by Kind.FunctionDeclaration ps = bound_numbers (preorder_of_part (at 1 ps))
variables_by Kind.FunctionExpression ps = bound_numbers (preorder_of_part (at 1 ps))
variables_by kind ps = []

abbrev pub variables : List Tree → List ℕ
variables [] = []
variables (Node kind m span semantic_id ps ∷ ts) = variables_by kind ps ++ variables ts

abbrev pub class_names : List Tree → List ℕ
class_names [] = []
class_names (Node kind m span semantic_id ps ∷ ts) = cond (is_class kind) (part_number (at 0 ps)) [] ++ class_names ts

-- ---- what is touched

abbrev pub touch : List (ℕ × ℕ) → ℕ → TouchForm → List Touch
touch held m form = record { number = m; form = form; held = held } ∷ []

-- what runs no code of its own, and waits for nothing
abbrev pub is_still : Kind → Bool
is_still Kind.Program = true
is_still Kind.Literal = true
is_still Kind.IdentifierName = true
is_still Kind.PrivateIdentifier = true
is_still Kind.TemplateElement = true
is_still Kind.ClassDeclaration = true
is_still Kind.ClassExpression = true
is_still Kind.ClassBody = true
is_still Kind.Property = true
is_still Kind.BindingProperty = true
is_still Kind.AssignmentTargetProperty = true
is_still Kind.PropertyDefinition = true
is_still Kind.MethodDefinition = true
is_still Kind.StaticBlock = true
is_still Kind.SequenceExpression = true
is_still Kind.ExpressionStatement = true
is_still Kind.EmptyStatement = true
is_still Kind.VariableDeclaration = true
is_still Kind.VariableDeclarator = true
is_still Kind.ExportNamedDeclaration = true
is_still kind = is_any_function kind

-- the closures of generated names, each with its arrow, which runs where the name is called
abbrev pub is_closure : Option GeneratedKind → Bool
is_closure (Some GeneratedKind.Closure) = true
is_closure (Some (GeneratedKind.SuperFn n)) = true
is_closure g = false

abbrev pub Closures : Type 0
Closures = List (String × ℕ)

abbrev pub closure : List LedgerEntry → String → Part → Closures
closure ledger s (child (Node Kind.ArrowFunctionExpression k span semantic_id ps)) = cond (is_closure (generated_as s ledger)) ((s, k) ∷ []) []
closure ledger s p = []

abbrev pub closures_by : List LedgerEntry → Kind → Parts → Closures
closures_by ledger Kind.AssignmentExpression ps = closure ledger (spelling (at 1 ps)) (at 2 ps)
closures_by ledger Kind.VariableDeclarator ps = closure ledger (spelling (at 0 ps)) (at 1 ps)
closures_by ledger kind ps = []

abbrev pub closures : List LedgerEntry → List Tree → Closures
closures ledger [] = []
closures ledger (Node kind m span semantic_id ps ∷ ts) = closures_by ledger kind ps ++ closures ledger ts

abbrev pub call_form : Bool → String → Closures → TouchForm
call_form true s cs = calls_super
call_form false s [] = another
call_form false s (c ∷ cs) = cond (bytes_eq s c.0) (runs_closure c.1) (call_form false s cs)

abbrev pub is_chain : Kind → Bool
is_chain Kind.ChainExpression = true
is_chain kind = false

-- a function in a block is given to a name where it stands (B.3.2)
abbrev pub is_function_declaration : Kind → Bool
is_function_declaration Kind.FunctionDeclaration = true
is_function_declaration kind = false

-- what a chain goes through: members and calls
abbrev pub is_link : Kind → Bool
is_link Kind.MemberExpression = true
is_link Kind.PrivateField = true
is_link Kind.CallExpression = true
is_link kind = false

-- a value is given behind its expression, and a loop goes over a value that comes first
abbrev pub is_turned : Kind → Bool
is_turned Kind.VariableDeclarator = true
is_turned Kind.AssignmentPattern = true
is_turned Kind.ForInStatement = true
is_turned Kind.ForOfStatement = true
is_turned kind = false

-- a key that is computed is converted behind itself, in front of its value (13.2.5.5, 13.15.5.3, 14.3.3.1)
abbrev pub is_keyed : Kind → Bool
is_keyed Kind.Property = true
is_keyed Kind.BindingProperty = true
is_keyed Kind.AssignmentTargetProperty = true
is_keyed kind = false

-- a target that is evaluated in front of the value that it may have instead
abbrev pub is_member : Part → Bool
is_member (child (Node Kind.MemberExpression m span semantic_id ps)) = true
is_member (child (Node Kind.PrivateField m span semantic_id ps)) = true
is_member p = false

abbrev pub is_pattern : Part → Bool
is_pattern (child (Node Kind.ArrayAssignmentTarget m span semantic_id ps)) = true
is_pattern (child (Node Kind.ObjectAssignmentTarget m span semantic_id ps)) = true
is_pattern p = false

-- around a node: the node whose part it is, the parts that may run or not, and the chain whose members and calls it is the object or
-- callee of
pub record Spot : Type 0 where
  pub around : List ℕ
  pub held : List (ℕ × ℕ)
  pub chain : List ℕ

abbrev pub nothing_around : Spot
nothing_around = record { around = []; held = []; chain = [] }

abbrev pub in_no_chain : Spot → Spot
in_no_chain x = record { around = x.around; held = x.held; chain = [] }

-- a node has events between its parts, too: a template converts each value where it stands, an object the keys of its properties that
-- are computed, and an array, a call and a construction spread their elements (13.2.8.5, 13.2.5.5, 13.2.4.1, 13.3.8.1)
abbrev pub touch_around : Spot → List Touch
touch_around x = map (λ n. record { number = n; form = between_parts; held = x.held }) x.around

abbrev pub converted : Spot → Kind → ℕ → List Touch
converted x Kind.Property m = touch_around x
converted x kind m = touch x.held m another

-- what stands behind a `?.` of a chain may not run, as the last part of the conditional that the chain may become
abbrev pub held_behind : List ℕ → Bool → List (ℕ × ℕ) → List (ℕ × ℕ)
held_behind [] optional held = held
held_behind (c ∷ cs) optional held = cond optional ((c, 2) ∷ held) held

-- optional says whether the node stands behind a `?.`, or has one
abbrev pub held_in : Spot → Bool → Kind → ℕ → Parts → ℕ → List (ℕ × ℕ)
held_in x optional kind m ps i = cond ((is_held kind ps i && not (is_chain kind)) || is_arrow kind) ((m, i) ∷ x.held) (cond (nat_eq i 0) x.held (held_behind x.chain optional x.held))

abbrev pub chain_in : Spot → Kind → ℕ → ℕ → List ℕ
chain_in x kind m i = cond (is_chain kind) (m ∷ []) (cond (is_link kind && nat_eq i 0) x.chain [])

abbrev pub spot_in : Spot → Bool → Kind → ℕ → Parts → ℕ → Spot
spot_in x optional kind m ps i = record { around = m ∷ []; held = held_in x optional kind m ps i; chain = chain_in x kind m i }

-- what always throws becomes a sequence that ends in a helper which does
abbrev pub throws_always : Part → Bool
throws_always (child (Node Kind.CallExpression m span semantic_id (more (child (Node Kind.MemberExpression k kspan k_semantic_id (more o (more (child (Node Kind.IdentifierName n nspan n_semantic_id ns)) rest)))) arguments))) =
    bytes_eq (string_of (at 0 ns)) (codes "readOnlyError") || bytes_eq (string_of (at 0 ns)) (codes "writeOnlyError")
throws_always p = false

abbrev pub ends_in_throw : Parts → Bool
ends_in_throw end = false
ends_in_throw (more p end) = throws_always p
ends_in_throw (more p (more q ps)) = ends_in_throw (more q ps)

-- `babelHelpers.defineProperty(o, k, v)`, `babelHelpers.classPrivateFieldInitSpec(o, W, v)`,
-- `Object.defineProperty(o, L, { writable: true, value: v })`
abbrev pub defines_by : String → String → Parts → Bool
defines_by o h (more object (more k (more v end))) =
    (bytes_eq o (codes "babelHelpers") && (bytes_eq h (codes "defineProperty") || bytes_eq h (codes "classPrivateFieldInitSpec")))
    || (bytes_eq o (codes "Object") && (bytes_eq h (codes "defineProperty") && is_present (writable_part v)))
defines_by o h arguments = false

abbrev pub defines : Part → Parts → Bool
defines (child (Node Kind.MemberExpression m span semantic_id (more o (more (child (Node Kind.IdentifierName n nspan n_semantic_id ns)) rest)))) arguments = defines_by (spelling o) (string_of (at 0 ns)) arguments
defines callee arguments = false

-- `o.k = v` and `o[k] = v`, where fields are set, with `this` or a name for o; `S._ = v` gives a static private field its value
abbrev pub is_named_or_this : Part → Bool
is_named_or_this (child (Node Kind.IdentifierReference m span semantic_id ps)) = true
is_named_or_this (child (Node Kind.ThisExpression m span semantic_id ps)) = true
is_named_or_this p = false

abbrev pub is_value_slot : Part → Bool
is_value_slot (child (Node Kind.IdentifierName m span semantic_id ps)) = bytes_eq (string_of (at 0 ps)) (codes "_")
is_value_slot p = false

abbrev pub sets_member : Part → Bool
sets_member (child (Node Kind.MemberExpression m span semantic_id (more o (more k rest)))) = is_named_or_this o && not (is_value_slot k)
sets_member p = false

-- `super.a += b` writes behind the sum (13.15.2), which has the number of both in `B.superPropSet(A, "a", B.superPropGet(A, "a", A) + b, A, 1)`,
-- as in `B.classPrivateFieldSet2(W, o, B.classPrivateFieldGet2(W, o) + b)` and in `B.toSetter(s.bind(o))._ = g.call(o) + b`
abbrev pub is_writer : Part → Bool
is_writer (child (Node Kind.MemberExpression m span semantic_id (more o (more (child (Node Kind.IdentifierName n nspan n_semantic_id ns)) rest)))) =
    bytes_eq (spelling o) (codes "babelHelpers") && (bytes_eq (string_of (at 0 ns)) (codes "superPropSet") || bytes_eq (string_of (at 0 ns)) (codes "classPrivateFieldSet2"))
is_writer p = false

abbrev pub is_setter_slot : Part → Bool
is_setter_slot (child (Node Kind.MemberExpression m span semantic_id (more (child (Node Kind.CallExpression n nspan n_semantic_id ns)) (more k rest)))) = is_value_slot k
is_setter_slot p = false

-- `this` in what runs with a class is the class (15.7.10, 15.7.11), which is there
abbrev pub is_this : TouchForm → Bool
is_this reads_this = true
is_this form = false

abbrev pub without_this : List Touch → List Touch
without_this [] = []
without_this (t ∷ ts) = cond (is_this t.form) [] (t ∷ []) ++ without_this ts

abbrev pub is_property_definition : Kind → Bool
is_property_definition Kind.PropertyDefinition = true
is_property_definition kind = false

-- asked are variables, named the names of classes
module _ (first : ℕ) (called : Closures) (asked named : List ℕ) (references : List Reference) where
  -- what runs later or elsewhere; the body of a new arrow is touched where the arrow stands, which is called behind that
  abbrev pub is_apart : Kind → ℕ → Bool
  is_apart Kind.ImportDeclaration m = true
  is_apart Kind.ExportSpecifier m = true
  is_apart kind m = is_any_function kind && not (is_arrow kind && is_new first m)

  -- of `function f(a = class { m() { class B { } } }) { }` B is no variable, though it stands in the parameters
  abbrev pub read_form : ℕ → Referent → TouchForm
  read_form m (Bound b) = cond (has_number b named) (cond (is_new first m) another names_class) (cond (has_number b asked) (reads b) another)
  read_form m (Free s) = another

  abbrev pub reference_touches : List (ℕ × ℕ) → ℕ → List Reference → List Touch
  reference_touches held m [] = []
  reference_touches held m (r ∷ rs) = cond (nat_eq m r.number) (touch held m (read_form m r.to)) [] ++ reference_touches held m rs

  abbrev pub assignment_form : ℕ → Parts → TouchForm
  assignment_form m ps = cond (cond (is_new first m) (is_assignment ps && (sets_member (at 1 ps) || is_setter_slot (at 1 ps))) (not (is_assignment ps) && is_member (at 1 ps))) defines_field another

  abbrev pub update_form : ℕ → Parts → TouchForm
  update_form m ps = cond (not (is_new first m) && is_member (at 1 ps)) defines_field another

  abbrev pub called_form : ℕ → Parts → TouchForm
  called_form m ps = cond (defines (at 0 ps) (items (at 1 ps)) || (is_new first m && is_writer (at 0 ps))) defines_field (call_form (is_super_call Kind.CallExpression ps) (spelling (at 0 ps)) called)

  -- x is around the node, held what it stands in with its own `?.`
  abbrev pub own_touches : Spot → List (ℕ × ℕ) → Kind → ℕ → Parts → List Touch
  own_touches x held Kind.IdentifierReference m ps = reference_touches held m references
  own_touches x held Kind.ThisExpression m ps = touch held m reads_this
  own_touches x held Kind.BindingIdentifier m ps = touch held m another
  own_touches x held Kind.CallExpression m ps = touch held m (called_form m ps)
  own_touches x held Kind.AssignmentExpression m ps = touch held m (assignment_form m ps)
  own_touches x held Kind.UpdateExpression m ps = touch held m (update_form m ps)
  own_touches x held Kind.SpreadElement m ps = touch_around x
  own_touches x held Kind.SequenceExpression m ps = cond (ends_in_throw (items (at 0 ps))) (touch held m another) []
  own_touches x held kind m ps = cond (is_still kind) [] (touch held m another)

  abbrev mutual
    pub touches : Spot → Tree → List Touch
    touches x (Node kind m span semantic_id ps) =
        cond (is_apart kind m) (cond (is_function_declaration kind) (touch x.held m another) []) (cond (is_class kind) (class_touches (in_no_chain x) m ps) (cond (is_turned kind) (turned (spot_in x (has_optional (Node kind m span semantic_id ps)) kind m ps) ps) (cond (is_keyed kind) (keyed (converted x kind m) (spot_in x (has_optional (Node kind m span semantic_id ps)) kind m ps) ps) (inner_touches kind (in_no_chain x) (spot_in x (has_optional (Node kind m span semantic_id ps)) kind m ps) ps))) ++ own_touches x (held_behind x.chain (has_optional (Node kind m span semantic_id ps)) x.held) kind m ps)

    pub keyed : List Touch → (ℕ → Spot) → Parts → List Touch
    keyed conversion x (more k ps) = touches_at (x 0) k ++ (conversion ++ touches_in (λ i. x (suc i)) ps)
    keyed conversion x end = []

    -- a new arrow that is called where it stands runs behind its arguments; a pattern takes apart what is evaluated first
    pub inner_touches : Kind → Spot → (ℕ → Spot) → Parts → List Touch
    inner_touches Kind.CallExpression x inside (more (child (Node Kind.ArrowFunctionExpression k span semantic_id ps)) rest) = touches_in (λ i. inside (suc i)) rest ++ cond (is_new first k) (touches_of x ps) []
    inner_touches Kind.TemplateLiteral x inside (more quasis (more (list es) rest)) = joined (inside 1) es
    inner_touches Kind.AssignmentTargetWithDefault x inside (more l (more r rest)) = cond (is_member l) (touches_at (inside 0) l ++ touches_at (inside 1) r) (touches_at (inside 1) r ++ touches_at (inside 0) l)
    inner_touches Kind.AssignmentExpression x inside (more operator (more l (more r rest))) = cond (is_pattern l) (touches_at (inside 2) r ++ touches_at (inside 1) l) (touches_at (inside 1) l ++ touches_at (inside 2) r)
    inner_touches kind x inside (more p rest) = touches_at (inside 0) p ++ touches_in (λ i. inside (suc i)) rest
    inner_touches kind x inside end = []

    -- the expressions of a template, each with its conversion
    pub joined : Spot → Parts → List Touch
    joined x end = []
    joined x (more e es) = touches_at x e ++ (touch_around x ++ joined x es)

    pub touches_in : (ℕ → Spot) → Parts → List Touch
    touches_in x end = []
    touches_in x (more p ps) = touches_at (x 0) p ++ touches_in (λ i. x (suc i)) ps

    pub touches_at : Spot → Part → List Touch
    touches_at x (child t) = touches x t
    touches_at x (list ps) = touches_of x ps
    touches_at x p = []

    pub touches_of : Spot → Parts → List Touch
    touches_of x end = []
    touches_of x (more p ps) = touches_at x p ++ touches_of x ps

    pub turned : (ℕ → Spot) → Parts → List Touch
    turned x (more p (more q ps)) = touches_at (x 1) q ++ (touches_at (x 0) p ++ touches_in (λ i. x (suc (suc i))) ps)
    turned x (more p end) = touches_at (x 0) p
    turned x end = []

    -- the heritage, the keys, the class, which gets its name, and the elements that run with it (15.7.14)
    pub class_touches : Spot → ℕ → Parts → List Touch
    class_touches x n (more id (more heritage (more body rest))) =
        touches_at x heritage ++ (key_touches x body ++ (touch x.held n makes_class ++ (touch x.held n another ++ without_this (value_touches true x body))))
    class_touches x n ps = []

    pub key_touches : Spot → Part → List Touch
    key_touches x (child (Node kind m span semantic_id (more (list es) rest))) = keys_touched x es
    key_touches x p = []

    pub keys_touched : Spot → Parts → List Touch
    keys_touched x end = []
    keys_touched x (more (child (Node kind m span semantic_id (more k ps))) es) = cond (is_element kind) (touches_at x k) [] ++ keys_touched x es
    keys_touched x (more p es) = keys_touched x es

    -- of the elements that run with the class, or of the others
    pub value_touches : Bool → Spot → Part → List Touch
    value_touches runs x (child (Node kind m span semantic_id (more (list es) rest))) = values_touched runs x es
    value_touches runs x p = []

    pub values_touched : Bool → Spot → Parts → List Touch
    values_touched runs x end = []
    values_touched runs x (more (child (Node kind m span semantic_id (more k ps))) es) =
        cond (is_same runs (runs_with_class (child (Node kind m span semantic_id (more k ps))))) (cond (is_element kind) [] (touches_at x k) ++ (touches_of x ps ++ cond (is_property_definition kind && not (is_new first m)) (touch x.held m defines_field) [])) [] ++ values_touched runs x es
    values_touched runs x (more p es) = values_touched runs x es

-- ---- bodies

-- the function of the constructor of a class with a heritage
abbrev pub derived_constructor : Kind → Parts → List ℕ
derived_constructor kind ps = cond (is_class kind && is_present (at 1 ps)) (part_number (constructor_in (at 2 ps))) []

abbrev pub derived_constructors : List Tree → List ℕ
derived_constructors [] = []
derived_constructors (Node kind m span semantic_id ps ∷ ts) = derived_constructor kind ps ++ derived_constructors ts

-- the class whose constructor is function k
abbrev pub constructs : ℕ → List Tree → List ℕ
constructs k [] = []
constructs k (Node kind n span semantic_id ps ∷ ts) = cond (is_class kind && has_number k (part_number (constructor_in (at 2 ps)))) (n ∷ []) (constructs k ts)

-- the arrows of a function, which have its `this`, as have those in keys of its classes
abbrev mutual
  pub arrows : Tree → List ℕ
  arrows (Node kind m span semantic_id ps) = cond (is_arrow kind) (m ∷ []) [] ++ cond (is_class_body kind) (arrows_of_body ps) (cond (is_function kind) [] (arrows_in ps))

  pub arrows_at : Part → List ℕ
  arrows_at (child t) = arrows t
  arrows_at (list ps) = arrows_in ps
  arrows_at p = []

  pub arrows_in : Parts → List ℕ
  arrows_in end = []
  arrows_in (more p ps) = arrows_at p ++ arrows_in ps

  pub arrows_of_body : Parts → List ℕ
  arrows_of_body (more (list es) rest) = arrows_of_keys es
  arrows_of_body ps = []

  pub arrows_of_keys : Parts → List ℕ
  arrows_of_keys end = []
  arrows_of_keys (more (child (Node kind m span semantic_id (more k ps))) es) = cond (is_element kind) (arrows_at k) [] ++ arrows_of_keys es
  arrows_of_keys (more p es) = arrows_of_keys es

abbrev pub derived_arrows : List ℕ → List Tree → List ℕ
derived_arrows constructors [] = []
derived_arrows constructors (Node kind m span semantic_id ps ∷ ts) = cond (is_any_function kind && has_number m constructors) (arrows_in ps) [] ++ derived_arrows constructors ts

-- the arrows of what runs with a class, whose `this` is the class: what becomes `(() => { this; })(), class { }` of
-- `class { static { (() => { this; })(); } }` reads the `this` that is around the class
abbrev pub value_arrows : Kind → Parts → List ℕ
value_arrows kind ps = cond (is_element kind) (arrows_at (at 1 ps)) (arrows_in ps)

abbrev pub static_arrows : List Tree → List ℕ
static_arrows [] = []
static_arrows (Node kind m span semantic_id ps ∷ ts) = cond (runs_with_class (child (Node kind m span semantic_id ps))) (value_arrows kind ps) [] ++ static_arrows ts

abbrev pub is_call_of_super : TouchForm → Bool
is_call_of_super calls_super = true
is_call_of_super form = false

abbrev pub is_between : TouchForm → Bool
is_between between_parts = true
is_between form = false

-- the class that a new function for `super(..)` is of; given are such functions, each with its class
abbrev pub classes_given : ℕ → List (ℕ × ℕ) → List ℕ
classes_given m [] = []
classes_given m (p ∷ ps) = cond (nat_eq m p.0) (p.1 ∷ []) [] ++ classes_given m ps

-- the parameters of a function, and its body
abbrev pub parameters_at : Kind → ℕ
parameters_at Kind.ArrowFunctionExpression = 0
parameters_at kind = 1

-- nodes are those of the program, derived the functions and arrows where `this` is there behind `super(..)` alone
module _ (first : ℕ) (called : Closures) (asked named : List ℕ) (references : List Reference) (derived : List ℕ) (given : List (ℕ × ℕ)) (nodes : List Tree) where
  abbrev pub field_touches : List ℕ → List Tree → List Touch
  field_touches ns [] = []
  field_touches ns (Node kind n span semantic_id ps ∷ ts) = cond (is_class kind && has_number n ns) (value_touches first called asked named references false nothing_around (at 2 ps)) (field_touches ns ts)

  abbrev pub held_with : List (ℕ × ℕ) → List Touch → List Touch
  held_with held ts = map (λ t. record { number = t.number; form = t.form; held = t.held ++ held }) ts

  -- the fields of a class with a heritage are defined behind each `super(..)`
  abbrev pub with_fields : List Touch → List Touch → List Touch
  with_fields fields [] = []
  with_fields fields (t ∷ ts) = (t ∷ cond (is_call_of_super t.form) (held_with t.held fields) []) ++ with_fields fields ts

  -- a generator stands still between its parameters and its body; the fields of a class without a heritage are defined first
  abbrev pub function_touches : Bool → List Touch → Kind → ℕ → Parts → List Touch
  function_touches derives fields kind m ps =
      touches_at first called asked named references nothing_around (at (parameters_at kind) ps)
      ++ (touch [] m another ++ (cond derives [] fields ++ touches_at first called asked named references nothing_around (at (suc (parameters_at kind)) ps)))

  abbrev pub body_touches : Bool → List Touch → Kind → ℕ → Parts → List Touch
  body_touches derives fields kind m ps = cond derives (with_fields fields (function_touches derives fields kind m ps)) (function_touches derives fields kind m ps)

  abbrev pub bodies_by : Kind → ℕ → Parts → List Body
  bodies_by Kind.Program m ps = record { number = m; is_of_fields = false; of_class = []; derives = false; touches = touches_at first called asked named references nothing_around (at 1 ps) } ∷ []
  bodies_by kind m ps =
      cond (is_any_function kind && is_apart first called asked named references kind m) (record { number = m; is_of_fields = false; of_class = constructs m nodes ++ classes_given m given; derives = has_number m derived; touches = body_touches (has_number m derived) (field_touches (constructs m nodes) nodes) kind m ps } ∷ [])
      (cond (is_class kind) (record { number = m; is_of_fields = true; of_class = []; derives = false; touches = value_touches first called asked named references false nothing_around (at 2 ps) } ∷ []) [])

  abbrev pub bodies : List Tree → List Body
  bodies [] = []
  bodies (Node kind m span semantic_id ps ∷ ts) = bodies_by kind m ps ++ bodies ts

-- ---- facts of the source

abbrev pub super_calls : List Tree → List ℕ
super_calls [] = []
super_calls (Node kind m span semantic_id ps ∷ ts) = cond (is_super_call kind ps) (m ∷ []) [] ++ super_calls ts

-- the nodes of a class: those in front of which something may move; of its keys that are references; of what moves so
pub record ClassParts : Type 0 where
  pub number : ℕ
  pub passed : List ℕ
  pub keys : List ℕ
  pub moving : List ℕ

abbrev pub reference_number : Part → List ℕ
reference_number (child (Node Kind.IdentifierReference m span semantic_id ps)) = m ∷ []
reference_number p = []

abbrev pub key_references : Parts → List ℕ
key_references end = []
key_references (more (child (Node kind m span semantic_id (more k ps))) es) = cond (is_element kind) (reference_number k) [] ++ key_references es
key_references (more p es) = key_references es

abbrev pub class_elements : Part → Parts
class_elements (child (Node Kind.ClassBody m span semantic_id ps)) = items (at 0 ps)
class_elements p = end

-- what may move in front of the heritage of a lowered class, as the first shape has it: keys that are kept, and static blocks
module _ (changed : List ℕ) (references : List Reference) where
  abbrev pub moving_keys : List Element → List ℕ
  moving_keys [] = []
  moving_keys (e ∷ es) = cond (is_hoisted_key changed references e) (numbers_of (preorder_of_part e.key)) [] ++ moving_keys es

abbrev pub moving_blocks : Parts → List ℕ
moving_blocks end = []
moving_blocks (more (child (Node Kind.StaticBlock m span semantic_id ps)) es) = numbers_of (preorder_of ps) ++ moving_blocks es
moving_blocks (more p es) = moving_blocks es

abbrev pub moving_numbers : Options → List ℕ → List Reference → ClassAt → Part → List ℕ
moving_numbers o changed references k body = moving_keys changed references k.elements ++ cond (runs_before_class o k) (moving_blocks (class_elements body)) []

-- whether a class expression reads its own name in its heritage or its keys: it has an event there, as its name is given (15.7.14)
abbrev pub names_own : ClassAt → Bool
names_own k = is_named_pair (named_by k.number k.id (preorder_of_part k.heritage ++ body_keys k.body))

-- the heritage, of whose events a shape tells where fields are lowered, and a class expression whose making is no event
abbrev pub passed_numbers : Options → ClassAt → List ℕ
passed_numbers o k = cond (lowers_fields o) (numbers_of (preorder_of_part k.heritage)) [] ++ cond (k.is_expression && not (names_own k)) (k.number ∷ []) []

abbrev pub class_parts : Options → List ℕ → List Reference → List Tree → List ClassParts
class_parts o changed references [] = []
class_parts o changed references (Node kind n span semantic_id ps ∷ ts) =
    cond (is_class kind) (record { number = n; passed = passed_numbers o (class_at kind n ps); keys = key_references (class_elements (at 2 ps)); moving = cond (is_lowered_class o kind ps) (moving_numbers o changed references (class_at kind n ps) (at 2 ps)) [] } ∷ []) [] ++ class_parts o changed references ts

-- ---- what stands behind

abbrev pub is_same_form : TouchForm → TouchForm → Bool
is_same_form (reads b) (reads c) = nat_eq b c
is_same_form names_class names_class = true
is_same_form reads_this reads_this = true
is_same_form makes_class makes_class = true
is_same_form form other = false

-- what reads without an event, or is made of such
abbrev pub is_asked : Bool → TouchForm → Bool
is_asked derives (reads b) = true
is_asked derives names_class = true
is_asked derives reads_this = derives
is_asked derives makes_class = true
is_asked derives form = false

-- whether a node has events here, and how often
abbrev pub is_touched : ℕ → List Touch → Bool
is_touched m [] = false
is_touched m (t ∷ ts) = (nat_eq m t.number && not (is_asked true t.form)) || is_touched m ts

abbrev pub times : ℕ → List Touch → ℕ
times m [] = 0
times m (t ∷ ts) = cond (nat_eq m t.number && not (is_asked true t.form)) (suc (times m ts)) (times m ts)

abbrev pub is_definition : TouchForm → Bool
is_definition defines_field = true
is_definition form = false

-- what moves in front of a class and its heritage
abbrev pub is_excepted : ℕ → ℕ → List ClassParts → Bool
is_excepted m n [] = false
is_excepted m n (c ∷ cs) = (has_number m c.moving && has_number n c.passed) || is_excepted m n cs

-- ---- what a closure does, which was made in front of t and was not run yet, is behind t, too: of `_c = () => a(), _k = () => _c(), y, _k()`
-- nothing runs `_c` in front of y, since nothing runs `_k`

abbrev pub stands_in_node : ℕ → List (ℕ × ℕ) → Bool
stands_in_node k [] = false
stands_in_node k (p ∷ ps) = nat_eq k p.0 || stands_in_node k ps

-- whether u, which stands in front of t, runs there: in no closures but those that t stands in, and these
abbrev pub is_run_before : Closures → List ℕ → Touch → Touch → Bool
is_run_before [] ran t u = true
is_run_before (c ∷ cs) ran t u = (not (stands_in_node c.1 u.held) || (stands_in_node c.1 t.held || has_number c.1 ran)) && is_run_before cs ran t u

abbrev pub closure_run : TouchForm → List ℕ
closure_run (runs_closure k) = k ∷ []
closure_run form = []

-- the closures that are run in front of t, by calls that run there; the last call comes first, as it may run those that the others stand in
abbrev pub were_run : Closures → Touch → List ℕ → List Touch → List ℕ
were_run called t ran [] = ran
were_run called t ran (r ∷ rs) = were_run called t (ran ++ cond (is_run_before called ran t r) (closure_run r.form) []) rs

abbrev pub stands_in_closure : Closures → Touch → Bool
stands_in_closure [] t = false
stands_in_closure (c ∷ cs) t = stands_in_node c.1 t.held || stands_in_closure cs t

-- whether u stands in each of these closures that t stands in
abbrev pub is_in_same : Closures → Touch → Touch → Bool
is_in_same [] t u = true
is_in_same (c ∷ cs) t u = (not (stands_in_node c.1 t.held) || stands_in_node c.1 u.held) && is_in_same cs t u

-- how many fields are defined here, but for what other closures define than those that t stands in
abbrev pub definitions_touched : Closures → Touch → List Touch → ℕ
definitions_touched called t [] = 0
definitions_touched called t (e ∷ es) = cond (is_definition e.form && is_in_same called e t) (suc (definitions_touched called t es)) (definitions_touched called t es)

abbrev pub is_arrow_of : ℕ → Closures → Bool
is_arrow_of k [] = false
is_arrow_of k (c ∷ cs) = nat_eq k c.1 || is_arrow_of k cs

-- the parts around u that are in the closure, which is arrow k
abbrev pub held_within : ℕ → List (ℕ × ℕ) → List (ℕ × ℕ)
held_within k [] = []
held_within k (p ∷ ps) = cond (nat_eq k p.0) [] (p ∷ held_within k ps)

abbrev pub held_inside : TouchForm → List (ℕ × ℕ) → List (ℕ × ℕ)
held_inside (runs_closure k) held = held_within k held
held_inside form held = []

-- u with all that it stands in where t runs it
abbrev pub in_both : Touch → Touch → Touch
in_both t u = record { number = u.number; form = u.form; held = u.held ++ t.held }

-- u where t runs the closure in which it stands: it may run or not by what is around it there, and by what is around t
abbrev pub where_run : Touch → Touch → Touch
where_run t u = record { number = u.number; form = u.form; held = held_inside t.form u.held ++ t.held }

-- whether a call runs a closure in which u stands
abbrev pub is_run_by : Closures → Touch → TouchForm → Bool
is_run_by cs u (runs_closure k) = is_arrow_of k cs && stands_in_node k u.held
is_run_by cs u form = false

-- ran are the closures that are run in front of t
abbrev pub put_off : Closures → List ℕ → Touch → List Touch → List Touch
put_off called ran t [] = []
put_off called ran t (u ∷ us) = cond (not (is_run_before called ran t u)) (u ∷ []) [] ++ put_off called ran t us

abbrev pub put_off_behind : Closures → Touch → List Touch → List Touch
put_off_behind called t front = put_off called (were_run called t [] front) t front

-- sources are the bodies of the source, supers its calls of `super`, called the closures of the lowered program
module _ (first : ℕ) (supers : List ℕ) (classes : List ClassParts) (called : Closures) (sources : List Body) where
  -- each of these that has events and is touched by a body of the source, there, stands behind u, which has us behind it, as often as
  -- behind t, which has ts
  abbrev pub all_behind : List Touch → Touch → List Touch → List Touch → List Touch → Bool
  all_behind there u us ts [] = true
  all_behind there u us ts (e ∷ es) =
      ((is_asked true e.form || not (is_touched e.number there)) || (nat_le (times e.number ts) (times e.number us) || is_excepted u.number e.number classes)) && all_behind there u us ts es

  abbrev pub is_like : Touch → Touch → Bool
  is_like t u = (is_new first t.number || nat_eq t.number u.number) && is_same_form t.form u.form

  -- t, with what stands behind it, stands as one of these in the body there
  abbrev pub stands_like : Touch → List Touch → List Touch → List Touch → Bool
  stands_like t ts there [] = false
  stands_like t ts there (u ∷ us) =
      (is_like t u && (all_behind there u us ts ts && (nat_le (definitions_touched called t ts) (definitions_touched called u us) && all_pairs_stand u.held t.held))) || stands_like t ts there us

  -- the body of the source, or where b is new, or a closure in it that is run elsewhere, the fields of its class, if they may be defined
  abbrev pub is_of_body : Bool → Bool → Body → Body → Bool
  is_of_body ready inner b c = nat_eq b.number c.number || ((is_new first b.number || inner) && (c.is_of_fields && (ready && has_number c.number b.of_class)))

  abbrev pub stands_in_any : Bool → Body → Touch → List Touch → List Body → Bool
  stands_in_any ready b t ts [] = false
  stands_in_any ready b t ts (c ∷ cs) = (is_of_body ready (stands_in_closure called t) b c && ((c.derives || not (is_this t.form)) && stands_like t ts c.touches c.touches)) || stands_in_any ready b t ts cs

  -- a constructor reads the keys of fields again
  abbrev pub is_touched_as : List ℕ → TouchForm → List Touch → Bool
  is_touched_as heads form [] = false
  is_touched_as heads form (u ∷ us) = (has_number u.number heads && is_same_form form u.form) || is_touched_as heads form us

  abbrev pub is_touched_in : List ℕ → TouchForm → List Body → Bool
  is_touched_in heads form [] = false
  is_touched_in heads form (c ∷ cs) = is_touched_as heads form c.touches || is_touched_in heads form cs

  abbrev pub reads_key : List ℕ → TouchForm → List ClassParts → Bool
  reads_key of_class form [] = false
  reads_key of_class form (c ∷ cs) = (has_number c.number of_class && is_touched_in c.keys form sources) || reads_key of_class form cs

  abbrev pub is_behind_super : Touch → List Touch → Bool
  is_behind_super t [] = false
  is_behind_super t (s ∷ front) = ((is_call_of_super s.form || (has_number s.number supers && not (is_between s.form))) && all_pairs_stand s.held t.held) || is_behind_super t front

  abbrev pub touch_fits : Body → List Touch → Touch → List Touch → Bool
  touch_fits b front t ts =
      not (is_asked b.derives t.form) || (cond (is_this t.form) (is_behind_super t front) (reads_key b.of_class t.form classes) || stands_in_any (not b.derives || is_behind_super t front) b t ts sources)

  -- what stands in the same closures as t
  abbrev pub in_same : Touch → List Touch → List Touch
  in_same t [] = []
  in_same t (u ∷ us) = cond (is_in_same called t u) (u ∷ []) [] ++ in_same t us

  -- what t runs of these
  abbrev pub run_with : Touch → List Touch → List Touch
  run_with t [] = []
  run_with t (u ∷ us) = cond (is_run_by called u t.form) (u ∷ []) [] ++ run_with t us

  -- and what it does not
  abbrev pub run_without : Touch → List Touch → List Touch
  run_without t [] = []
  run_without t (u ∷ us) = cond (not (is_run_by called u t.form)) (u ∷ []) [] ++ run_without t us

  -- what stands in front of u where t runs it: what stood in front of t but for the closure, of which what stands before u was run
  abbrev pub front_of_run : List Touch → Touch → List Touch → List Touch
  front_of_run front t before = run_with t before ++ run_without t front

  -- what a closure reads is read where it runs; before is what stands before us
  abbrev pub runs_fit : Body → List Touch → Touch → List Touch → List Touch → List Touch → Bool
  runs_fit b front t ts before [] = true
  runs_fit b front t ts before (u ∷ us) =
      (not (is_run_by called u t.form) || touch_fits b front (where_run t u) (put_off_behind called (in_both t u) (front_of_run front t before) ++ (run_with t us ++ ts))) && runs_fit b front t ts (u ∷ before) us

  -- what is in front, and what is touched from here on
  abbrev pub touches_fit : Body → List Touch → List Touch → Bool
  touches_fit b front [] = true
  touches_fit b front (t ∷ ts) = (touch_fits b front t (put_off_behind called t front ++ in_same t ts) && runs_fit b (t ∷ front) t ts [] b.touches) && touches_fit b (t ∷ front) ts

  abbrev pub bodies_fit : List Body → Bool
  bodies_fit [] = true
  bodies_fit (b ∷ bs) = touches_fit b [] b.touches && bodies_fit bs

-- the functions where `this` is there behind `super(..)` alone, where ps are the nodes of the source and ts those of a program: what is
-- an arrow of static code in the source may have got the `this` of a constructor
abbrev pub derived_functions : List Tree → List Tree → List ℕ
derived_functions ps ts = derived_constructors ts ++ (derived_arrows (derived_constructors ps) ps ++ common (static_arrows ps) (derived_arrows (derived_constructors ts) ts))

-- the bodies of t, where ps are the nodes of the source
abbrev pub bodies_of : ℕ → List LedgerEntry → Closures → List Tree → Tree → List Body
bodies_of first ledger called ps t =
    bodies first called (variables ps) (class_names ps) (resolve t) (derived_functions ps (preorder t)) (super_functions ledger (preorder t)) (preorder t) (preorder t)

-- ---- what always throws has its number, by which it is held against what stands behind it; but in an update or a compound write of a
-- private member the operation has that number, as in `(o, o.#m + e, B.readOnlyError("#m"))` and `o.#m || (o, e, B.readOnlyError("#m"))`

abbrev pub is_private : Part → Bool
is_private (child (Node Kind.PrivateField m span semantic_id ps)) = true
is_private p = false

abbrev pub updates_private : Kind → Parts → Bool
updates_private Kind.AssignmentExpression ps = not (is_assignment ps) && is_private (at 1 ps)
updates_private Kind.UpdateExpression ps = is_private (at 1 ps)
updates_private kind ps = false

abbrev pub private_updates : List Tree → List ℕ
private_updates [] = []
private_updates (Node kind m span semantic_id ps ∷ ts) = cond (updates_private kind ps) (m ∷ []) [] ++ private_updates ts

-- the right operands of these, where they are logical
abbrev pub right_of : List ℕ → Kind → ℕ → Parts → List ℕ
right_of updates Kind.LogicalExpression m ps = cond (has_number m updates) (part_number (at 2 ps)) []
right_of updates kind m ps = []

abbrev pub right_operands : List ℕ → List Tree → List ℕ
right_operands updates [] = []
right_operands updates (Node kind m span semantic_id ps ∷ ts) = right_of updates kind m ps ++ right_operands updates ts

abbrev pub throws_at : Kind → Parts → Bool
throws_at Kind.SequenceExpression ps = ends_in_throw (items (at 0 ps))
throws_at kind ps = false

-- updates are those of the source, rights the right operands of them in the program
abbrev pub new_throws : ℕ → List ℕ → List ℕ → List Tree → List ℕ
new_throws first updates rights [] = []
new_throws first updates rights (Node kind m span semantic_id ps ∷ ts) =
    cond (throws_at kind ps && (is_new first m && not (has_number m rights || any_among updates (numbers_of (preorder_of ps))))) (m ∷ []) [] ++ new_throws first updates rights ts

abbrev pub all_throws : ℕ → List ℕ → List Tree → List ℕ
all_throws first updates ts = new_throws first updates (right_operands updates ts) ts

abbrev pub dead_zones_stay : ℕ → Options → List LedgerEntry → Tree → Tree → Bool
dead_zones_stay first o ledger p q =
    is_within (all_throws first (private_updates (preorder p)) (preorder q)) (all_throws first (private_updates (preorder p)) (preorder p))
    && bodies_fit first (super_calls (preorder p)) (class_parts o (written p) (resolve p) (preorder p)) (closures ledger (preorder q)) (bodies_of first [] [] (preorder p) p) (bodies_of first ledger (closures ledger (preorder q)) (preorder p) q)
