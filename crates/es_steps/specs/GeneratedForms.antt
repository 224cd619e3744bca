-- The forms that a lowering makes, each read as the code of what it stands for. (Our own: a form is generated if it
-- holds a generated name, or if its `babelHelpers`, its object literal, its arrow, its member `call` or `bind` or its test
-- is new. That the helpers do what is said here is this project's premise.)
use Rattle.std.specs.Prelude.{ℕ, List, [], ◌∷◌, Bool, true, false, cond, not, ◌&&◌, ◌||◌, nat_eq, codes, bytes_eq, Option, Some, None}
use Rattle.es_base.specs.declared.kind.Kind.{Kind}
use Rattle.es_base.specs.declared.ledger.GeneratedKind.{GeneratedKind}
use Rattle.es_steps.specs.Code.{Code, Codes, Target, FunctionForm, Opened, InitializersOf, BodyOf, CalledBodyOf, no_rule, value, spelled, binding, name, super, member, private_member, super_member, private_in, assign, call, construct, super_call, super_call_with_all, sequence, logical, operation, steps, function, new_function, new_return, class_code, from_call, from_member, key_of, helper, helper_call, throw, define, private_initialize, add_brand, bound, setter, private_value, call_arrow, call_closure, give_function, give_class, to_name, to_private, to_super, on_super, with_receiver, done, and, one}
use Rattle.es_steps.specs.Context.{Context, Changing, MeansClass, Generated, StaticMethod, new_here}
use Rattle.es_steps.specs.Events.{Detail, Operand, Spelled, Flag, Key, Opens, Closes, OfKind}
use Rattle.es_steps.specs.Helpers.{Helper, DefineProperty, ClassPrivateFieldInitSpec, ClassPrivateMethodInitSpec, ClassPrivateFieldGet2, ClassPrivateFieldSet2, AssertClassBrand, ToSetter, CheckInRHS, ReadOnlyError, WriteOnlyError, SuperPropGet, SuperPropSet, ClassPrivateFieldLooseKey, ClassPrivateFieldLooseBase, SetFunctionName, ToPropertyKey, helper_named}
use Rattle.es_steps.specs.Options.{keeps_privates_as_properties}
use Rattle.es_steps.specs.PrivateNames.{PrivateMember, PrivateReference, PrivateKind, a_method, a_getter, a_setter, member_at, reference_of, is_a_field}
use Rattle.es_steps.specs.SameValues.{same_boolean}
use Rattle.es_steps.specs.Values.{String, StringOf, NumberOf, BooleanOf, Null, Value, ConstantOf, Undefined, ClassOf, ThisOf, ResultOf, Free, Home, OfClass, OfPrototype, HasField, HasBrand, IsClass}

-- ---- the letters: a name is of a kind, and the source has such a member

abbrev pub if_member : (PrivateMember → Bool) → Option PrivateMember → Option PrivateMember
if_member test None = None
if_member test (Some x) = cond (test x) (Some x) None

abbrev pub is_instance_field : PrivateMember → Bool
is_instance_field x = is_a_field x.kind && not x.is_static

abbrev pub is_static_field : PrivateMember → Bool
is_static_field x = is_a_field x.kind && x.is_static

abbrev pub is_function_member : PrivateMember → Bool
is_function_member x = not (is_a_field x.kind)

-- members of one sort, where the options keep private members as properties or do not
abbrev pub if_kept : Bool → Context → (PrivateMember → Bool) → Option PrivateMember → Option PrivateMember
if_kept as_properties c test x = cond (same_boolean as_properties (keeps_privates_as_properties c.options)) (if_member test x) None

-- W, the `WeakMap` of an instance field
abbrev pub weak_map : Context → Code → Option PrivateMember
weak_map c (name m s (Generated (GeneratedKind.WeakMap d))) = if_kept false c is_instance_field (member_at d.0 c.members)
weak_map c e = None

-- S, the object of a static field
abbrev pub static_field : Context → Code → Option PrivateMember
static_field c (name m s (Generated (GeneratedKind.StaticField d))) = if_kept false c is_static_field (member_at d.0 c.members)
static_field c e = None

-- M, G, A, the function of a method, getter or setter
abbrev pub private_function : Context → Code → Option PrivateMember
private_function c (name m s (Generated (GeneratedKind.Method d))) = if_member is_function_member (member_at d.0 c.members)
private_function c (name m s (StaticMethod d n)) = member_at d c.members
private_function c e = None

-- L, the key of a member that is kept as a property
abbrev pub loose_key : Context → Code → Option PrivateMember
loose_key c (name m s (Generated (GeneratedKind.LooseKey d))) = if_kept true c (λ x. is_a_field x.kind) (member_at d.0 c.members)
loose_key c e = None

-- Z, a name that means a class
abbrev pub class_named : Code → Option ℕ
class_named (name m s (MeansClass n b)) = Some n
class_named (name m s (Generated (GeneratedKind.ClassTemp n))) = Some n.0
class_named e = None

abbrev pub is_number : ℕ → Option ℕ → Bool
is_number n None = false
is_number n (Some k) = nat_eq n k

abbrev pub is_class_named : ℕ → Code → Bool
is_class_named n e = is_number n (class_named e)

-- Q, what brands the objects of a member: a `WeakSet`, or the class itself
abbrev pub is_brand : PrivateMember → Code → Bool
is_brand x (name m s (Generated (GeneratedKind.Brand n))) = not x.is_static && nat_eq n.0 x.class
is_brand x e = x.is_static && is_class_named x.class e

-- an object that the row leaves out of its list: `this`, or a name of a class
abbrev pub class_value : Option ℕ → Option Value
class_value None = None
class_value (Some n) = Some (ClassOf n)

abbrev pub known_object : Code → Option Value
known_object (value (ThisOf k)) = Some (ThisOf k)
known_object (value (ClassOf n)) = Some (ClassOf n)
known_object e = class_value (class_named e)

-- what a `super` member is looked up on: a class, or its prototype
abbrev pub class_home : Option ℕ → Option Home
class_home None = None
class_home (Some n) = Some (OfClass n)

abbrev pub prototype_home : Option ℕ → Option Home
prototype_home None = None
prototype_home (Some n) = Some (OfPrototype n)

abbrev pub is_string : String → Code → Bool
is_string s (value (ConstantOf (StringOf t))) = bytes_eq s t
is_string s e = false

abbrev pub home_of : Code → Option Home
home_of (member m o k) = cond (is_string (codes "prototype") k) (prototype_home (class_named o)) None
home_of e = class_home (class_named e)

-- ---- a new object literal of one property, its key and its value; of `{ writable: true, value: v }`, the value

abbrev pub is_plain_property : String → Bool → Bool
is_plain_property kind is_method = bytes_eq kind (codes "init") && not is_method

abbrev pub single_property : Context → Code → Option (Code × Code)
single_property c (operation m (OfKind Kind.ObjectExpression (Opens ∷ Key k ∷ Operand ∷ Spelled kind ∷ Flag is_method ∷ Closes ∷ [])) (and v done) done) = cond (new_here c m && is_plain_property kind is_method) (Some (value (ConstantOf k), v)) None
single_property c (operation m (OfKind Kind.ObjectExpression (Opens ∷ Operand ∷ Operand ∷ Spelled kind ∷ Flag is_method ∷ Closes ∷ [])) (and (key_of k) (and v done)) done) = cond (new_here c m && is_plain_property kind is_method) (Some (k, v)) None
single_property c e = None

abbrev pub is_writable_form : String → String → Bool → String → String → Bool → Bool
is_writable_form k1 kind1 method1 k2 kind2 method2 = (bytes_eq k1 (codes "writable") && is_plain_property kind1 method1) && (bytes_eq k2 (codes "value") && is_plain_property kind2 method2)

abbrev pub writable_value : Context → Code → Option Code
writable_value c (operation m (OfKind Kind.ObjectExpression (Opens ∷ Key (StringOf k1) ∷ Operand ∷ Spelled kind1 ∷ Flag method1 ∷ Key (StringOf k2) ∷ Operand ∷ Spelled kind2 ∷ Flag method2 ∷ Closes ∷ [])) (and (value (ConstantOf (BooleanOf true))) (and v done)) done) = cond (new_here c m && is_writable_form k1 kind1 method1 k2 kind2 method2) (Some v) None
writable_value c e = None

-- the elements of a new array
abbrev pub only_operands : List Detail → Bool
only_operands (Operand ∷ ds) = only_operands ds
only_operands (Closes ∷ []) = true
only_operands ds = false

abbrev pub array_elements : Context → Code → Option Codes
array_elements c (operation m (OfKind Kind.ArrayExpression (Opens ∷ ds)) es done) = cond (new_here c m && only_operands ds) (Some es) None
array_elements c e = None

-- ---- calls of helpers

abbrev pub is_spread : Code → Bool
is_spread (operation m (OfKind Kind.SpreadElement ds) es held) = true
is_spread e = false

abbrev pub read_private : ℕ → Option PrivateMember → Code → Code
read_private m None o = no_rule
read_private m (Some x) o = private_member m (reference_of x) o

-- what an assignment by `=` of the source gives is told by its number
abbrev pub assigned_value : Bool → ℕ → Code → Code
assigned_value true m v = v
assigned_value false m v = operation m (OfKind Kind.AssignmentExpression []) (and v done) done

abbrev pub set_private : Bool → ℕ → Option PrivateMember → Code → Code → Code
set_private new m None o v = no_rule
set_private new m (Some x) o v = assign (to_private m (reference_of x) o) (assigned_value new m v)

abbrev pub is_method_kind : PrivateKind → Bool
is_method_kind a_method = true
is_method_kind kind = false

abbrev pub is_getter_kind : PrivateKind → Bool
is_getter_kind a_getter = true
is_getter_kind kind = false

abbrev pub is_setter_kind : PrivateKind → Bool
is_setter_kind a_setter = true
is_setter_kind kind = false

-- `assertClassBrand(Q, o, M)` reads a method; else the call stands in another form
abbrev pub asserted : ℕ → Option PrivateMember → Code → Code → Code → Code
asserted m None q o whole = whole
asserted m (Some x) q o whole = cond (is_method_kind x.kind && is_brand x q) (from_call (private_member m (reference_of x) o)) no_rule

abbrev pub initialized_on : ℕ → Option PrivateMember → Option Value → Code → Code
initialized_on m (Some x) (Some o) v = private_initialize m x.number o v
initialized_on m x o v = no_rule

abbrev pub brand_on : ℕ → Code → Option Value → Code
brand_on m (name k s (Generated (GeneratedKind.Brand n))) (Some o) = add_brand m n.0 o
brand_on m q o = no_rule

abbrev pub define_on : ℕ → Option Value → Code → Code → Code
define_on m None k v = no_rule
define_on m (Some o) k v = define m o k v

abbrev pub super_get : ℕ → Option Home → Code → Option Value → Code
super_get m (Some home) k (Some this) = from_call (super_member m home k this)
super_get m home k this = no_rule

abbrev pub super_set : Bool → ℕ → Option Home → Code → Code → Option Value → Code
super_set new m (Some home) k v (Some this) = assign (to_super m home k this) (assigned_value new m v)
super_set new m home k v this = no_rule

abbrev pub is_number_literal : String → Code → Bool
is_number_literal s (value (ConstantOf (NumberOf t))) = bytes_eq s t
is_number_literal s e = false

abbrev pub is_constant : Code → Bool
is_constant (value (ConstantOf k)) = true
is_constant e = false

-- a name of a function has no event: a constant, a temporary, or what a generated private element holds
abbrev pub is_quiet_key : Code → Bool
is_quiet_key (value (ConstantOf k)) = true
is_quiet_key (name m s (Generated GeneratedKind.Temp)) = true
is_quiet_key (name m s (Generated GeneratedKind.Param)) = true
is_quiet_key (private_value s) = true
is_quiet_key e = false

-- what `setFunctionName` may name: a function, an arrow, a class where it is made, and a class by `this` or its name
abbrev pub is_named : Code → Bool
is_named (function f form own_name ps body) = true
is_named (class_code n declared h es) = true
is_named (value (ClassOf n)) = true
is_named (name m s (MeansClass n b)) = true
is_named e = false

-- what a key is used for; one that is a private element is read, since it may not be there yet
abbrev pub with_key : Code → Code → Code
with_key (private_value s) e = from_call (sequence (and (private_value s) (and e done)))
with_key k e = from_call e

abbrev pub helper_code : Context → ℕ → Helper → Codes → Code
helper_code c m ClassPrivateFieldGet2 (and w (and o done)) = from_call (read_private m (weak_map c w) o)
helper_code c m ClassPrivateFieldSet2 (and w (and o (and v done))) = set_private (new_here c m) m (weak_map c w) o v
helper_code c m AssertClassBrand (and q (and o (and f done))) = asserted m (private_function c f) q o (helper_call m AssertClassBrand (and q (and o (and f done))))
helper_code c m ReadOnlyError (and s done) = cond (is_constant s) throw no_rule
helper_code c m WriteOnlyError (and s done) = cond (is_constant s) throw no_rule
helper_code c m ClassPrivateFieldInitSpec (and o (and w (and v done))) = initialized_on m (weak_map c w) (known_object o) v
helper_code c m ClassPrivateMethodInitSpec (and o (and q done)) = brand_on m q (known_object o)
helper_code c m DefineProperty (and o (and k (and v done))) = define_on m (known_object o) k v
helper_code c m SuperPropGet (and h (and k (and r done))) = super_get m (home_of h) k (known_object r)
helper_code c m SuperPropSet (and h (and k (and v (and r (and one done))))) = cond (is_number_literal (codes "1") one) (super_set (new_here c m) m (home_of h) k v (known_object r)) no_rule
helper_code c m ToPropertyKey (and e done) = key_of e
helper_code c m SetFunctionName (and e (and k done)) = cond (is_named e && is_quiet_key k) (with_key k e) no_rule
helper_code c m h es = helper_call m h es

-- ---- members

-- `babelHelpers.h`
abbrev pub is_helper_object : Context → Code → Bool
is_helper_object c (name b s (Changing (Free spelling))) = new_here c b && bytes_eq s (codes "babelHelpers")
is_helper_object c o = false

abbrev pub helper_or_none : Option Helper → Code
helper_or_none None = no_rule
helper_or_none (Some h) = helper h

abbrev pub helper_or : Bool → Code → Code → Code
helper_or true (spelled s) whole = helper_or_none (helper_named s)
helper_or is_helper k whole = whole

abbrev pub helper_member : Context → Bool → Code → Code → Code → Code
helper_member c computed o k whole = helper_or (is_helper_object c o && not computed) k whole

-- `B.assertClassBrand(Z, o, S)._`
abbrev pub branded_field : ℕ → Option PrivateMember → Code → Code → Code
branded_field m None z o = no_rule
branded_field m (Some x) z o = cond (is_class_named x.class z) (from_member (private_member m (reference_of x) o)) no_rule

-- `S._`
abbrev pub own_field : ℕ → Option PrivateMember → Code
own_field m None = no_rule
own_field m (Some x) = from_member (private_member m (reference_of x) (value (ClassOf x.class)))

-- what a setter is bound to: a branded object, or a name of the class of a static one
abbrev pub setter_on : ℕ → Option PrivateMember → Code → Code
setter_on m None o = no_rule
setter_on m (Some x) (helper_call k AssertClassBrand (and q (and o done))) = cond (is_setter_kind x.kind && is_brand x q) (setter m x.number o) no_rule
setter_on m (Some x) o = cond (is_setter_kind x.kind && (x.is_static && is_class_named x.class o)) (setter m x.number o) no_rule

abbrev pub field_setter : ℕ → Option PrivateMember → Code → Code
field_setter m None o = no_rule
field_setter m (Some x) o = setter m x.number o

abbrev pub setter_of_pair : Context → ℕ → Option Codes → Code
setter_of_pair c m (Some (and w (and o done))) = field_setter m (weak_map c w) o
setter_of_pair c m es = no_rule

-- `B.toSetter(A.bind(..))._` and `B.toSetter(B.classPrivateFieldSet2, [W, o])._`
abbrev pub setter_of : Context → ℕ → Codes → Code
setter_of c m (and (bound f o) done) = setter_on m (private_function c f) o
setter_of c m (and (helper ClassPrivateFieldSet2) (and pair done)) = setter_of_pair c m (array_elements c pair)
setter_of c m es = no_rule

-- the member `_` of a generated form
abbrev pub underscore_of : Context → ℕ → Code → Code → Code
underscore_of c m (helper_call k AssertClassBrand (and z (and o (and f done)))) whole = branded_field m (static_field c f) z o
underscore_of c m (helper_call k ToSetter es) whole = setter_of c m es
underscore_of c m (name k s (Generated (GeneratedKind.StaticField d))) whole = own_field m (static_field c (name k s (Generated (GeneratedKind.StaticField d))))
underscore_of c m o whole = whole

abbrev pub same_number : Option PrivateMember → Option PrivateMember → Bool
same_number (Some x) (Some y) = nat_eq x.number y.number
same_number x y = false

-- `B.classPrivateFieldLooseBase(o, L)[L]`
abbrev pub loose_member : Context → ℕ → Code → Code → Code → Code
loose_member c m (helper_call k ClassPrivateFieldLooseBase (and o (and l done))) key whole = cond (same_number (loose_key c l) (loose_key c key)) (read_private m (loose_key c key) o) no_rule
loose_member c m o key whole = whole

-- `({ k: e })[k]`
abbrev pub is_same_key : Code → Code → Bool
is_same_key (value (ConstantOf (StringOf s))) k = is_string s k
is_same_key (name m s (Generated g)) (name m2 t (Generated g2)) = bytes_eq s t
is_same_key (private_value s) (private_value t) = bytes_eq s t
is_same_key k l = false

abbrev pub kept_name : Code → Option (Code × Code) → Code → Code
kept_name key (Some p) whole = cond (is_same_key key p.0) (from_member (from_call (sequence (and p.0 (and p.1 done))))) whole
kept_name key None whole = whole

abbrev pub generated_member : Context → ℕ → Code → Code → Code → Code
generated_member c m o k whole = cond (is_string (codes "_") k) (underscore_of c m o whole) (loose_member c m o k (kept_name k (single_property c o) whole))

-- ---- functions that are called where they stand, or by a generated name

-- the names of parameters that are all generated
abbrev pub with_name : String → Option (List String) → Option (List String)
with_name s None = None
with_name s (Some ss) = Some (s ∷ ss)

abbrev pub parameter_names : Codes → Option (List String)
parameter_names done = Some []
parameter_names (and (binding b s (Generated GeneratedKind.Param)) cs) = with_name s (parameter_names cs)
parameter_names (and c cs) = None

-- the body of such a function as one code: statements in order, and what a new `return` at the end gives
abbrev pub value_or_undefined : Codes → Codes
value_or_undefined done = and (value Undefined) done
value_or_undefined es = es

abbrev pub ended : Codes → Codes
ended done = and (value Undefined) done
ended (and (new_return es) done) = value_or_undefined es
ended (and c cs) = and c (ended cs)

abbrev pub opened_body : Code → Code
opened_body (steps cs) = sequence (ended cs)
opened_body e = e

abbrev pub no_spread : Codes → Bool
no_spread done = true
no_spread (and c cs) = not (is_spread c) && no_spread cs

abbrev pub is_plain : FunctionForm → Bool
is_plain form = not (form.is_async || form.is_generator)

abbrev pub is_plain_arrow : FunctionForm → Bool
is_plain_arrow form = form.is_arrow && is_plain form

abbrev pub arrow_call : FunctionForm → Option (List String) → Code → Codes → Code
arrow_call form None body es = no_rule
arrow_call form (Some names) body es = cond (is_plain_arrow form && no_spread es) (call_arrow names (opened_body body) es) no_rule

-- `((p, q) => q[p])(k, { [k]: e })`
abbrev pub is_pick : Codes → Code → Bool
is_pick (and (binding b p (Generated GeneratedKind.Param)) (and (binding b2 q (Generated GeneratedKind.Param)) done)) (member m (name k s (Generated g)) (name k2 t (Generated g2))) = bytes_eq s q && bytes_eq t p
is_pick ps body = false

abbrev pub picked : Code → Option (Code × Code) → Code
picked k (Some p) = cond (is_same_key k p.0) (with_key k p.1) no_rule
picked k None = no_rule

abbrev pub new_function_call : Context → FunctionForm → Codes → Code → Codes → Code
new_function_call c form ps body (and k (and o done)) = cond (is_plain_arrow form && is_pick ps body) (picked k (single_property c o)) (arrow_call form (parameter_names ps) body (and k (and o done)))
new_function_call c form ps body es = arrow_call form (parameter_names ps) body es

-- ---- calls of a new member `call` or `bind`, and of others on generated names

-- `G.call(B.assertClassBrand(Q, o))`, `G.call(o)`
abbrev pub getter_call : ℕ → PrivateMember → Codes → Code
getter_call m x (and (helper_call k AssertClassBrand (and q (and o done))) done) = cond (is_brand x q) (from_call (private_member m (reference_of x) o)) no_rule
getter_call m x (and o done) = cond (x.is_static && is_class_named x.class o) (from_call (private_member m (reference_of x) o)) no_rule
getter_call m x es = no_rule

-- `f.call(o, a)`
abbrev pub received_call : ℕ → Code → Codes → Code
received_call m f (and o es) = call m (with_receiver f o) es
received_call m f done = no_rule

abbrev pub getter_or_received : ℕ → Option PrivateMember → Code → Codes → Code
getter_or_received m (Some x) f es = cond (is_getter_kind x.kind) (getter_call m x es) (received_call m f es)
getter_or_received m None f es = received_call m f es

-- a `super(..)`, and no call of what stands for one
abbrev pub is_super_itself : Option Opened → Bool
is_super_itself None = true
is_super_itself (Some (InitializersOf n)) = true
is_super_itself o = false

-- `F.call(super(a))`
abbrev pub super_function_call : ℕ → ℕ → String → Codes → Code
super_function_call m n s (and (super_call k n2 behind es) done) = cond (nat_eq n n2 && is_super_itself behind) (super_call m n (Some (CalledBodyOf s)) es) no_rule
super_function_call m n s es = no_rule

abbrev pub called_with : Context → ℕ → Code → Codes → Code
called_with c m (name k s (Generated (GeneratedKind.SuperFn n))) es = super_function_call m n.0 s es
called_with c m f es = getter_or_received m (private_function c f) f es

abbrev pub bound_to : Code → Codes → Code
bound_to f (and o done) = bound f o
bound_to f es = no_rule

-- `W.has(B.checkInRHS(o))`
abbrev pub has_field : ℕ → Option PrivateMember → Codes → Code
has_field m (Some x) (and (helper_call k CheckInRHS (and o done)) done) = private_in m (HasField x.number) o
has_field m x es = no_rule

abbrev pub has_brand : ℕ → ℕ → Codes → Code
has_brand m n (and (helper_call k CheckInRHS (and o done)) done) = private_in m (HasBrand n) o
has_brand m n es = no_rule

-- `Object.defineProperty(o, L, { writable: true, value: v })`
abbrev pub loose_initialized : ℕ → Option PrivateMember → Option Value → Option Code → Code → Code
loose_initialized m (Some x) (Some o) (Some v) whole = private_initialize m x.number o v
loose_initialized m None o v whole = whole
loose_initialized m x o v whole = no_rule

abbrev pub object_call : Context → ℕ → Codes → Code → Code
object_call c m (and o (and l (and form done))) whole = loose_initialized m (loose_key c l) (known_object o) (writable_value c form) whole
object_call c m es whole = whole

-- a call of a member, by its object: `has` of a generated name, `Object.defineProperty`
abbrev pub member_call : Context → ℕ → Code → Code → Codes → Code → Code
member_call c m (name k s (Generated (GeneratedKind.WeakMap d))) key es whole = cond (is_string (codes "has") key) (has_field m (weak_map c (name k s (Generated (GeneratedKind.WeakMap d)))) es) no_rule
member_call c m (name k s (Generated (GeneratedKind.Brand n))) key es whole = cond (is_string (codes "has") key) (has_brand m n.0 es) no_rule
member_call c m (name k s (Changing (Free spelling))) key es whole = cond (bytes_eq s (codes "Object") && is_string (codes "defineProperty") key) (object_call c m es whole) whole
member_call c m o key es whole = whole

abbrev pub new_member_call : Context → ℕ → ℕ → Code → Code → Codes → Code → Code
new_member_call c m k f key es whole = cond (new_here c k && is_string (codes "call") key) (called_with c m f es) (cond (new_here c k && is_string (codes "bind") key) (bound_to f es) (member_call c m f key es whole))

-- ---- `super(..)`

-- which calls run the initializers
abbrev pub runs_initializers : Option ℕ → ℕ → Bool
runs_initializers None m = true
runs_initializers (Some k) m = nat_eq k m

abbrev pub initializers_behind : Context → ℕ → ℕ → Option Opened
initializers_behind c m n = cond (runs_initializers c.initializing m) (Some (InitializersOf n)) None

-- `super(..._args)` with all arguments: the rest of the function or arrow around
abbrev pub passes_all : String → Codes → Bool
passes_all rest (and (operation m (OfKind Kind.SpreadElement ds) (and (name k s (Generated GeneratedKind.Args)) done) done) done) = bytes_eq rest s
passes_all rest es = false

abbrev pub super_call_in : Context → ℕ → Option ℕ → Codes → Code
super_call_in c m None es = no_rule
super_call_in c m (Some n) es = cond (passes_all c.rest_name es) (super_call_with_all n) (super_call m n (initializers_behind c m n) es)

-- ---- all calls

-- `B.superPropGet(h, k, r, 2)([a])`
abbrev pub super_method_call : ℕ → ℕ → Option Home → Code → Option Value → Option Codes → Code
super_method_call m k (Some home) key (Some this) (Some es) = call m (on_super k home key this) es
super_method_call m k home key this es = no_rule

abbrev pub helper_call_call : Context → ℕ → ℕ → Helper → Codes → Codes → Code
helper_call_call c m k SuperPropGet (and h (and key (and r (and two done)))) (and form done) = cond (is_number_literal (codes "2") two) (super_method_call m k (home_of h) key (known_object r) (array_elements c form)) no_rule
helper_call_call c m k h args es = no_rule

abbrev pub generated_call : Context → ℕ → Code → Codes → Code → Code
generated_call c m (helper h) es whole = helper_code c m h es
generated_call c m (helper_call k h args) es whole = helper_call_call c m k h args es
generated_call c m super es whole = super_call_in c m c.constructs es
generated_call c m (member k o key) es whole = new_member_call c m k o key es whole
generated_call c m (name k s (Generated GeneratedKind.Closure)) es whole = call_closure s es
generated_call c m (name k s (Generated (GeneratedKind.SuperFn n))) es whole = super_call m n.0 (Some (BodyOf s)) es
generated_call c m (new_function f form ps body) es whole = new_function_call c form ps body es
generated_call c m f es whole = whole

-- ---- operators

-- `B.checkInRHS(o) === Z`; a test that a generated key is not `"name"` has no event
abbrev pub is_class_test : ℕ → Option ℕ → Code → Code
is_class_test m None o = no_rule
is_class_test m (Some n) o = private_in m (IsClass n) o

abbrev pub generated_binary : Context → ℕ → String → Code → Code → Code → Code
generated_binary c m operator (helper_call k CheckInRHS (and o done)) r whole = cond (bytes_eq operator (codes "===")) (is_class_test m (class_named r) o) no_rule
generated_binary c m operator (name k s (Generated GeneratedKind.Temp)) r whole = cond (new_here c m && (bytes_eq operator (codes "!==") && is_string (codes "name") r)) (value (ResultOf m)) whole
generated_binary c m operator l r whole = whole

-- ---- a new test for null and undefined: `a === null || b === void 0`, and `a == null`

abbrev pub is_null : Code → Bool
is_null (value (ConstantOf Null)) = true
is_null e = false

abbrev pub is_undefined : Code → Bool
is_undefined (value Undefined) = true
is_undefined e = false

abbrev pub is_comparison : String → List Detail → Bool
is_comparison operator (Spelled s ∷ Operand ∷ Operand ∷ []) = bytes_eq operator s
is_comparison operator ds = false

abbrev pub is_null_test : String → Code → Bool
is_null_test operator (operation m (OfKind Kind.BinaryExpression ds) (and a (and n done)) done) = is_comparison operator ds && is_null n
is_null_test operator e = false

abbrev pub is_void_test : Code → Bool
is_void_test (operation m (OfKind Kind.BinaryExpression ds) (and a (and n done)) done) = is_comparison (codes "===") ds && is_undefined n
is_void_test e = false

abbrev pub is_undefined_test : Context → Code → Bool
is_undefined_test c (logical m operator l r) = new_here c m && (bytes_eq operator (codes "||") && (is_null_test (codes "===") l && is_void_test r))
is_undefined_test c (operation m op es held) = (new_here c m && c.options.assumptions.no_document_all) && is_null_test (codes "==") (operation m op es held)
is_undefined_test c e = false

abbrev pub left_of : Code → Code
left_of (operation m op (and a es) held) = a
left_of e = no_rule

-- the object that is tested, and what stands for it in the second test
abbrev pub tested_object : Code → Code
tested_object (logical m operator l r) = left_of l
tested_object e = left_of e

abbrev pub again_of : Code → Codes
again_of (logical m operator l r) = and (left_of r) done
again_of e = done

-- ---- what generated names are assigned

abbrev pub is_new_collection : Context → String → Code → Bool
is_new_collection c s (construct m (name k t (Changing (Free spelling))) done) = new_here c m && bytes_eq s t
is_new_collection c s e = false

-- no step, and a value that nothing of the source has
abbrev pub only_if : Bool → ℕ → Code
only_if true m = value (ResultOf m)
only_if false m = no_rule

abbrev pub is_loose_key_call : Code → Bool
is_loose_key_call (helper_call k ClassPrivateFieldLooseKey (and s done)) = is_constant s
is_loose_key_call e = false

-- `S = { _: v }`
abbrev pub field_object : ℕ → Option PrivateMember → Option (Code × Code) → Code
field_object m (Some x) (Some p) = cond (is_string (codes "_") p.0) (private_initialize m x.number (ClassOf x.class) p.1) no_rule
field_object m x p = no_rule

abbrev pub given_function : ℕ → String → GeneratedKind → Code → Code
given_function m s g (function f form own_name ps body) = give_function m s g (function f form own_name ps body)
given_function m s g (new_function f form ps body) = give_function m s g (new_function f form ps body)
given_function m s g e = no_rule

abbrev pub given : Context → ℕ → ℕ → String → GeneratedKind → Code → Code
given c m b s GeneratedKind.Temp e = assign (to_name b s (Generated GeneratedKind.Temp)) e
given c m b s GeneratedKind.Param e = no_rule
given c m b s (GeneratedKind.ClassTemp n) e = give_class n.0 e
given c m b s (GeneratedKind.WeakMap d) e = only_if (is_new_collection c (codes "WeakMap") e) m
given c m b s (GeneratedKind.StaticField d) e = field_object m (static_field c (name b s (Generated (GeneratedKind.StaticField d)))) (single_property c e)
given c m b s (GeneratedKind.Brand n) e = only_if (is_new_collection c (codes "WeakSet") e) m
given c m b s (GeneratedKind.LooseKey d) e = only_if (is_loose_key_call e) m
given c m b s (GeneratedKind.Method d) e = given_function m s (GeneratedKind.Method d) e
given c m b s (GeneratedKind.SuperFn n) e = given_function m s (GeneratedKind.SuperFn n) e
given c m b s GeneratedKind.Closure e = given_function m s GeneratedKind.Closure e
given c m b s g e = no_rule

-- `S._ = B.assertClassBrand(Z, o, v)`
abbrev pub is_own_class : PrivateReference → Code → Bool
is_own_class r (value (ClassOf n)) = r.is_static && nat_eq n r.class
is_own_class r o = false

-- a write that always throws gives nothing
abbrev pub value_of_private : Option ℕ → Bool → ℕ → Code → Code
value_of_private None new m v = v
value_of_private (Some d) new m v = assigned_value new m v

abbrev pub private_assignment : Bool → ℕ → ℕ → PrivateReference → Code → Code → Code
private_assignment new m k r own (helper_call j AssertClassBrand (and z (and o (and v done)))) = cond (is_own_class r own && is_class_named r.class z) (assign (to_private k r o) (value_of_private r.writes new m v)) no_rule
private_assignment new m k r o v = assign (to_private k r o) (value_of_private r.writes new m v)

-- an assignment by `=`, number m
abbrev pub generated_assignment : Context → ℕ → Target → Code → Code
generated_assignment c m (to_name b s (Generated g)) e = given c m b s g e
generated_assignment c m (to_name b s (StaticMethod d n)) e = given_function m s (GeneratedKind.Method (record { 0 = d })) e
generated_assignment c m (to_private k r o) e = private_assignment (new_here c m) m k r o e
generated_assignment c m to e = assign to (assigned_value (new_here c m) m e)
