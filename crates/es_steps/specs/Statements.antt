-- The codes of statements, patterns, functions and classes. (ECMA-262, 13.15.5, 14 and 15.)
use Rattle.std.specs.Prelude.{ℕ, suc, List, [], ◌∷◌, Bool, true, false, cond, not, ◌&&◌, ◌||◌, nat_eq, codes, bytes_eq, Option, Some, None}
use Rattle.es_base.specs.declared.kind.Kind.{Kind}
use Rattle.es_base.specs.declared.ledger.GeneratedKind.{GeneratedKind}
use Rattle.es_steps.specs.ClassHeads.{named_as}
use Rattle.es_steps.specs.Code.{Code, Codes, Target, FunctionForm, FieldForm, defines, sets, leaves_out, nothing, no_rule, value, spelled, private_name, binding, rest, assign, operation, pattern, takes, steps, gives_to, export_default, function, new_function, new_return, class_code, field, private_field, method, private_method, constructor, generated_element, give_function, give_class, to_name, to_member, to_private, to_super, to_setter, to_pattern, to_default, no_target, done, and, one, joined}
use Rattle.es_steps.specs.Context.{Context, Generated, MeansClass, Changing, new_here, is_constructor, is_generated_private}
use Rattle.es_steps.specs.Events.{Detail, Operand, Empty, Index, Rest, OfKind, Take}
use Rattle.es_steps.specs.Expressions.{the_code, key_code, key_details, target_of}
use Rattle.es_steps.specs.GeneratedForms.{given, opened_body}
use Rattle.es_steps.specs.Members.{Member, Members, code, absent, list, string, more, end, at, from, before, operands, details, codes_in, codes_of, word_of, flag_of}
use Rattle.es_steps.specs.Options.{sets_fields, leaves_out_fields}
use Rattle.es_steps.specs.References.{declared, referent}
use Rattle.es_steps.specs.Scopes.{Declaration}
use Rattle.es_steps.specs.PrivateNames.{PrivateMember, PrivateKind, a_method, a_getter, a_setter, method_kind, member_at}
use Rattle.es_steps.specs.SameValues.{same_boolean}
use Rattle.es_steps.specs.Values.{String, StringOf, ConstantOf, FunctionOf, Undefined}
use Rattle.es_steps.specs.declared.options.Options.{Options}

-- ---- statements

-- the members from the i-th on may run or not, or again; those before are operands
abbrev pub held_from : ℕ → Kind → ℕ → Members → Code
held_from i kind m ps = operation m (OfKind kind (details ps)) (operands (before i ps)) (codes_in (from i ps))

-- a case: its test, and its statements in order, which are one part as those of a block
abbrev pub case_code : ℕ → Members → Code
case_code m ps = operation m (OfKind Kind.SwitchCase (details (before 1 ps))) done (joined (codes_of (at 0 ps)) (one (steps (codes_of (at 1 ps)))))

-- the parameter of a catch is given what was caught
abbrev pub given_codes : ℕ → Codes → Codes
given_codes m done = done
given_codes m (and c cs) = and (gives_to m (target_of c)) (given_codes m cs)

abbrev pub catch_code : ℕ → Members → Code
catch_code m ps = steps (joined (given_codes m (codes_of (at 0 ps))) (codes_of (at 1 ps)))

-- the head of a for-in or for-of: the targets of a declaration, or a target; a `var` may have an initializer
abbrev pub is_initialized : Code → Codes
is_initialized (assign to e) = and (assign to e) done
is_initialized c = done

abbrev pub initialized_first : Codes → Codes
initialized_first done = done
initialized_first (and c cs) = joined (is_initialized c) (initialized_first cs)

abbrev pub head_initializers : Code → Codes
head_initializers (steps cs) = initialized_first cs
head_initializers c = done

abbrev pub declared_target : Code → Target
declared_target (assign to e) = to
declared_target (steps (and (binding b s kind) cs)) = target_of (binding b s kind)
declared_target c = target_of c

abbrev pub given_targets : ℕ → Codes → Codes
given_targets m done = done
given_targets m (and c cs) = and (gives_to m (declared_target c)) (given_targets m cs)

abbrev pub head_targets : ℕ → Code → Codes
head_targets m (steps cs) = given_targets m cs
head_targets m c = one (gives_to m (target_of c))

-- each time the head is given the next value, and then the body runs; no `for await` of the source stands in a new function
abbrev pub for_each_code : Context → Kind → ℕ → Members → Code
for_each_code c kind m ps =
    let head : Code = the_code (at 0 ps) in
    cond (c.in_new_function && flag_of (at 3 ps)) no_rule (operation m (OfKind kind (details (from 1 ps))) (joined (head_initializers head) (codes_of (at 1 ps))) (one (steps (joined (head_targets m head) (codes_of (at 2 ps))))))

-- a directive that is none of those that a lowering may add
abbrev pub is_other_directive : Member → Bool
is_other_directive (string s) = not (bytes_eq s (codes "use strict"))
is_other_directive p = false

abbrev pub expression_code : Context → ℕ → Members → Code
expression_code c m ps = cond (is_other_directive (at 1 ps) && new_here c m) no_rule (steps (codes_in ps))

-- a new declarator of a name that was not generated is a `let` of a class
abbrev pub declarator_of : Context → ℕ → Bool → Code → Member → Code
declarator_of c m new (binding b s (Generated g)) (code e) = given c m b s g e
declarator_of c m new (binding b s (Generated g)) p = nothing
declarator_of c m true (binding b s (MeansClass n k)) (code e) = give_class n e
declarator_of c m true d p = no_rule
declarator_of c m false d (code e) = assign (target_of d) e
declarator_of c m false (binding b s kind) p = binding b s kind
declarator_of c m false (pattern k to) p = pattern k to
declarator_of c m false d p = no_rule

abbrev pub declarator_code : Context → ℕ → Members → Code
declarator_code c m ps = declarator_of c m (new_here c m) (the_code (at 0 ps)) (at 1 ps)

-- a name that a `let` gives no value is initialized with undefined (14.3.1.2), but in the head of a for-in or for-of
abbrev pub undefined_let : Code → Code
undefined_let (binding b s kind) = steps (and (binding b s kind) (one (assign (target_of (binding b s kind)) (value Undefined))))
undefined_let c = c

abbrev pub undefined_lets : Codes → Codes
undefined_lets done = done
undefined_lets (and c cs) = and (undefined_let c) (undefined_lets cs)

abbrev pub is_let_word : Member → Bool
is_let_word (string s) = bytes_eq s (codes "let")
is_let_word p = false

abbrev pub declaration_code : Members → Code
declaration_code ps = steps (cond (is_let_word (at 0 ps)) (undefined_lets (codes_in ps)) (codes_in ps))

-- a `return` of the source does not leave a function that is opened, nor does a new one leave a function of the source
abbrev pub return_code : Context → ℕ → Members → Code
return_code c m ps =
    let whole : Code = operation m (OfKind Kind.ReturnStatement (details ps)) (operands ps) done in
    cond (new_here c m) (new_return (codes_of (at 0 ps))) (cond c.in_new_function no_rule whole)

-- nor does an `await` or `yield` of the source stand in one
abbrev pub suspension_code : Context → Kind → ℕ → Members → Code
suspension_code c kind m ps = cond c.in_new_function no_rule (operation m (OfKind kind (details ps)) (operands ps) done)

abbrev pub default_export_code : Members → Code
default_export_code ps = export_default (the_code (at 0 ps))

-- ---- patterns

abbrev pub default_code : ℕ → Members → Code
default_code m ps = pattern m (to_default m (target_of (the_code (at 0 ps))) (the_code (at 1 ps)))

abbrev pub rest_code : Members → Code
rest_code ps = rest (target_of (the_code (at 0 ps)))

-- a property of a pattern: a key that is computed is evaluated
abbrev pub pattern_property_code : ℕ → Members → Code
pattern_property_code m ps =
    let k : Code = the_code (at 0 ps) in
    cond (flag_of (at 5 ps)) (takes m (Operand ∷ []) (one k) (target_of (the_code (at 1 ps)))) (takes m (key_details k end) done (target_of (the_code (at 1 ps))))

-- the number of a target
abbrev pub target_number : Target → ℕ → ℕ
target_number (to_name m s kind) k = m
target_number (to_member m o key) k = m
target_number (to_private m r o) k = m
target_number (to_super m home key this) k = m
target_number (to_setter m d o) k = m
target_number (to_pattern m kind cs) k = m
target_number (to_default m to e) k = m
target_number no_target k = k

abbrev pub taken : ℕ → List Detail → Target → Code
taken m ds to = takes (target_number to m) ds done to

-- the elements of an array from the i-th on, each under the number of its target; a hole takes one too
abbrev pub taken_element : ℕ → ℕ → Code → Code
taken_element m i (rest to) = taken m (Index i ∷ Rest ∷ []) to
taken_element m i c = taken m (Index i ∷ []) (target_of c)

abbrev pub elements_from : ℕ → ℕ → Members → Codes
elements_from m i end = done
elements_from m i (more (code c) ps) = and (taken_element m i c) (elements_from m (suc i) ps)
elements_from m i (more p ps) = and (operation m (Take (Index i ∷ Empty ∷ [])) done done) (elements_from m (suc i) ps)

abbrev pub members_of_list : Member → Members
members_of_list (list ps) = ps
members_of_list p = end

abbrev pub array_pattern_code : ℕ → Members → Code
array_pattern_code m ps = pattern m (to_pattern m Kind.ArrayPattern (elements_from m 0 (members_of_list (at 0 ps))))

-- the properties of an object; a rest takes what is left
abbrev pub taken_properties : ℕ → Codes → Codes
taken_properties m done = done
taken_properties m (and (rest to) cs) = and (taken m (Rest ∷ []) to) (taken_properties m cs)
taken_properties m (and c cs) = and c (taken_properties m cs)

abbrev pub object_pattern_code : ℕ → Members → Code
object_pattern_code m ps = pattern m (to_pattern m Kind.ObjectPattern (taken_properties m (codes_of (at 0 ps))))

-- ---- functions

abbrev pub form_of : Bool → Bool → Bool → FunctionForm
form_of is_arrow is_async is_generator = record { is_arrow = is_arrow; is_async = is_async; is_generator = is_generator }

abbrev pub function_or_new : Bool → ℕ → FunctionForm → Option ℕ → Codes → Code → Code
function_or_new true f form own_name parameters body = new_function f form parameters body
function_or_new false f form own_name parameters body = function f form own_name parameters body

-- the own name of a function expression, unless it is new
abbrev pub own_name_of : Context → Member → Option ℕ
own_name_of c (code (binding b s kind)) = cond (new_here c b) None (Some b)
own_name_of c p = None

abbrev pub function_code : Context → ℕ → Option ℕ → Members → Code
function_code c f own_name ps = function_or_new (new_here c f) f (form_of false (flag_of (at 3 ps)) (flag_of (at 4 ps))) own_name (codes_of (at 1 ps)) (the_code (at 2 ps))

abbrev pub function_expression_code : Context → ℕ → Members → Code
function_expression_code c f ps = function_code c f (own_name_of c (at 0 ps)) ps

-- what the name of a function in a block means around is given the function (B.3.2; an async function or a generator is bound in its
-- block alone: that it is given, too, tells it from what else has its name, and is so on both sides)
abbrev pub hoisted_function : Option (List Declaration) → ℕ → String → Code → Code
hoisted_function None f s e = e
hoisted_function (Some names) f s e = steps (and e (and (assign (to_name f s (Changing (referent s (declared s names)))) (value (FunctionOf f))) done))

-- the declaration of a generated name assigns its function
abbrev pub declared_function : Option (List Declaration) → ℕ → Member → Code → Code
declared_function around f (code (binding b s (Generated (GeneratedKind.Method d)))) e = give_function f s (GeneratedKind.Method d) e
declared_function around f (code (binding b s (Generated g))) e = no_rule
declared_function around f (code (binding b s kind)) e = hoisted_function around f s e
declared_function around f p e = e

abbrev pub function_declaration_code : Context → ℕ → Members → Code
function_declaration_code c f ps = declared_function c.around f (at 0 ps) (function_code c f None ps)

-- the expression that is the body of an arrow may become a new `return` at the end of a list
abbrev pub is_new_return : Code → Bool
is_new_return (new_return es) = true
is_new_return c = false

abbrev pub ends_with_return : Codes → Bool
ends_with_return done = false
ends_with_return (and c done) = is_new_return c
ends_with_return (and c (and d cs)) = ends_with_return (and d cs)

abbrev pub arrow_body : Bool → Code → Code
arrow_body false (steps cs) = cond (ends_with_return cs) (opened_body (steps cs)) (steps cs)
arrow_body new e = e

abbrev pub arrow_code : Context → ℕ → Members → Code
arrow_code c f ps = function_or_new (new_here c f) f (form_of true (flag_of (at 2 ps)) false) None (codes_of (at 0 ps)) (arrow_body (new_here c f) (the_code (at 1 ps)))

-- ---- classes

-- the identifier that declares a class for the code around, unless it is a generated name
abbrev pub declared_by : Member → Option ℕ
declared_by (code (binding b s (Generated g))) = None
declared_by (code (binding b s kind)) = Some b
declared_by p = None

-- that of a `let` which names the class; or its own, where its heritage or a key reads it
abbrev pub declared_by_let : ℕ → List (ℕ × ℕ) → Option (ℕ × ℕ) → Option ℕ
declared_by_let n named None = named_as n named
declared_by_let n named (Some p) = cond (nat_eq n p.0) (Some p.1) (named_as n named)

abbrev pub elements_of : Member → Codes
elements_of (code (steps cs)) = cs
elements_of p = done

abbrev pub class_of : Option ℕ → ℕ → Members → Code
class_of declared n ps = class_code n declared (codes_of (at 1 ps)) (elements_of (at 2 ps))

abbrev pub value_or_undefined : Member → Code
value_or_undefined (code e) = e
value_or_undefined p = value Undefined

abbrev pub is_name_string : String → Bool
is_name_string s = bytes_eq s (codes "name") || bytes_eq s (codes "length")

-- a static field of one of these names, an identifier or a string, is defined also where others are set
abbrev pub is_name_or_length : Code → Bool
is_name_or_length (spelled s) = is_name_string s
is_name_or_length (value (ConstantOf (StringOf s))) = is_name_string s
is_name_or_length k = false

abbrev pub is_absent : Member → Bool
is_absent absent = true
is_absent p = false

-- what the options make of a public field
abbrev pub field_form : Options → Bool → Code → Member → FieldForm
field_form o is_static key init =
    cond (leaves_out_fields o && is_absent init) leaves_out (cond (sets_fields o && not (is_static && is_name_or_length key)) sets defines)

-- a private element is generated, or declares the member d
abbrev pub private_element : Context → Bool → ℕ → String → Code → Code
private_element c is_static d s e = cond (new_here c d) (cond (is_static && is_generated_private s c.class c.ledger) (generated_element s e) no_rule) (private_field is_static d e)

abbrev pub field_of : Context → Members → Code → Code
field_of c ps (private_name d s r) = private_element c (flag_of (at 3 ps)) d s (value_or_undefined (at 1 ps))
field_of c ps key = field (flag_of (at 3 ps)) (field_form c.options (flag_of (at 3 ps)) key (at 1 ps)) (key_code (flag_of (at 2 ps)) key) (value_or_undefined (at 1 ps))

abbrev pub field_code : Context → Members → Code
field_code c ps = field_of c ps (the_code (at 0 ps))

-- a key that is not computed and names a constructor
abbrev pub is_constructor_key : Code → Bool
is_constructor_key (spelled s) = is_constructor s
is_constructor_key (value (ConstantOf (StringOf s))) = is_constructor s
is_constructor_key k = false

-- A constructor is a method of that name which is neither static nor computed (ECMA-262, 15.7.5: ConstructorMethod), and
-- no other element is.
abbrev pub method_or_constructor : Bool → Bool → Code → Code → Code
method_or_constructor true true whole f = constructor f
method_or_constructor false false whole f = whole
method_or_constructor is_kind is_key whole f = no_rule

-- a private method, getter or setter is as the source declares it
abbrev pub same_form : PrivateKind → PrivateKind → Bool
same_form a_method a_method = true
same_form a_getter a_getter = true
same_form a_setter a_setter = true
same_form kind other = false

abbrev pub is_declared_as : Option PrivateMember → Bool → String → Bool
is_declared_as None is_static kind = false
is_declared_as (Some x) is_static kind = same_boolean x.is_static is_static && same_form x.kind (method_kind kind)

abbrev pub method_of : Context → Members → Code → Code
method_of c ps (private_name d s r) = cond (is_declared_as (member_at d c.members) (flag_of (at 4 ps)) (word_of (at 2 ps))) (private_method (flag_of (at 4 ps)) d (the_code (at 1 ps))) no_rule
method_of c ps key =
    let is_static : Bool = flag_of (at 4 ps) in
    method_or_constructor (is_constructor (word_of (at 2 ps))) (is_constructor_key key && not (is_static || flag_of (at 3 ps)))
    (method is_static (word_of (at 2 ps)) (key_code (flag_of (at 3 ps)) key) (the_code (at 1 ps))) (the_code (at 1 ps))

abbrev pub method_code : Context → Members → Code
method_code c ps = method_of c ps (the_code (at 0 ps))
