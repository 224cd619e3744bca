-- The codes of expressions. (ECMA-262, 13. Each rule reads the members of its kind in the order of the table.)
use Rattle.std.specs.Prelude.{ℕ, List, [], ◌∷◌, ◌++◌, Bool, true, false, cond, not, nat_eq, ◌&&◌, ◌||◌, codes, bytes_eq, Option, Some, None}
use Rattle.es_base.specs.declared.kind.Kind.{Kind}
use Rattle.es_base.specs.declared.ledger.GeneratedKind.{GeneratedKind}
use Rattle.es_base.specs.declared.literal.LiteralValue.{LiteralValue}
use Rattle.es_base.specs.declared.literal.LiteralValue.TheVariants as literal_value
use Rattle.es_steps.specs.Code.{Code, Codes, Target, Callee, TemplateString, no_rule, value, spelled, private_name, binding, name, super, member, private_member, super_member, private_in, compound, logical, logical_assign, update, call, tag, construct, template_string, template, operation, piece, chain, short, tested, pattern, from_call, from_member, bound, setter, private_value, to_name, to_member, to_private, to_super, to_setter, no_target, plain, on_member, on_private, on_super, with_receiver, checked, on_chain, behind_test, done, and, key_of}
use Rattle.es_steps.specs.Context.{Context, NameKind, Changing, Generated, StaticMethod, name_kind, new_here, is_generated_private}
use Rattle.es_steps.specs.Events.{Detail, Operand, Spelled, Flag, Key, Prototype, OfKind, Delete}
use Rattle.es_steps.specs.GeneratedForms.{helper_member, generated_member, generated_call, generated_binary, generated_assignment, is_undefined_test, again_of, tested_object, class_named, is_method_kind}
use Rattle.es_steps.specs.Members.{Member, Members, code, string, literal, at, operands, details, codes_of, word_of, flag_of}
use Rattle.es_steps.specs.Options.{lowers_fields}
use Rattle.es_steps.specs.PrivateNames.{PrivateMember, PrivateReference, private_reference, test_of, field_test, member_at}
use Rattle.es_steps.specs.Values.{String, StringOf, NumberOf, BigIntOf, BooleanOf, Null, Value, ConstantOf, Undefined, ResultOf, ThisOf, ClassOf, ArgumentsOf, Bound, Free, Home, PrivateTest, HasField}

-- the rule of all kinds that have none of their own: the operands in order, then the operation
abbrev pub operation_of : Kind → ℕ → Members → Code
operation_of kind m ps = operation m (OfKind kind (details ps)) (operands ps) done

abbrev pub the_code : Member → Code
the_code (code c) = c
the_code p = no_rule

-- ---- names and constants

-- a regular expression is another object each time (13.2.7)
abbrev pub value_code : ℕ → LiteralValue → Code
value_code m (literal_value.String s raw) = value (ConstantOf (StringOf s))
value_code m (literal_value.Number raw) = value (ConstantOf (NumberOf raw))
value_code m (literal_value.BigInt s) = value (ConstantOf (BigIntOf s))
value_code m (literal_value.RegExp source flags) = operation m (OfKind Kind.Literal (Spelled source ∷ Spelled flags ∷ [])) done done
value_code m (literal_value.Boolean b) = value (ConstantOf (BooleanOf b))
value_code m literal_value.Null = value (ConstantOf Null)

abbrev pub literal_code : ℕ → Member → Code
literal_code m (literal v) = value_code m v
literal_code m p = no_rule

abbrev pub is_arguments : String → Bool
is_arguments s = bytes_eq s (codes "arguments")

-- the function of a static private method stands for that of its class
abbrev pub static_method : Option PrivateMember → NameKind → NameKind
static_method None kind = kind
static_method (Some x) kind = cond (x.is_static && is_method_kind x.kind) (StaticMethod x.number x.class) kind

-- a free `arguments` is that of the function around, if there is one: a value, or, where one is written anywhere, a binding
-- that varies, known by the number of the function (10.2.11)
abbrev pub arguments_of : Bool → ℕ → String → Value → Code
arguments_of true m s (ArgumentsOf k) = name m s (Changing (Bound k))
arguments_of false m s (ArgumentsOf k) = value (ArgumentsOf k)
arguments_of writes m s v = name m s (Changing (Free s))

abbrev pub name_or_arguments : Context → ℕ → String → NameKind → Code
name_or_arguments c m s (Changing (Free spelling)) = cond (is_arguments s) (arguments_of c.writes_arguments m s c.arguments) (name m s (Changing (Free spelling)))
name_or_arguments c m s (Generated (GeneratedKind.Method d)) = name m s (static_method (member_at d.0 c.members) (Generated (GeneratedKind.Method d)))
name_or_arguments c m s kind = name m s kind

abbrev pub name_code : Context → ℕ → String → Code
name_code c m s = name_or_arguments c m s (name_kind c s)

abbrev pub private_name_code : Context → ℕ → String → Code
private_name_code c d s = private_name d s (private_reference s c.privates)

abbrev pub cooked_of : Member → Option String
cooked_of (string s) = Some s
cooked_of p = None

abbrev pub template_string_code : Members → Code
template_string_code ps = template_string (record { raw = word_of (at 0 ps); cooked = cooked_of (at 1 ps); is_tail = flag_of (at 2 ps) })

abbrev pub template_strings : Codes → List TemplateString
template_strings done = []
template_strings (and (template_string s) cs) = s ∷ template_strings cs
template_strings (and c cs) = template_strings cs

abbrev pub template_code : ℕ → Members → Code
template_code m ps = template m (template_strings (codes_of (at 0 ps))) (codes_of (at 1 ps))

abbrev pub spelling_of : Member → String
spelling_of (code (spelled s)) = s
spelling_of p = []

-- `new.target`, which no lowering makes, and `import.meta`
abbrev pub meta_code : Context → ℕ → Members → Code
meta_code c m ps = cond (bytes_eq (spelling_of (at 0 ps)) (codes "new")) (cond (new_here c m) no_rule (value c.new_target)) (operation_of Kind.MetaProperty m ps)

-- ---- members

-- a key that is not computed is a constant
abbrev pub key_code : Bool → Code → Code
key_code false (spelled s) = value (ConstantOf (StringOf s))
key_code computed c = c

abbrev pub super_member_at : ℕ → Option Home → Code → Value → Code
super_member_at m None k this = no_rule
super_member_at m (Some home) k this = super_member m home k this

-- what stands before `?.`
abbrev pub checked_object : Bool → Code → Code
checked_object true o = short o
checked_object false o = o

-- a member by its object, unless it is of a generated form
abbrev pub member_on : Context → ℕ → Bool → Code → Code → Code
member_on c m optional super k = super_member_at m c.home k c.this
member_on c m optional o k = generated_member c m o k (member m (checked_object optional o) k)

abbrev pub member_code : Context → ℕ → Members → Code
member_code c m ps =
    let o : Code = the_code (at 0 ps) in
    let k : Code = the_code (at 1 ps) in
    helper_member c (flag_of (at 2 ps)) o k (member_on c m (flag_of (at 3 ps)) o (key_code (flag_of (at 2 ps)) k))

-- a private name that was generated stands for what its element holds, where its object is a name of its class, and no other
-- class has a generated name of that spelling
abbrev pub is_made_private : Context → String → PrivateReference → Bool
is_made_private c s r = is_generated_private s r.class c.ledger

abbrev pub names_class : PrivateReference → Option ℕ → Bool
names_class r None = false
names_class r (Some n) = nat_eq r.class n

abbrev pub private_on : Context → ℕ → String → Option PrivateReference → Code → Code → Code
private_on c m s None o checked_o = no_rule
private_on c m s (Some r) o checked_o = cond (is_made_private c s r) (cond (names_class r (class_named o)) (private_value s) no_rule) (private_member m r checked_o)

abbrev pub private_field_of : Context → ℕ → Bool → Code → Code → Code
private_field_of c m optional super k = no_rule
private_field_of c m optional o (private_name d s r) = private_on c m s r o (checked_object optional o)
private_field_of c m optional o k = no_rule

abbrev pub private_field_code : Context → ℕ → Members → Code
private_field_code c m ps = private_field_of c m (flag_of (at 3 ps)) (the_code (at 0 ps)) (the_code (at 1 ps))

-- a static member is asked for by its class where it is lowered, else by itself
abbrev pub static_test : PrivateReference → Option ℕ → PrivateTest
static_test r (Some d) = HasField d
static_test r None = field_test r r.writes

abbrev pub test_in : Context → PrivateReference → PrivateTest
test_in c r = cond (r.is_static && not (lowers_fields c.options)) (static_test r r.reads) (test_of r)

-- no lowering asks for a generated element
abbrev pub private_in_of : Context → ℕ → Code → Code → Code
private_in_of c m (private_name d s (Some r)) o = cond (is_made_private c s r) no_rule (private_in m (test_in c r) o)
private_in_of c m k o = no_rule

abbrev pub private_in_code : Context → ℕ → Members → Code
private_in_code c m ps = private_in_of c m (the_code (at 1 ps)) (the_code (at 2 ps))

-- ---- what is written

-- `arguments` is written as a free name
abbrev pub target_of : Code → Target
target_of (name m s kind) = to_name m s kind
target_of (binding m s kind) = to_name m s kind
target_of (member m o k) = to_member m o k
target_of (private_member m r o) = to_private m r o
target_of (super_member m home k this) = to_super m home k this
target_of (setter m d o) = to_setter m d o
target_of (from_member e) = target_of e
target_of (pattern m to) = to
target_of c = no_target

abbrev pub is_logical : String → Bool
is_logical operator = bytes_eq operator (codes "||=") || (bytes_eq operator (codes "&&=") || bytes_eq operator (codes "??="))

-- the operator of an assignment without its `=`
abbrev pub without_sign : String → String
without_sign [] = []
without_sign (a ∷ []) = []
without_sign (a ∷ b ∷ bs) = a ∷ without_sign (b ∷ bs)

abbrev pub assignment_code : Context → ℕ → Members → Code
assignment_code c m ps =
    let operator : String = word_of (at 0 ps) in
    let to : Target = target_of (the_code (at 1 ps)) in
    let right : Code = the_code (at 2 ps) in
    cond (bytes_eq operator (codes "=")) (generated_assignment c m to right) (cond (is_logical operator) (logical_assign m (without_sign operator) to right) (compound m (without_sign operator) to right))

abbrev pub update_code : ℕ → Members → Code
update_code m ps = update m (word_of (at 0 ps)) (flag_of (at 2 ps)) (target_of (the_code (at 1 ps)))

-- ---- operators

abbrev pub void_code : Code → Code → Code
void_code (value (ConstantOf c)) whole = value Undefined
void_code e whole = whole

-- `delete` at the end of a chain: in place of a member, else behind the last event
abbrev pub deleted : ℕ → Code → Code
deleted m (member k o key) = operation m Delete (and o (and key done)) done
deleted m (super_member k home key this) = operation m Delete (and key done) done
deleted m (tested o again e) = tested o again (deleted m e)
deleted m (from_member e) = no_rule
deleted m e = operation m Delete (and e done) done

-- `delete` of a member evaluates its operands and not the member; `delete this` is true
abbrev pub delete_code : ℕ → Code → Code → Code
delete_code m (member k o key) whole = deleted m (member k o key)
delete_code m (super_member k home key this) whole = deleted m (super_member k home key this)
delete_code m (chain k e) whole = chain m (deleted m e)
delete_code m (from_member e) whole = no_rule
delete_code m (value (ThisOf k)) whole = value (ConstantOf (BooleanOf true))
delete_code m (value (ClassOf n)) whole = value (ConstantOf (BooleanOf true))
delete_code m e whole = whole

-- `typeof x` of a free name raises no error, and `delete x` of a name deletes none: what they do says that their operand is a
-- name (13.5.1.2, 13.5.3.1)
abbrev pub is_free_name : Code → Bool
is_free_name (name m s (Changing (Free spelling))) = true
is_free_name e = false

abbrev pub is_any_name : Code → Bool
is_any_name (name m s kind) = true
is_any_name (value (ArgumentsOf k)) = true
is_any_name e = false

abbrev pub asks_for_name : String → Code → Bool
asks_for_name operator e = (bytes_eq operator (codes "typeof") && is_free_name e) || (bytes_eq operator (codes "delete") && is_any_name e)

abbrev pub named_details : Bool → List Detail
named_details true = Flag true ∷ []
named_details false = []

abbrev pub unary_operation : ℕ → Members → Code → Code
unary_operation m ps e = operation m (OfKind Kind.UnaryExpression (named_details (asks_for_name (word_of (at 0 ps)) e) ++ details ps)) (operands ps) done

abbrev pub unary_code : ℕ → Members → Code
unary_code m ps =
    let e : Code = the_code (at 1 ps) in
    let whole : Code = unary_operation m ps e in
    cond (bytes_eq (word_of (at 0 ps)) (codes "void")) (void_code e whole) (cond (bytes_eq (word_of (at 0 ps)) (codes "delete")) (delete_code m e whole) whole)

abbrev pub binary_code : Context → ℕ → Members → Code
binary_code c m ps = generated_binary c m (word_of (at 0 ps)) (the_code (at 1 ps)) (the_code (at 2 ps)) (operation_of Kind.BinaryExpression m ps)

-- a test that a generated key is not `"name"`, one behind another, and what is done then, have no event
abbrev pub quiet_logical : Context → ℕ → String → Code → Code → Code → Code
quiet_logical c m operator (value (ResultOf k)) (from_call (value v)) whole = cond (new_here c m && (new_here c k && bytes_eq operator (codes "&&"))) (value (ResultOf m)) whole
quiet_logical c m operator (value (ResultOf k)) (value (ResultOf j)) whole = cond (new_here c j && (new_here c m && (new_here c k && bytes_eq operator (codes "&&")))) (value (ResultOf m)) whole
quiet_logical c m operator l r whole = whole

abbrev pub logical_code : Context → ℕ → Members → Code
logical_code c m ps =
    let operator : String = word_of (at 0 ps) in
    let l : Code = the_code (at 1 ps) in
    let r : Code = the_code (at 2 ps) in
    quiet_logical c m operator l r (logical m operator l r)

-- ---- chains

abbrev pub chain_code : ℕ → Members → Code
chain_code m ps = chain m (the_code (at 0 ps))

-- a new chain inside another one is a part of it
abbrev pub spliced : Context → Code → Code
spliced c (chain m e) = cond (new_here c m) e (chain m e)
spliced c e = e

-- the new `delete` at the end gets the number of the chain
abbrev pub deleted_as : Context → ℕ → Code → Code
deleted_as c m (operation k Delete es held) = cond (new_here c k) (operation m Delete es held) no_rule
deleted_as c m (tested o again e) = tested o again (deleted_as c m e)
deleted_as c m e = no_rule

-- the rest of such a chain hands on a receiver by a `.bind` alone
abbrev pub ended_alone : Code → Code
ended_alone (bound f o) = bound f o
ended_alone (tested o again e) = tested o again e
ended_alone e = from_call e

-- `T ? void 0 : r` and `T ? true : delete r`, T a new test of an object for null and undefined, are the chain m
abbrev pub chain_or : Context → ℕ → Code → Code → Code → Code → Code
chain_or c m test (value Undefined) e whole = chain m (tested (tested_object test) (again_of test) (ended_alone (spliced c e)))
chain_or c m test (value (ConstantOf (BooleanOf true))) e whole = chain m (tested (tested_object test) (again_of test) (deleted_as c m (spliced c e)))
chain_or c m test middle e whole = whole

abbrev pub conditional_code : Context → ℕ → Members → Code
conditional_code c m ps =
    let whole : Code = operation m (OfKind Kind.ConditionalExpression (details ps)) (codes_of (at 0 ps)) (and (the_code (at 1 ps)) (and (the_code (at 2 ps)) done)) in
    cond (is_undefined_test c (the_code (at 0 ps))) (chain_or c m (the_code (at 0 ps)) (the_code (at 1 ps)) (the_code (at 2 ps)) whole) whole

-- ---- calls

-- a member that is called hands on its object as receiver, also at the end of a chain
abbrev pub callee_of : Code → Callee
callee_of (member m o k) = on_member m o k
callee_of (private_member m r o) = on_private m r o
callee_of (super_member m home k this) = on_super m home k this
callee_of (bound f o) = with_receiver f o
callee_of (chain m e) = on_chain m (callee_of e)
callee_of (tested o again e) = behind_test o again (callee_of e)
callee_of (from_member e) = plain no_rule
callee_of e = plain e

-- a `.bind` is called without `?.`
abbrev pub checked_callee : Bool → Callee → Callee
checked_callee true (with_receiver f o) = plain no_rule
checked_callee true f = checked f
checked_callee false f = f

abbrev pub call_code : Context → ℕ → Members → Code
call_code c m ps =
    let f : Code = the_code (at 0 ps) in
    let es : Codes = codes_of (at 1 ps) in
    let whole : Code = call m (checked_callee (flag_of (at 2 ps)) (callee_of f)) es in
    cond (flag_of (at 2 ps)) whole (generated_call c m f es whole)

abbrev pub new_code : ℕ → Members → Code
new_code m ps = construct m (the_code (at 0 ps)) (codes_of (at 1 ps))

-- a tag is called with the strings of the template and then its expressions
abbrev pub tag_of : ℕ → Code → Code → Code
tag_of m f (template k strings es) = tag m (callee_of f) strings es
tag_of m f e = no_rule

abbrev pub tag_code : ℕ → Members → Code
tag_code m ps = tag_of m (the_code (at 0 ps)) (the_code (at 1 ps))

-- ---- objects

abbrev pub is_prototype : String → Members → Bool
is_prototype s ps = bytes_eq s (codes "__proto__") && (bytes_eq (word_of (at 2 ps)) (codes "init") && not (flag_of (at 3 ps) || flag_of (at 4 ps)))

abbrev pub key_details : Code → Members → List Detail
key_details (spelled s) ps = cond (is_prototype s ps) Prototype (Key (StringOf s)) ∷ []
key_details (value (ConstantOf (StringOf s))) ps = cond (is_prototype s ps) Prototype (Key (StringOf s)) ∷ []
key_details (value (ConstantOf k)) ps = Key k ∷ []
key_details c ps = []

-- a number as a key is read as one that is computed: it may be kept, too, where a function or a class is named by it
abbrev pub is_numeric : Code → Bool
is_numeric (value (ConstantOf (NumberOf raw))) = true
is_numeric (value (ConstantOf (BigIntOf s))) = true
is_numeric k = false

-- a property of an object: a key that is computed, which is converted where it stands (13.2.5.5), and the value are operands
abbrev pub property_code : Members → Code
property_code ps =
    let k : Code = the_code (at 0 ps) in
    let form : List Detail = Operand ∷ Spelled (word_of (at 2 ps)) ∷ Flag (flag_of (at 3 ps)) ∷ [] in
    cond (flag_of (at 5 ps) || is_numeric k) (piece (Operand ∷ form) (and (key_of k) (and (the_code (at 1 ps)) done))) (piece (key_details k ps ++ form) (and (the_code (at 1 ps)) done))
