-- No rule of reading makes a code with a hole at its end, where none of its parts is one.
use Rattle.std.specs.Prelude.{◌≡◌, refl, ℕ, List, Bool, true, false, cond, not, ◌&&◌, ◌||◌, nat_eq, codes, bytes_eq, Option, Some, None}
use Rattle.es_base.specs.declared.kind.Kind.{Kind}
use Rattle.es_base.specs.declared.ledger.GeneratedKind.{GeneratedKind}
use Rattle.es_base.specs.declared.literal.LiteralValue.{LiteralValue}
use Rattle.es_base.specs.declared.literal.LiteralValue.TheVariants as literal_value
use Rattle.es_steps.specs.Code.{Code, Codes, Target, FunctionForm, CalledBodyOf, no_rule, value, spelled, private_name, binding, name, super, member, private_member, super_member, private_in, assign, compound, logical, logical_assign, call, super_call, super_call_with_all, sequence, template, operation, chain, tested, pattern, function, new_function, private_field, method, private_method, generated_element, from_call, from_member, helper, helper_call, throw, private_initialize, bound, setter, private_value, call_arrow, to_name, to_private, done, and}
use Rattle.es_steps.specs.GeneratedForms.{is_named, weak_map, static_field, private_function, loose_key, class_named, is_class_named, is_brand, known_object, is_string, home_of, single_property, writable_value, array_elements, read_private, set_private, is_method_kind, is_getter_kind, is_setter_kind, asserted, initialized_on, brand_on, define_on, super_get, super_set, is_number_literal, is_constant, is_quiet_key, helper_code, is_helper_object, helper_or_none, helper_or, branded_field, own_field, setter_on, field_setter, setter_of_pair, setter_of, underscore_of, same_number, loose_member, is_same_key, kept_name, generated_member, parameter_names, opened_body, no_spread, is_plain_arrow, arrow_call, is_pick, with_key, picked, new_function_call, getter_call, received_call, getter_or_received, is_super_itself, super_function_call, called_with, bound_to, has_field, has_brand, loose_initialized, object_call, member_call, new_member_call, initializers_behind, passes_all, super_call_in, super_method_call, helper_call_call, generated_call, is_class_test, generated_binary, is_undefined_test, is_new_collection, only_if, is_loose_key_call, field_object, given_function, given, is_own_class, private_assignment, generated_assignment, value_of_private}
use Rattle.es_steps.specs.Helpers.{Helper, DefineProperty, ClassPrivateFieldInitSpec, ClassPrivateMethodInitSpec, ClassPrivateFieldGet2, ClassPrivateFieldSet2, AssertClassBrand, ToSetter, CheckInRHS, ReadOnlyError, WriteOnlyError, SuperPropGet, SuperPropSet, ClassPrivateFieldLooseBase, SetFunctionName, ToPropertyKey, helper_named}
use Rattle.es_steps.specs.PrivateNames.{PrivateMember, PrivateReference, member_at, reference_of}
use Rattle.es_steps.specs.Expressions.{operation_of, the_code, value_code, literal_code, is_arguments, arguments_of, name_or_arguments, spelling_of, key_code, super_member_at, checked_object, member_on, member_code, is_made_private, names_class, private_on, private_field_of, test_in, private_in_of, target_of, is_logical, without_sign, assignment_code, void_code, deleted, delete_code, unary_operation, unary_code, quiet_logical, spliced, deleted_as, ended_alone, chain_or, callee_of, checked_callee, call_code, tag_of, is_numeric}
use Rattle.es_steps.specs.Statements.{is_other_directive, declarator_of, function_or_new, function_code, hoisted_function, declared_function, value_or_undefined, private_element, field_of, is_constructor_key, method_or_constructor, is_declared_as, method_of}
use Rattle.es_steps.specs.Scopes.{Declaration}
use Rattle.es_steps.specs.Context.{Context, NameKind, Fixed, Changing, Generated, StaticMethod, MeansClass, name_kind, new_here, is_constructor, is_generated_private}
use Rattle.es_steps.specs.Events.{Delete}
use Rattle.es_steps.specs.Members.{Member, Members, code, literal, at, word_of, flag_of, codes_of}
use Rattle.es_steps.specs.Reading.{statement_code, pattern_code, class_form_code, code_of}
use Rattle.es_steps.specs.Values.{String, Value, ConstantOf, BooleanOf, Undefined, ResultOf, ThisOf, ClassOf, ArgumentsOf, Free, Home}
use Rattle.es_replacement.proofs.MembersFilled.{closed_code, closed_part}
use Rattle.es_replacement.specs.Unasked.{ends_open, is_closed, are_closed}

abbrev Closed : Code → Type 0
Closed q = ends_open q ≡ false

either : (b : Bool) (x y : Code) → Closed x → Closed y → Closed (cond b x y)
either true x y p q = p
either false x y p q = q

-- ---- generated forms

read_private-closed : (m : ℕ) (x : Option PrivateMember) (o : Code) → Closed (read_private m x o)
read_private-closed m None o = refl
read_private-closed m (Some x) o = refl

set_private-closed : (new : Bool) (m : ℕ) (x : Option PrivateMember) (o v : Code) → Closed (set_private new m x o v)
set_private-closed new m None o v = refl
set_private-closed new m (Some x) o v = refl

initialized_on-closed : (m : ℕ) (x : Option PrivateMember) (o : Option Value) (v : Code) → Closed (initialized_on m x o v)
initialized_on-closed m (Some x) (Some o) v = refl
initialized_on-closed m (Some x) None v = refl
initialized_on-closed m None o v = refl

brand_on-closed : (m : ℕ) (q : Code) (o : Option Value) → Closed (brand_on m q o)
brand_on-closed m (name k s (Generated (GeneratedKind.Brand n))) (Some o) = refl
brand_on-closed m q o = refl

define_on-closed : (m : ℕ) (o : Option Value) (k v : Code) → Closed (define_on m o k v)
define_on-closed m None k v = refl
define_on-closed m (Some o) k v = refl

super_get-closed : (m : ℕ) (home : Option Home) (k : Code) (this : Option Value) → Closed (super_get m home k this)
super_get-closed m (Some home) k (Some this) = refl
super_get-closed m (Some home) k None = refl
super_get-closed m None k this = refl

super_set-closed : (new : Bool) (m : ℕ) (home : Option Home) (k v : Code) (this : Option Value) → Closed (super_set new m home k v this)
super_set-closed new m (Some home) k v (Some this) = refl
super_set-closed new m (Some home) k v None = refl
super_set-closed new m None k v this = refl

asserted-closed : (m : ℕ) (x : Option PrivateMember) (q o whole : Code) → Closed whole → Closed (asserted m x q o whole)
asserted-closed m None q o whole h = h
asserted-closed m (Some x) q o whole h = either (is_method_kind x.kind && is_brand x q) _ _ refl refl

branded_field-closed : (m : ℕ) (x : Option PrivateMember) (z o : Code) → Closed (branded_field m x z o)
branded_field-closed m None z o = refl
branded_field-closed m (Some x) z o = either (is_class_named x.class z) (from_member (private_member m (reference_of x) o)) no_rule refl refl

own_field-closed : (m : ℕ) (x : Option PrivateMember) → Closed (own_field m x)
own_field-closed m None = refl
own_field-closed m (Some x) = refl

setter_on-closed : (m : ℕ) (x : Option PrivateMember) (o : Code) → Closed (setter_on m x o)
setter_on-closed m None o = refl
setter_on-closed m (Some x) (helper_call k AssertClassBrand (and q (and o done))) = either (is_setter_kind x.kind && is_brand x q) (setter m x.number o) no_rule refl refl
setter_on-closed m (Some x) o = either (is_setter_kind x.kind && (x.is_static && is_class_named x.class o)) (setter m x.number o) no_rule refl refl

field_setter-closed : (m : ℕ) (x : Option PrivateMember) (o : Code) → Closed (field_setter m x o)
field_setter-closed m None o = refl
field_setter-closed m (Some x) o = refl

helper_or-closed : (b : Bool) (k whole : Code) → Closed whole → Closed (helper_or b k whole)
helper_or-closed true (spelled s) whole h = found (helper_named s)
  where
    found : (x : Option Helper) → Closed (helper_or_none x)
    found None = refl
    found (Some x) = refl
helper_or-closed true k whole h = h
helper_or-closed false k whole h = h

kept_name-closed : (key : Code) (p : Option (Code × Code)) (whole : Code) → Closed whole → Closed (kept_name key p whole)
kept_name-closed key (Some p) whole h = either (is_same_key key p.0) (from_member (from_call (sequence (and p.0 (and p.1 done))))) whole refl h
kept_name-closed key None whole h = h

arrow_call-closed : (form : FunctionForm) (names : Option (List String)) (body : Code) (es : Codes) → Closed (arrow_call form names body es)
arrow_call-closed form None body es = refl
arrow_call-closed form (Some names) body es = either (is_plain_arrow form && no_spread es) (call_arrow names (opened_body body) es) no_rule refl refl

with_key-closed : (k e : Code) → Closed (with_key k e)
with_key-closed (private_value s) e = refl
with_key-closed k e = refl

picked-closed : (k : Code) (p : Option (Code × Code)) → Closed (picked k p)
picked-closed k (Some p) = either (is_same_key k p.0) (with_key k p.1) no_rule (with_key-closed k p.1) refl
picked-closed k None = refl

received_call-closed : (m : ℕ) (g : Code) (es : Codes) → Closed (received_call m g es)
received_call-closed m g (and o es) = refl
received_call-closed m g done = refl

bound_to-closed : (g : Code) (es : Codes) → Closed (bound_to g es)
bound_to-closed g done = refl
bound_to-closed g (and o done) = refl
bound_to-closed g (and o (and c cs)) = refl

getter_call-closed : (m : ℕ) (x : PrivateMember) (es : Codes) → Closed (getter_call m x es)
getter_call-closed m x (and (helper_call k AssertClassBrand (and q (and o done))) done) = either (is_brand x q) (from_call (private_member m (reference_of x) o)) no_rule refl refl
getter_call-closed m x (and o done) = either (x.is_static && is_class_named x.class o) (from_call (private_member m (reference_of x) o)) no_rule refl refl
getter_call-closed m x es = refl

getter_or_received-closed : (m : ℕ) (x : Option PrivateMember) (g : Code) (es : Codes) → Closed (getter_or_received m x g es)
getter_or_received-closed m (Some x) g es = either (is_getter_kind x.kind) (getter_call m x es) (received_call m g es) (getter_call-closed m x es) (received_call-closed m g es)
getter_or_received-closed m None g es = received_call-closed m g es

super_function_call-closed : (m n : ℕ) (s : String) (es : Codes) → Closed (super_function_call m n s es)
super_function_call-closed m n s (and (super_call k n2 behind es) done) = either (nat_eq n n2 && is_super_itself behind) (super_call m n (Some (CalledBodyOf s)) es) no_rule refl refl
super_function_call-closed m n s es = refl

has_field-closed : (m : ℕ) (x : Option PrivateMember) (es : Codes) → Closed (has_field m x es)
has_field-closed m (Some x) (and (helper_call k CheckInRHS (and o done)) done) = refl
has_field-closed m (Some x) es = refl
has_field-closed m None es = refl

has_brand-closed : (m n : ℕ) (es : Codes) → Closed (has_brand m n es)
has_brand-closed m n (and (helper_call k CheckInRHS (and o done)) done) = refl
has_brand-closed m n es = refl

loose_initialized-closed : (m : ℕ) (x : Option PrivateMember) (o : Option Value) (v : Option Code) (whole : Code) → Closed whole → Closed (loose_initialized m x o v whole)
loose_initialized-closed m (Some x) (Some o) (Some v) whole h = refl
loose_initialized-closed m None o v whole h = h
loose_initialized-closed m (Some x) None v whole h = refl
loose_initialized-closed m (Some x) (Some o) None whole h = refl

super_method_call-closed : (m k : ℕ) (home : Option Home) (key : Code) (this : Option Value) (es : Option Codes) → Closed (super_method_call m k home key this es)
super_method_call-closed m k (Some home) key (Some this) (Some es) = refl
super_method_call-closed m k home key this es = refl

is_class_test-closed : (m : ℕ) (n : Option ℕ) (o : Code) → Closed (is_class_test m n o)
is_class_test-closed m None o = refl
is_class_test-closed m (Some n) o = refl

only_if-closed : (b : Bool) (m : ℕ) → Closed (only_if b m)
only_if-closed true m = refl
only_if-closed false m = refl

field_object-closed : (m : ℕ) (x : Option PrivateMember) (p : Option (Code × Code)) → Closed (field_object m x p)
field_object-closed m (Some x) (Some p) = either (is_string (codes "_") p.0) (private_initialize m x.number (ClassOf x.class) p.1) no_rule refl refl
field_object-closed m x p = refl

given_function-closed : (m : ℕ) (s : String) (g : GeneratedKind) (q : Code) → Closed (given_function m s g q)
given_function-closed m s g (function h form own ps body) = refl
given_function-closed m s g q = refl

private_assignment-closed : (new : Bool) (m k : ℕ) (x : PrivateReference) (o v : Code) → Closed (private_assignment new m k x o v)
private_assignment-closed new m k x own (helper_call j AssertClassBrand (and z (and o (and v done)))) = either (is_own_class x own && is_class_named x.class z) (assign (to_private k x o) (value_of_private x.writes new m v)) no_rule refl refl
private_assignment-closed new m k x o v = refl

deleted-closed : (m : ℕ) (e : Code) → Closed (deleted m e)
deleted-closed m (tested o again e) = deleted-closed m e
deleted-closed m (member k o key) = refl
deleted-closed m e = refl

void_code-closed : (e whole : Code) → Closed whole → Closed (void_code e whole)
void_code-closed (value (ConstantOf k)) whole h = refl
void_code-closed e whole h = h

delete_code-closed : (m : ℕ) (e whole : Code) → Closed whole → Closed (delete_code m e whole)
delete_code-closed m (member k o key) whole h = refl
delete_code-closed m (super_member k home key this) whole h = refl
delete_code-closed m (chain k e) whole h = deleted-closed m e
delete_code-closed m (from_member e) whole h = refl
delete_code-closed m (value (ThisOf k)) whole h = refl
delete_code-closed m (value (ClassOf n)) whole h = refl
delete_code-closed m e whole h = h

ended_alone-closed : (e : Code) → Closed e → Closed (ended_alone e)
ended_alone-closed (bound f o) h = refl
ended_alone-closed (tested o again e) h = h
ended_alone-closed e h = refl

tag_of-closed : (m : ℕ) (f e : Code) → Closed (tag_of m f e)
tag_of-closed m f (template k strings es) = refl
tag_of-closed m f e = refl

private_in_of-closed : (c : Context) (m : ℕ) (k o : Code) → Closed (private_in_of c m k o)
private_in_of-closed c m (private_name d s (Some r)) o = either (is_made_private c s r) no_rule (private_in m (test_in c r) o) refl refl
private_in_of-closed c m (private_name d s None) o = refl
private_in_of-closed c m k o = refl

value_code-closed : (m : ℕ) (v : LiteralValue) → Closed (value_code m v)
value_code-closed m (literal_value.RegExp source flags) = refl
value_code-closed m (literal_value.String s raw) = refl
value_code-closed m (literal_value.Number raw) = refl
value_code-closed m (literal_value.BigInt s) = refl
value_code-closed m (literal_value.Boolean b) = refl
value_code-closed m literal_value.Null = refl

literal_code-closed : (m : ℕ) (p : Member) → Closed (literal_code m p)
literal_code-closed m (literal v) = value_code-closed m v
literal_code-closed m p = refl

arguments_of-closed : (writes : Bool) (m : ℕ) (s : String) (v : Value) → Closed (arguments_of writes m s v)
arguments_of-closed true m s (ArgumentsOf k) = refl
arguments_of-closed false m s (ArgumentsOf k) = refl
arguments_of-closed true m s v = refl
arguments_of-closed false m s v = refl

super_member_at-closed : (m : ℕ) (home : Option Home) (k : Code) (this : Value) → Closed (super_member_at m home k this)
super_member_at-closed m None k this = refl
super_member_at-closed m (Some home) k this = refl

function_or_new-closed : (b : Bool) (f : ℕ) (form : FunctionForm) (own : Option ℕ) (ps : Codes) (body : Code) → Closed (function_or_new b f form own ps body)
function_or_new-closed true f form own ps body = refl
function_or_new-closed false f form own ps body = refl

hoisted-closed : (around : Option (List Declaration)) (f : ℕ) (s : String) (e : Code) → Closed e → Closed (hoisted_function around f s e)
hoisted-closed None f s e h = h
hoisted-closed (Some names) f s e h = refl

declared_function-closed : (around : Option (List Declaration)) (f : ℕ) (p : Member) (e : Code) → Closed e → Closed (declared_function around f p e)
declared_function-closed around f (code (binding b s (Generated (GeneratedKind.Method d)))) e h = refl
declared_function-closed around f (code (binding b s (Generated g))) e h = refl
declared_function-closed around f (code (binding b s (Fixed n))) e h = hoisted-closed around f s e h
declared_function-closed around f (code (binding b s (Changing to))) e h = hoisted-closed around f s e h
declared_function-closed around f (code (binding b s (MeansClass n k))) e h = hoisted-closed around f s e h
declared_function-closed around f (code (binding b s (StaticMethod d n))) e h = hoisted-closed around f s e h
declared_function-closed around f p e h = h

method_or_constructor-closed : (b d : Bool) (whole f : Code) → Closed whole → Closed (method_or_constructor b d whole f)
method_or_constructor-closed true true whole f h = refl
method_or_constructor-closed false false whole f h = h
method_or_constructor-closed true false whole f h = refl
method_or_constructor-closed false true whole f h = refl

module _ (c : Context) where
  helper_code-closed : (m : ℕ) (h : Helper) (es : Codes) → Closed (helper_code c m h es)
  helper_code-closed m ClassPrivateFieldGet2 (and w (and o done)) = refl
  helper_code-closed m ClassPrivateFieldSet2 (and w (and o (and v done))) = set_private-closed (new_here c m) m (weak_map c w) o v
  helper_code-closed m AssertClassBrand (and q (and o (and f done))) = asserted-closed m (private_function c f) q o (helper_call m AssertClassBrand (and q (and o (and f done)))) refl
  helper_code-closed m ReadOnlyError (and s done) = either (is_constant s) throw no_rule refl refl
  helper_code-closed m WriteOnlyError (and s done) = either (is_constant s) throw no_rule refl refl
  helper_code-closed m ClassPrivateFieldInitSpec (and o (and w (and v done))) = initialized_on-closed m (weak_map c w) (known_object o) v
  helper_code-closed m ClassPrivateMethodInitSpec (and o (and q done)) = brand_on-closed m q (known_object o)
  helper_code-closed m DefineProperty (and o (and k (and v done))) = define_on-closed m (known_object o) k v
  helper_code-closed m SuperPropGet (and h (and k (and r done))) = super_get-closed m (home_of h) k (known_object r)
  helper_code-closed m SuperPropSet (and h (and k (and v (and r (and one done))))) = either (is_number_literal (codes "1") one) (super_set (new_here c m) m (home_of h) k v (known_object r)) no_rule (super_set-closed (new_here c m) m (home_of h) k v (known_object r)) refl
  helper_code-closed m ToPropertyKey (and e done) = refl
  helper_code-closed m SetFunctionName (and e (and k done)) = either (is_named e && is_quiet_key k) (with_key k e) no_rule (with_key-closed k e) refl
  helper_code-closed m h es = refl

  setter_of_pair-closed : (m : ℕ) (es : Option Codes) → Closed (setter_of_pair c m es)
  setter_of_pair-closed m (Some (and w (and o done))) = field_setter-closed m (weak_map c w) o
  setter_of_pair-closed m es = refl

  setter_of-closed : (m : ℕ) (es : Codes) → Closed (setter_of c m es)
  setter_of-closed m (and (bound f o) done) = setter_on-closed m (private_function c f) o
  setter_of-closed m (and (helper ClassPrivateFieldSet2) (and pair done)) = setter_of_pair-closed m (array_elements c pair)
  setter_of-closed m es = refl

  underscore_of-closed : (m : ℕ) (o whole : Code) → Closed whole → Closed (underscore_of c m o whole)
  underscore_of-closed m (helper_call k AssertClassBrand (and z (and o (and f done)))) whole h = branded_field-closed m (static_field c f) z o
  underscore_of-closed m (helper_call k ToSetter es) whole h = setter_of-closed m es
  underscore_of-closed m (name k s (Generated (GeneratedKind.StaticField d))) whole h = own_field-closed m (static_field c (name k s (Generated (GeneratedKind.StaticField d))))
  underscore_of-closed m o whole h = h

  loose_member-closed : (m : ℕ) (o key whole : Code) → Closed whole → Closed (loose_member c m o key whole)
  loose_member-closed m (helper_call k ClassPrivateFieldLooseBase (and o (and l done))) key whole h = either (same_number (loose_key c l) (loose_key c key)) (read_private m (loose_key c key) o) no_rule (read_private-closed m (loose_key c key) o) refl
  loose_member-closed m o key whole h = h

  generated_member-closed : (m : ℕ) (o k whole : Code) → Closed whole → Closed (generated_member c m o k whole)
  generated_member-closed m o k whole h =
      let kept : Code = kept_name k (single_property c o) whole in
      either (is_string (codes "_") k) (underscore_of c m o whole) (loose_member c m o k kept) (underscore_of-closed m o whole h) (loose_member-closed m o k kept (kept_name-closed k (single_property c o) whole h))

  member_on-closed : (m : ℕ) (optional : Bool) (o k : Code) → Closed (member_on c m optional o k)
  member_on-closed m optional super k = super_member_at-closed m c.home k c.this
  member_on-closed m optional o k = generated_member-closed m o k (member m (checked_object optional o) k) refl

  member_code-closed : (m : ℕ) (ps : Members) → Closed (member_code c m ps)
  member_code-closed m ps = helper_or-closed (is_helper_object c (the_code (at 0 ps)) && not (flag_of (at 2 ps))) (the_code (at 1 ps)) (member_on c m (flag_of (at 3 ps)) (the_code (at 0 ps)) (key_code (flag_of (at 2 ps)) (the_code (at 1 ps)))) (member_on-closed m (flag_of (at 3 ps)) (the_code (at 0 ps)) (key_code (flag_of (at 2 ps)) (the_code (at 1 ps))))

  private_on-closed : (m : ℕ) (s : String) (r : Option PrivateReference) (o checked_o : Code) → Closed (private_on c m s r o checked_o)
  private_on-closed m s None o checked_o = refl
  private_on-closed m s (Some r) o checked_o = either (is_made_private c s r) (cond (names_class r (class_named o)) (private_value s) no_rule) (private_member m r checked_o) (either (names_class r (class_named o)) (private_value s) no_rule refl refl) refl

  private_field_of-closed : (m : ℕ) (optional : Bool) (o k : Code) → Closed (private_field_of c m optional o k)
  private_field_of-closed m optional super k = refl
  private_field_of-closed m optional o (private_name d s r) = private_on-closed m s r o (checked_object optional o)
  private_field_of-closed m optional o k = refl

  new_function_call-closed : (form : FunctionForm) (ps : Codes) (body : Code) (es : Codes) → Closed (new_function_call c form ps body es)
  new_function_call-closed form ps body (and k (and o done)) = either (is_plain_arrow form && is_pick ps body) (picked k (single_property c o)) (arrow_call form (parameter_names ps) body (and k (and o done))) (picked-closed k (single_property c o)) (arrow_call-closed form (parameter_names ps) body (and k (and o done)))
  new_function_call-closed form ps body es = arrow_call-closed form (parameter_names ps) body es

  called_with-closed : (m : ℕ) (f : Code) (es : Codes) → Closed (called_with c m f es)
  called_with-closed m (name k s (Generated (GeneratedKind.SuperFn n))) es = super_function_call-closed m n.0 s es
  called_with-closed m f es = getter_or_received-closed m (private_function c f) f es

  object_call-closed : (m : ℕ) (es : Codes) (whole : Code) → Closed whole → Closed (object_call c m es whole)
  object_call-closed m (and o (and l (and form done))) whole h = loose_initialized-closed m (loose_key c l) (known_object o) (writable_value c form) whole h
  object_call-closed m es whole h = h

  member_call-closed : (m : ℕ) (o key : Code) (es : Codes) (whole : Code) → Closed whole → Closed (member_call c m o key es whole)
  member_call-closed m (name k s (Generated (GeneratedKind.WeakMap d))) key es whole h = either (is_string (codes "has") key) (has_field m (weak_map c (name k s (Generated (GeneratedKind.WeakMap d)))) es) no_rule (has_field-closed m (weak_map c (name k s (Generated (GeneratedKind.WeakMap d)))) es) refl
  member_call-closed m (name k s (Generated (GeneratedKind.Brand n))) key es whole h = either (is_string (codes "has") key) (has_brand m n.0 es) no_rule (has_brand-closed m n.0 es) refl
  member_call-closed m (name k s (Changing (Free spelling))) key es whole h = either (bytes_eq s (codes "Object") && is_string (codes "defineProperty") key) (object_call c m es whole) whole (object_call-closed m es whole h) h
  member_call-closed m o key es whole h = h

  new_member_call-closed : (m k : ℕ) (f key : Code) (es : Codes) (whole : Code) → Closed whole → Closed (new_member_call c m k f key es whole)
  new_member_call-closed m k f key es whole h =
      either (new_here c k && is_string (codes "call") key) (called_with c m f es) (cond (new_here c k && is_string (codes "bind") key) (bound_to f es) (member_call c m f key es whole)) (called_with-closed m f es)
      (either (new_here c k && is_string (codes "bind") key) (bound_to f es) (member_call c m f key es whole) (bound_to-closed f es) (member_call-closed m f key es whole h))

  super_call_in-closed : (m : ℕ) (n : Option ℕ) (es : Codes) → Closed (super_call_in c m n es)
  super_call_in-closed m None es = refl
  super_call_in-closed m (Some n) es = either (passes_all c.rest_name es) (super_call_with_all n) (super_call m n (initializers_behind c m n) es) refl refl

  helper_call_call-closed : (m k : ℕ) (h : Helper) (arguments es : Codes) → Closed (helper_call_call c m k h arguments es)
  helper_call_call-closed m k SuperPropGet (and h (and key (and r (and two done)))) (and form done) = either (is_number_literal (codes "2") two) (super_method_call m k (home_of h) key (known_object r) (array_elements c form)) no_rule (super_method_call-closed m k (home_of h) key (known_object r) (array_elements c form)) refl
  helper_call_call-closed m k h arguments es = refl

  generated_call-closed : (m : ℕ) (f : Code) (es : Codes) (whole : Code) → Closed whole → Closed (generated_call c m f es whole)
  generated_call-closed m (helper g) es whole h = helper_code-closed m g es
  generated_call-closed m (helper_call k g arguments) es whole h = helper_call_call-closed m k g arguments es
  generated_call-closed m super es whole h = super_call_in-closed m c.constructs es
  generated_call-closed m (member k o key) es whole h = new_member_call-closed m k o key es whole h
  generated_call-closed m (name k s (Generated GeneratedKind.Closure)) es whole h = refl
  generated_call-closed m (name k s (Generated (GeneratedKind.SuperFn n))) es whole h = refl
  generated_call-closed m (new_function f form ps body) es whole h = new_function_call-closed form ps body es
  generated_call-closed m f es whole h = h

  call_code-closed : (m : ℕ) (ps : Members) → Closed (call_code c m ps)
  call_code-closed m ps =
      let whole : Code = call m (checked_callee (flag_of (at 2 ps)) (callee_of (the_code (at 0 ps)))) (codes_of (at 1 ps)) in
      either (flag_of (at 2 ps)) whole (generated_call c m (the_code (at 0 ps)) (codes_of (at 1 ps)) whole) refl (generated_call-closed m (the_code (at 0 ps)) (codes_of (at 1 ps)) whole refl)

  generated_binary-closed : (m : ℕ) (operator : String) (l r whole : Code) → Closed whole → Closed (generated_binary c m operator l r whole)
  generated_binary-closed m operator (helper_call k CheckInRHS (and o done)) r whole h = either (bytes_eq operator (codes "===")) (is_class_test m (class_named r) o) no_rule (is_class_test-closed m (class_named r) o) refl
  generated_binary-closed m operator (name k s (Generated GeneratedKind.Temp)) r whole h = either (new_here c m && (bytes_eq operator (codes "!==") && is_string (codes "name") r)) (value (ResultOf m)) whole refl h
  generated_binary-closed m operator l r whole h = h

  quiet_logical-closed : (m : ℕ) (operator : String) (l r whole : Code) → Closed whole → Closed (quiet_logical c m operator l r whole)
  quiet_logical-closed m operator (value (ResultOf k)) (from_call (value v)) whole h = either (new_here c m && (new_here c k && bytes_eq operator (codes "&&"))) (value (ResultOf m)) whole refl h
  quiet_logical-closed m operator (value (ResultOf k)) (value (ResultOf j)) whole h = either (new_here c j && (new_here c m && (new_here c k && bytes_eq operator (codes "&&")))) (value (ResultOf m)) whole refl h
  quiet_logical-closed m operator l r whole h = h

  given-closed : (m b : ℕ) (s : String) (g : GeneratedKind) (q : Code) → Closed (given c m b s g q)
  given-closed m b s GeneratedKind.Temp q = refl
  given-closed m b s GeneratedKind.Param q = refl
  given-closed m b s (GeneratedKind.ClassTemp n) q = refl
  given-closed m b s (GeneratedKind.WeakMap d) q = only_if-closed (is_new_collection c (codes "WeakMap") q) m
  given-closed m b s (GeneratedKind.StaticField d) q = field_object-closed m (static_field c (name b s (Generated (GeneratedKind.StaticField d)))) (single_property c q)
  given-closed m b s (GeneratedKind.Brand n) q = only_if-closed (is_new_collection c (codes "WeakSet") q) m
  given-closed m b s (GeneratedKind.LooseKey d) q = only_if-closed (is_loose_key_call q) m
  given-closed m b s (GeneratedKind.Method d) q = given_function-closed m s (GeneratedKind.Method d) q
  given-closed m b s (GeneratedKind.SuperFn n) q = given_function-closed m s (GeneratedKind.SuperFn n) q
  given-closed m b s GeneratedKind.Closure q = given_function-closed m s GeneratedKind.Closure q
  given-closed m b s g q = refl

  generated_assignment-closed : (m : ℕ) (to : Target) (q : Code) → Closed (generated_assignment c m to q)
  generated_assignment-closed m (to_name b s (Generated g)) q = given-closed m b s g q
  generated_assignment-closed m (to_name b s (StaticMethod d n)) q = given_function-closed m s (GeneratedKind.Method (record { 0 = d })) q
  generated_assignment-closed m (to_private k r o) q = private_assignment-closed (new_here c m) m k r o q
  generated_assignment-closed m to q = refl

  assignment_code-closed : (m : ℕ) (ps : Members) → Closed (assignment_code c m ps)
  assignment_code-closed m ps =
      let operator : String = word_of (at 0 ps) in
      let to : Target = target_of (the_code (at 1 ps)) in
      let right : Code = the_code (at 2 ps) in
      either (bytes_eq operator (codes "=")) (generated_assignment c m to right) (cond (is_logical operator) (logical_assign m (without_sign operator) to right) (compound m (without_sign operator) to right)) (generated_assignment-closed m to right)
      (either (is_logical operator) (logical_assign m (without_sign operator) to right) (compound m (without_sign operator) to right) refl refl)

  unary_code-closed : (m : ℕ) (ps : Members) → Closed (unary_code m ps)
  unary_code-closed m ps =
      let e : Code = the_code (at 1 ps) in
      let whole : Code = unary_operation m ps e in
      either (bytes_eq (word_of (at 0 ps)) (codes "void")) (void_code e whole) (cond (bytes_eq (word_of (at 0 ps)) (codes "delete")) (delete_code m e whole) whole) (void_code-closed e whole refl)
      (either (bytes_eq (word_of (at 0 ps)) (codes "delete")) (delete_code m e whole) whole (delete_code-closed m e whole refl) refl)

  spliced-closed : (q : Code) → Closed q → Closed (spliced c q)
  spliced-closed (chain m q) h = either (new_here c m) q (chain m q) h h
  spliced-closed q h = h

  deleted_as-closed : (m : ℕ) (q : Code) → Closed (deleted_as c m q)
  deleted_as-closed m (operation k Delete es held) = either (new_here c k) (operation m Delete es held) no_rule refl refl
  deleted_as-closed m (tested o again q) = deleted_as-closed m q
  deleted_as-closed m q = refl

  chain_or-closed : (m : ℕ) (test middle q whole : Code) → Closed (ended_alone (spliced c q)) → Closed whole → Closed (chain_or c m test middle q whole)
  chain_or-closed m test (value Undefined) q whole h w = h
  chain_or-closed m test (value (ConstantOf (BooleanOf true))) q whole h w = deleted_as-closed m (spliced c q)
  chain_or-closed m test middle q whole h w = w

  name_or_arguments-closed : (m : ℕ) (s : String) (kind : NameKind) → Closed (name_or_arguments c m s kind)
  name_or_arguments-closed m s (Changing (Free spelling)) = either (is_arguments s) (arguments_of c.writes_arguments m s c.arguments) (name m s (Changing (Free spelling))) (arguments_of-closed c.writes_arguments m s c.arguments) refl
  name_or_arguments-closed m s (Generated (GeneratedKind.Method d)) = refl
  name_or_arguments-closed m s kind = refl

  -- ---- statements, functions and classes

  declarator_of-closed : (m : ℕ) (new : Bool) (d : Code) (p : Member) → Closed (declarator_of c m new d p)
  declarator_of-closed m new (binding b s (Generated g)) (code e) = given-closed m b s g e
  declarator_of-closed m new (binding b s (Generated g)) p = refl
  declarator_of-closed m true (binding b s (MeansClass n k)) (code e) = refl
  declarator_of-closed m true d p = refl
  declarator_of-closed m false d (code e) = refl
  declarator_of-closed m false (binding b s kind) p = refl
  declarator_of-closed m false (pattern k to) p = refl
  declarator_of-closed m false d p = refl

  private_element-closed : (is_static : Bool) (d : ℕ) (s : String) (q : Code) → Closed (private_element c is_static d s q)
  private_element-closed is_static d s q = either (new_here c d) (cond (is_static && is_generated_private s c.class c.ledger) (generated_element s q) no_rule) (private_field is_static d q) (either (is_static && is_generated_private s c.class c.ledger) (generated_element s q) no_rule refl refl) refl

  field_of-closed : (ps : Members) (k : Code) → Closed (field_of c ps k)
  field_of-closed ps (private_name d s r) = private_element-closed (flag_of (at 3 ps)) d s (value_or_undefined (at 1 ps))
  field_of-closed ps k = refl

  method_of-closed : (ps : Members) (k : Code) → Closed (method_of c ps k)
  method_of-closed ps (private_name d s r) = either (is_declared_as (member_at d c.members) (flag_of (at 4 ps)) (word_of (at 2 ps))) (private_method (flag_of (at 4 ps)) d (the_code (at 1 ps))) no_rule refl refl
  method_of-closed ps k = method_or_constructor-closed (is_constructor (word_of (at 2 ps))) (is_constructor_key k && not (flag_of (at 4 ps) || flag_of (at 3 ps))) (method (flag_of (at 4 ps)) (word_of (at 2 ps)) (key_code (flag_of (at 3 ps)) k) (the_code (at 1 ps))) (the_code (at 1 ps)) refl

  -- ---- by the rule of a kind

  statement_code-closed : (kind : Kind) (m : ℕ) (ps : Members) → Closed (statement_code c kind m ps)
  statement_code-closed Kind.ExpressionStatement m ps = either (is_other_directive (at 1 ps) && new_here c m) no_rule _ refl refl
  statement_code-closed Kind.VariableDeclarator m ps = declarator_of-closed m (new_here c m) (the_code (at 0 ps)) (at 1 ps)
  statement_code-closed Kind.ForInStatement m ps = either (c.in_new_function && flag_of (at 3 ps)) no_rule _ refl refl
  statement_code-closed Kind.ForOfStatement m ps = either (c.in_new_function && flag_of (at 3 ps)) no_rule _ refl refl
  statement_code-closed Kind.ReturnStatement m ps = either (new_here c m) _ _ refl (either c.in_new_function no_rule _ refl refl)
  statement_code-closed kind m ps = refl

  pattern_code-closed : (kind : Kind) (m : ℕ) (ps : Members) → Closed (pattern_code c kind m ps)
  pattern_code-closed Kind.ObjectPattern m ps = refl
  pattern_code-closed Kind.ObjectAssignmentTarget m ps = refl
  pattern_code-closed Kind.ArrayPattern m ps = refl
  pattern_code-closed Kind.ArrayAssignmentTarget m ps = refl
  pattern_code-closed Kind.AssignmentPattern m ps = refl
  pattern_code-closed Kind.AssignmentTargetWithDefault m ps = refl
  pattern_code-closed Kind.RestElement m ps = refl
  pattern_code-closed Kind.AssignmentTargetRest m ps = refl
  pattern_code-closed Kind.BindingProperty m ps = either (flag_of (at 5 ps)) _ _ refl refl
  pattern_code-closed Kind.AssignmentTargetProperty m ps = either (flag_of (at 5 ps)) _ _ refl refl
  pattern_code-closed kind m ps = statement_code-closed kind m ps

  class_form_code-closed : (kind : Kind) (m : ℕ) (ps : Members) → Closed (class_form_code c kind m ps)
  class_form_code-closed Kind.FunctionDeclaration m ps = declared_function-closed c.around m (at 0 ps) (function_code c m None ps) (function_or_new-closed (new_here c m) m _ None _ _)
  class_form_code-closed Kind.FunctionExpression m ps = function_or_new-closed (new_here c m) m _ _ _ _
  class_form_code-closed Kind.ArrowFunctionExpression m ps = function_or_new-closed (new_here c m) m _ _ _ _
  class_form_code-closed Kind.ClassDeclaration m ps = refl
  class_form_code-closed Kind.ClassExpression m ps = refl
  class_form_code-closed Kind.ClassBody m ps = refl
  class_form_code-closed Kind.PropertyDefinition m ps = field_of-closed ps (the_code (at 0 ps))
  class_form_code-closed Kind.MethodDefinition m ps = method_of-closed ps (the_code (at 0 ps))
  class_form_code-closed Kind.StaticBlock m ps = refl
  class_form_code-closed kind m ps = pattern_code-closed kind m ps

  -- what a chain and a conditional end in
  abbrev pub EndsClosed : Kind → Members → Type 0
  EndsClosed Kind.ChainExpression ps = is_closed (at 0 ps) ≡ true
  EndsClosed Kind.ConditionalExpression ps = Closed (ended_alone (spliced c (the_code (at 2 ps))))
  EndsClosed kind ps = Unit {0}

  pub ends_closed : (kind : Kind) (ps : Members) → are_closed ps ≡ true → EndsClosed kind ps
  ends_closed Kind.ChainExpression ps h = closed_part 0 ps h
  ends_closed Kind.ConditionalExpression ps h = ended_alone-closed (spliced c (the_code (at 2 ps))) (spliced-closed (the_code (at 2 ps)) (closed_code (at 2 ps) (closed_part 2 ps h)))
  ends_closed kind ps h = tt

  pub code_of-closed : (kind : Kind) (m : ℕ) (ps : Members) → EndsClosed kind ps → Closed (code_of c kind m ps)
  code_of-closed Kind.IdentifierReference m ps h = name_or_arguments-closed m (word_of (at 0 ps)) (name_kind c (word_of (at 0 ps)))
  code_of-closed Kind.Literal m ps h = literal_code-closed m (at 0 ps)
  code_of-closed Kind.TaggedTemplateExpression m ps h = tag_of-closed m (the_code (at 0 ps)) (the_code (at 1 ps))
  code_of-closed Kind.MetaProperty m ps h = either (bytes_eq (spelling_of (at 0 ps)) (codes "new")) (cond (new_here c m) no_rule (value c.new_target)) (operation_of Kind.MetaProperty m ps) (either (new_here c m) no_rule (value c.new_target) refl refl) refl
  code_of-closed Kind.MemberExpression m ps h = member_code-closed m ps
  code_of-closed Kind.PrivateField m ps h = private_field_of-closed m (flag_of (at 3 ps)) (the_code (at 0 ps)) (the_code (at 1 ps))
  code_of-closed Kind.PrivateIn m ps h = private_in_of-closed c m (the_code (at 1 ps)) (the_code (at 2 ps))
  code_of-closed Kind.AssignmentExpression m ps h = assignment_code-closed m ps
  code_of-closed Kind.UnaryExpression m ps h = unary_code-closed m ps
  code_of-closed Kind.BinaryExpression m ps h = generated_binary-closed m (word_of (at 0 ps)) (the_code (at 1 ps)) (the_code (at 2 ps)) (operation_of Kind.BinaryExpression m ps) refl
  code_of-closed Kind.LogicalExpression m ps h = quiet_logical-closed m (word_of (at 0 ps)) (the_code (at 1 ps)) (the_code (at 2 ps)) (logical m (word_of (at 0 ps)) (the_code (at 1 ps)) (the_code (at 2 ps))) refl
  code_of-closed Kind.ChainExpression m ps h = closed_code (at 0 ps) h
  code_of-closed Kind.CallExpression m ps h = call_code-closed m ps
  code_of-closed Kind.ConditionalExpression m ps h = either (is_undefined_test c (the_code (at 0 ps))) (chain_or c m (the_code (at 0 ps)) (the_code (at 1 ps)) (the_code (at 2 ps)) _) _ (chain_or-closed m (the_code (at 0 ps)) (the_code (at 1 ps)) (the_code (at 2 ps)) _ h refl) refl
  code_of-closed Kind.Property m ps h = either (flag_of (at 5 ps) || is_numeric (the_code (at 0 ps))) _ _ refl refl
  code_of-closed Kind.YieldExpression m ps h = either c.in_new_function no_rule _ refl refl
  code_of-closed Kind.AwaitExpression m ps h = either c.in_new_function no_rule _ refl refl
  code_of-closed Kind.BindingIdentifier m ps h = refl
  code_of-closed Kind.IdentifierName m ps h = refl
  code_of-closed Kind.PrivateIdentifier m ps h = refl
  code_of-closed Kind.ThisExpression m ps h = refl
  code_of-closed Kind.Super m ps h = refl
  code_of-closed Kind.TemplateElement m ps h = refl
  code_of-closed Kind.TemplateLiteral m ps h = refl
  code_of-closed Kind.UpdateExpression m ps h = refl
  code_of-closed Kind.NewExpression m ps h = refl
  code_of-closed Kind.SequenceExpression m ps h = refl
  code_of-closed Kind.ArrayExpression m ps h = refl
  code_of-closed Kind.ObjectExpression m ps h = refl
  code_of-closed Kind.SpreadElement m ps h = refl
  code_of-closed Kind.ImportExpression m ps h = refl
  code_of-closed kind m ps h = class_form_code-closed kind m ps
