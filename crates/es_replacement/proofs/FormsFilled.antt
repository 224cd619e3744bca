-- Generated forms of codes with expressions in their holes whose form is not asked for.
use Rattle.std.specs.Prelude.{◌≡◌, ℕ, List, [], ◌∷◌, Bool, true, false, cond, not, ◌&&◌, nat_eq, codes, bytes_eq, Option, Some, None, option_map, refl}
use Rattle.es_base.specs.Numbered.{is_new}
use Rattle.es_base.specs.declared.kind.Kind.{Kind}
use Rattle.es_base.specs.declared.ledger.GeneratedKind.{GeneratedKind}
use Rattle.es_steps.specs.Code.{initializers, Code, Codes, Target, FunctionForm, CalledBodyOf, no_rule, value, spelled, binding, name, super, member, private_member, assign, construct, super_call, super_call_with_all, sequence, operation, steps, new_function, new_return, from_call, from_member, helper, helper_call, throw, private_initialize, bound, setter, private_value, call_arrow, to_name, to_private, done, and, key_of, to_super}
use Rattle.es_steps.specs.Context.{Context, Changing, Generated, StaticMethod, new_here}
use Rattle.es_steps.specs.Events.{Operand, Spelled, Flag, Key, Opens, Closes, OfKind}
use Rattle.es_steps.specs.GeneratedForms.{is_named, weak_map, static_field, private_function, loose_key, class_named, is_number, is_class_named, is_brand, known_object, is_string, home_of, is_plain_property, single_property, is_writable_form, writable_value, only_operands, array_elements, is_spread, read_private, set_private, is_method_kind, is_getter_kind, is_setter_kind, asserted, initialized_on, brand_on, define_on, super_get, super_set, is_number_literal, is_constant, is_quiet_key, helper_code, is_helper_object, helper_or_none, helper_or, helper_member, branded_field, own_field, setter_on, field_setter, setter_of_pair, setter_of, underscore_of, same_number, loose_member, is_same_key, kept_name, generated_member, with_name, parameter_names, value_or_undefined, ended, opened_body, no_spread, is_plain_arrow, arrow_call, is_pick, with_key, picked, new_function_call, getter_call, received_call, getter_or_received, is_super_itself, super_function_call, called_with, bound_to, has_field, has_brand, loose_initialized, object_call, member_call, new_member_call, initializers_behind, passes_all, super_call_in, super_method_call, helper_call_call, generated_call, is_class_test, generated_binary, is_null, is_undefined, is_new_collection, only_if, is_loose_key_call, field_object, given_function, given, is_own_class, private_assignment, generated_assignment, assigned_value, value_of_private}
use Rattle.es_steps.specs.Helpers.{Helper, DefineProperty, ClassPrivateFieldInitSpec, ClassPrivateMethodInitSpec, ClassPrivateFieldGet2, ClassPrivateFieldSet2, AssertClassBrand, ToSetter, CheckInRHS, ReadOnlyError, WriteOnlyError, SuperPropGet, SuperPropSet, ClassPrivateFieldLooseKey, ClassPrivateFieldLooseBase, SetFunctionName, ToPropertyKey, helper_named}
use Rattle.es_steps.specs.PrivateNames.{PrivateMember, PrivateReference, reference_of}
use Rattle.es_steps.specs.Values.{String, StringOf, BooleanOf, Value, ConstantOf, ClassOf, ResultOf, Free, Home}
use Rattle.std.proofs.Common.{◌∙◌, ap, sym}
use Rattle.es_replacement.specs.Holes.{filled, filled_all, filled_target}
use Rattle.es_replacement.proofs.Unasked.{filled_two, fill-cond, class_named-unasked, known_object-unasked, is_string-unasked, home_of-unasked, is_spread-unasked, brand_on-unasked, is_number_literal-unasked, is_constant-unasked, is_quiet_key-unasked, is_named-unasked, helper_or-unasked, same_key_left-unasked, same_key_name-unasked, same_key_private-unasked, parameter_names-unasked, ended-unasked, ended_ahead-unasked, opened_body-unasked, has_field-unasked, has_brand-unasked, passes_all-unasked, is_null-unasked, is_undefined-unasked, is_loose_key_call-unasked, given_function-unasked, setter_on-unasked, getter_call-unasked, pick_first-unasked, pick_second-unasked, pick_body-unasked, pick_object-unasked, pick_key-unasked, writable_first-unasked, getter_more-unasked, spread-unasked, super_function_call-unasked, private_assignment-unasked, weak_map-unasked, static_field-unasked, private_function-unasked, loose_key-unasked, single_property-unasked, single_first-unasked, writable_value-unasked, array_elements-unasked, is_helper_object-unasked, underscore_of-unasked, loose_member-unasked, setter_of-unasked, member_call-unasked, called_with-unasked, is_new_collection-unasked, generated_binary-unasked}
use Rattle.es_replacement.specs.Unasked.{is_unasked, ends_open}

module _ (first : ℕ) (fill : ℕ → Code) (unasked : (n : ℕ) → is_unasked first (fill n) ≡ true) where
  pub code-cond : (b : Bool) (x y : Code) {v w : Code} → v ≡ filled fill x → w ≡ filled fill y → cond b v w ≡ filled fill (cond b x y)
  code-cond b x y p q = fill-cond (filled fill) b x y p q

  pub cond-code : (b : Bool) (x y : Code) → cond b (filled fill x) (filled fill y) ≡ filled fill (cond b x y)
  cond-code b x y = fill-cond (filled fill) b x y refl refl

  pub class_named-filled : (q : Code) → class_named (filled fill q) ≡ class_named q
  class_named-filled (initializers n) = class_named-unasked first (fill n) (unasked n)
  class_named-filled q = refl

  pub known_object-filled : (q : Code) → known_object (filled fill q) ≡ known_object q
  known_object-filled (initializers n) = known_object-unasked first (fill n) (unasked n)
  known_object-filled q = refl

  pub is_string-filled : (s : String) (q : Code) → is_string s (filled fill q) ≡ is_string s q
  is_string-filled s (initializers n) = is_string-unasked first s (fill n) (unasked n)
  is_string-filled s q = refl

  home_of-filled : (q : Code) → home_of (filled fill q) ≡ home_of q
  home_of-filled (member m o k) = rw (is_string-filled (codes "prototype") k, class_named-filled o) refl
  home_of-filled (initializers n) = home_of-unasked first (fill n) (unasked n)
  home_of-filled q = refl

  is_spread-filled : (q : Code) → is_spread (filled fill q) ≡ is_spread q
  is_spread-filled (operation m (OfKind Kind.SpreadElement ds) es held) = refl
  is_spread-filled (initializers n) = is_spread-unasked first (fill n) (unasked n)
  is_spread-filled q = refl

  read_private-filled : (m : ℕ) (x : Option PrivateMember) (o : Code) → read_private m x (filled fill o) ≡ filled fill (read_private m x o)
  read_private-filled m None o = refl
  read_private-filled m (Some x) o = refl

  assigned_value-filled : (new : Bool) (m : ℕ) (v : Code) → assigned_value new m (filled fill v) ≡ filled fill (assigned_value new m v)
  assigned_value-filled true m v = refl
  assigned_value-filled false m v = refl

  set_private-filled : (new : Bool) (m : ℕ) (x : Option PrivateMember) (o v : Code) → set_private new m x (filled fill o) (filled fill v) ≡ filled fill (set_private new m x o v)
  set_private-filled new m None o v = refl
  set_private-filled new m (Some x) o v = ap (assign (to_private m (reference_of x) (filled fill o))) (assigned_value-filled new m v)

  initialized_on-filled : (m : ℕ) (x : Option PrivateMember) (o : Option Value) (v : Code) → initialized_on m x o (filled fill v) ≡ filled fill (initialized_on m x o v)
  initialized_on-filled m (Some x) (Some o) v = refl
  initialized_on-filled m x o v = refl

  brand_on-filled : (m : ℕ) (q : Code) (o : Option Value) → brand_on m (filled fill q) o ≡ filled fill (brand_on m q o)
  brand_on-filled m (name k s (Generated (GeneratedKind.Brand n))) (Some o) = refl
  brand_on-filled m (initializers n) o = brand_on-unasked first m (fill n) o (unasked n)
  brand_on-filled m q o = refl

  define_on-filled : (m : ℕ) (o : Option Value) (k v : Code) → define_on m o (filled fill k) (filled fill v) ≡ filled fill (define_on m o k v)
  define_on-filled m None k v = refl
  define_on-filled m (Some o) k v = refl

  super_get-filled : (m : ℕ) (home : Option Home) (k : Code) (this : Option Value) → super_get m home (filled fill k) this ≡ filled fill (super_get m home k this)
  super_get-filled m (Some home) k (Some this) = refl
  super_get-filled m home k this = refl

  super_set-filled : (new : Bool) (m : ℕ) (home : Option Home) (k v : Code) (this : Option Value) → super_set new m home (filled fill k) (filled fill v) this ≡ filled fill (super_set new m home k v this)
  super_set-filled new m (Some home) k v (Some this) = ap (assign (to_super m home (filled fill k) this)) (assigned_value-filled new m v)
  super_set-filled new m home k v this = refl

  is_number_literal-filled : (s : String) (q : Code) → is_number_literal s (filled fill q) ≡ is_number_literal s q
  is_number_literal-filled s (initializers n) = is_number_literal-unasked first s (fill n) (unasked n)
  is_number_literal-filled s q = refl

  is_constant-filled : (q : Code) → is_constant (filled fill q) ≡ is_constant q
  is_constant-filled (initializers n) = is_constant-unasked first (fill n) (unasked n)
  is_constant-filled q = refl

  is_quiet_key-filled : (q : Code) → is_quiet_key (filled fill q) ≡ is_quiet_key q
  is_quiet_key-filled (initializers n) = is_quiet_key-unasked first (fill n) (unasked n)
  is_quiet_key-filled q = refl

  with_key-unasked : (q e : Code) → is_unasked first q ≡ true → with_key q e ≡ from_call e
  with_key-unasked (private_value s) e h = absurd (cc)
  with_key-unasked q e h = refl

  with_key-filled : (k e : Code) → with_key (filled fill k) (filled fill e) ≡ filled fill (with_key k e)
  with_key-filled (private_value s) e = refl
  with_key-filled (initializers n) e = with_key-unasked (fill n) (filled fill e) (unasked n)
  with_key-filled k e = refl

  is_named-filled : (q : Code) → is_named (filled fill q) ≡ is_named q
  is_named-filled (initializers n) = is_named-unasked first (fill n) (unasked n)
  is_named-filled q = refl

  helper_or-filled : (b : Bool) (k whole : Code) → helper_or b (filled fill k) (filled fill whole) ≡ filled fill (helper_or b k whole)
  helper_or-filled true (spelled s) whole = found (helper_named s)
    where
      found : (h : Option Helper) → helper_or_none h ≡ filled fill (helper_or_none h)
      found None = refl
      found (Some h) = refl
  helper_or-filled true (initializers n) whole = helper_or-unasked first (fill n) (filled fill whole) (unasked n)
  helper_or-filled true k whole = refl
  helper_or-filled false k whole = refl

  field_setter-filled : (m : ℕ) (x : Option PrivateMember) (o : Code) → field_setter m x (filled fill o) ≡ filled fill (field_setter m x o)
  field_setter-filled m None o = refl
  field_setter-filled m (Some x) o = refl

  own_field-filled : (m : ℕ) (x : Option PrivateMember) → own_field m x ≡ filled fill (own_field m x)
  own_field-filled m None = refl
  own_field-filled m (Some x) = refl

  is_same_key-filled : (k l : Code) → is_same_key (filled fill k) (filled fill l) ≡ is_same_key k l
  is_same_key-filled (value (ConstantOf (StringOf s))) k = is_string-filled s k
  is_same_key-filled (name m s (Generated g)) (name m2 t (Generated g2)) = refl
  is_same_key-filled (private_value s) (private_value t) = refl
  is_same_key-filled (initializers n) l = same_key_left-unasked first (fill n) (filled fill l) (unasked n)
  is_same_key-filled (name m s (Generated g)) (initializers n) = same_key_name-unasked first m s g (fill n) (unasked n)
  is_same_key-filled (private_value s) (initializers n) = same_key_private-unasked first s (fill n) (unasked n)
  is_same_key-filled k l = refl

  kept_name-filled : (key : Code) (p : Option (Code × Code)) (whole : Code) → kept_name (filled fill key) (option_map (filled_two fill) p) (filled fill whole) ≡ filled fill (kept_name key p whole)
  kept_name-filled key (Some p) whole = rw (is_same_key-filled key p.0) (cond-code (is_same_key key p.0) (from_member (from_call (sequence (and p.0 (and p.1 done))))) whole)
  kept_name-filled key None whole = refl

  parameter_names-filled : (ps : Codes) → parameter_names (filled_all fill ps) ≡ parameter_names ps
  parameter_names-filled done = refl
  parameter_names-filled (and (binding b s (Generated GeneratedKind.Param)) cs) = ap (with_name s) (parameter_names-filled cs)
  parameter_names-filled (and (initializers n) cs) = parameter_names-unasked first (fill n) (filled_all fill cs) (unasked n)
  parameter_names-filled (and c cs) = refl

  value_or_undefined-filled : (es : Codes) → value_or_undefined (filled_all fill es) ≡ filled_all fill (value_or_undefined es)
  value_or_undefined-filled done = refl
  value_or_undefined-filled (and c cs) = refl

  ended-filled : (cs : Codes) → ended (filled_all fill cs) ≡ filled_all fill (ended cs)
  ended-filled done = refl
  ended-filled (and (new_return es) done) = value_or_undefined-filled es
  ended-filled (and (new_return es) (and c cs)) = ap (and (new_return (filled_all fill es))) (ended-filled (and c cs))
  ended-filled (and (initializers n) done) = ended-unasked first (fill n) (unasked n)
  ended-filled (and (initializers n) (and c cs)) = ended_ahead-unasked first (fill n) (filled fill c) (filled_all fill cs) ∙ ap (and (fill n)) (ended-filled (and c cs))
  ended-filled (and c cs) = ap (and (filled fill c)) (ended-filled cs)

  pub opened_body-filled : (q : Code) → opened_body (filled fill q) ≡ filled fill (opened_body q)
  opened_body-filled (steps cs) = ap sequence (ended-filled cs)
  opened_body-filled (initializers n) = opened_body-unasked first (fill n) (unasked n)
  opened_body-filled q = refl

  no_spread-filled : (cs : Codes) → no_spread (filled_all fill cs) ≡ no_spread cs
  no_spread-filled done = refl
  no_spread-filled (and c cs) = rw (is_spread-filled c, no_spread-filled cs) refl

  arrow_call-filled : (form : FunctionForm) (names : Option (List String)) (body : Code) (es : Codes) → arrow_call form names (filled fill body) (filled_all fill es) ≡ filled fill (arrow_call form names body es)
  arrow_call-filled form None body es = refl
  arrow_call-filled form (Some names) body es = rw (no_spread-filled es, opened_body-filled body) (cond-code (is_plain_arrow form && no_spread es) (call_arrow names (opened_body body) es) no_rule)

  picked-filled : (k : Code) (p : Option (Code × Code)) → picked (filled fill k) (option_map (filled_two fill) p) ≡ filled fill (picked k p)
  picked-filled k (Some p) = rw (is_same_key-filled k p.0, with_key-filled k p.1) (cond-code (is_same_key k p.0) (with_key k p.1) no_rule)
  picked-filled k None = refl

  received_call-filled : (m : ℕ) (g : Code) (es : Codes) → received_call m (filled fill g) (filled_all fill es) ≡ filled fill (received_call m g es)
  received_call-filled m g (and o es) = refl
  received_call-filled m g done = refl

  bound_to-filled : (g : Code) (es : Codes) → bound_to (filled fill g) (filled_all fill es) ≡ filled fill (bound_to g es)
  bound_to-filled g done = refl
  bound_to-filled g (and o done) = refl
  bound_to-filled g (and o (and c cs)) = refl

  has_field-filled : (m : ℕ) (x : Option PrivateMember) (es : Codes) → has_field m x (filled_all fill es) ≡ filled fill (has_field m x es)
  has_field-filled m (Some x) (and (helper_call k CheckInRHS (and o done)) done) = refl
  has_field-filled m x (and (initializers n) cs) = has_field-unasked first m x (fill n) (filled_all fill cs) (unasked n) ∙ sym (none x)
    where
      none : (x : Option PrivateMember) → filled fill (has_field m x (and (initializers n) cs)) ≡ no_rule
      none None = refl
      none (Some y) = refl
  has_field-filled m None es = refl
  has_field-filled m (Some x) es = refl

  has_brand-filled : (m n : ℕ) (es : Codes) → has_brand m n (filled_all fill es) ≡ filled fill (has_brand m n es)
  has_brand-filled m n (and (helper_call k CheckInRHS (and o done)) done) = refl
  has_brand-filled m n (and (initializers k) cs) = has_brand-unasked first m n (fill k) (filled_all fill cs) (unasked k)
  has_brand-filled m n es = refl

  loose_initialized-filled : (m : ℕ) (x : Option PrivateMember) (o : Option Value) (v : Option Code) (whole : Code) → loose_initialized m x o (option_map (filled fill) v) (filled fill whole) ≡ filled fill (loose_initialized m x o v whole)
  loose_initialized-filled m (Some x) (Some o) (Some v) whole = refl
  loose_initialized-filled m None o v whole = refl
  loose_initialized-filled m x o v whole = refl

  passes_all-filled : (t : String) (es : Codes) → passes_all t (filled_all fill es) ≡ passes_all t es
  passes_all-filled t (and (operation m (OfKind Kind.SpreadElement ds) (and (name k s (Generated GeneratedKind.Args)) done) done) done) = refl
  passes_all-filled t (and (operation m (OfKind Kind.SpreadElement ds) (and (initializers n) es) held) cs) = spread-unasked first t m ds (fill n) (filled_all fill es) (filled_all fill held) (filled_all fill cs) (unasked n)
  passes_all-filled t (and (initializers n) cs) = passes_all-unasked first t (fill n) (filled_all fill cs) (unasked n)
  passes_all-filled t es = refl

  super_method_call-filled : (m k : ℕ) (home : Option Home) (key : Code) (this : Option Value) (es : Option Codes) → super_method_call m k home (filled fill key) this (option_map (filled_all fill) es) ≡ filled fill (super_method_call m k home key this es)
  super_method_call-filled m k (Some home) key (Some this) (Some es) = refl
  super_method_call-filled m k home key this es = refl

  is_class_test-filled : (m : ℕ) (n : Option ℕ) (o : Code) → is_class_test m n (filled fill o) ≡ filled fill (is_class_test m n o)
  is_class_test-filled m None o = refl
  is_class_test-filled m (Some n) o = refl

  pub is_null-filled : (q : Code) → is_null (filled fill q) ≡ is_null q
  is_null-filled (initializers n) = is_null-unasked first (fill n) (unasked n)
  is_null-filled q = refl

  pub is_undefined-filled : (q : Code) → is_undefined (filled fill q) ≡ is_undefined q
  is_undefined-filled (initializers n) = is_undefined-unasked first (fill n) (unasked n)
  is_undefined-filled q = refl

  only_if-filled : (b : Bool) (m : ℕ) → only_if b m ≡ filled fill (only_if b m)
  only_if-filled true m = refl
  only_if-filled false m = refl

  is_loose_key_call-filled : (q : Code) → is_loose_key_call (filled fill q) ≡ is_loose_key_call q
  is_loose_key_call-filled (helper_call k ClassPrivateFieldLooseKey (and s done)) = is_constant-filled s
  is_loose_key_call-filled (initializers n) = is_loose_key_call-unasked first (fill n) (unasked n)
  is_loose_key_call-filled q = refl

  field_object-filled : (m : ℕ) (x : Option PrivateMember) (p : Option (Code × Code)) → field_object m x (option_map (filled_two fill) p) ≡ filled fill (field_object m x p)
  field_object-filled m (Some x) (Some p) = rw (is_string-filled (codes "_") p.0) (cond-code (is_string (codes "_") p.0) (private_initialize m x.number (ClassOf x.class) p.1) no_rule)
  field_object-filled m x p = refl

  given_function-filled : (m : ℕ) (s : String) (g : GeneratedKind) (q : Code) → given_function m s g (filled fill q) ≡ filled fill (given_function m s g q)
  given_function-filled m s g (initializers n) = given_function-unasked first m s g (fill n) (unasked n)
  given_function-filled m s g q = refl

  is_class_named-filled : (n : ℕ) (q : Code) → is_class_named n (filled fill q) ≡ is_class_named n q
  is_class_named-filled n q = ap (is_number n) (class_named-filled q)

  is_brand-filled : (x : PrivateMember) (q : Code) → is_brand x (filled fill q) ≡ is_brand x q
  is_brand-filled x (initializers n) = brand-unasked (fill n) (unasked n)
    where
      brand-unasked : (q : Code) → is_unasked first q ≡ true → is_brand x q ≡ is_brand x (initializers n)
      brand-unasked (name m s kind) h = absurd (cc)
      brand-unasked q h = refl
  is_brand-filled x q = refl

  asserted-filled : (m : ℕ) (x : Option PrivateMember) (q o whole : Code) → asserted m x (filled fill q) (filled fill o) (filled fill whole) ≡ filled fill (asserted m x q o whole)
  asserted-filled m None q o whole = refl
  asserted-filled m (Some x) q o whole = rw (is_brand-filled x q) (cond-code (is_method_kind x.kind && is_brand x q) (from_call (private_member m (reference_of x) o)) no_rule)

  branded_field-filled : (m : ℕ) (x : Option PrivateMember) (z o : Code) → branded_field m x (filled fill z) (filled fill o) ≡ filled fill (branded_field m x z o)
  branded_field-filled m None z o = refl
  branded_field-filled m (Some x) z o = rw (is_class_named-filled x.class z) (cond-code (is_class_named x.class z) (from_member (private_member m (reference_of x) o)) no_rule)

  setter_on-filled : (m : ℕ) (x : Option PrivateMember) (o : Code) → setter_on m x (filled fill o) ≡ filled fill (setter_on m x o)
  setter_on-filled m None o = refl
  setter_on-filled m (Some x) (helper_call k AssertClassBrand (and q (and o done))) = rw (is_brand-filled x q) (cond-code (is_setter_kind x.kind && is_brand x q) (setter m x.number o) no_rule)
  setter_on-filled m (Some x) (initializers n) = setter_on-unasked first m x (fill n) (unasked n) ∙ sym (by (is_setter_kind x.kind) x.is_static)
    where
      by : (b d : Bool) → filled fill (cond (b && (d && false)) (setter m x.number (initializers n)) no_rule) ≡ no_rule
      by true true = refl
      by true false = refl
      by false d = refl
  setter_on-filled m (Some x) o = rw (is_class_named-filled x.class o) (cond-code (is_setter_kind x.kind && (x.is_static && is_class_named x.class o)) (setter m x.number o) no_rule)

  getter_call-filled : (m : ℕ) (x : PrivateMember) (es : Codes) → getter_call m x (filled_all fill es) ≡ filled fill (getter_call m x es)
  getter_call-filled m x (and (helper_call k AssertClassBrand (and q (and o done))) done) = rw (is_brand-filled x q) (cond-code (is_brand x q) (from_call (private_member m (reference_of x) o)) no_rule)
  getter_call-filled m x (and (initializers n) done) = getter_call-unasked first m x (fill n) (unasked n) ∙ sym (by x.is_static)
    where
      by : (d : Bool) → filled fill (cond (d && false) (from_call (private_member m (reference_of x) (initializers n))) no_rule) ≡ no_rule
      by true = refl
      by false = refl
  getter_call-filled m x (and (initializers n) (and c cs)) = getter_more-unasked first m x (fill n) (filled fill c) (filled_all fill cs) (unasked n)
  getter_call-filled m x (and o done) = rw (is_class_named-filled x.class o) (cond-code (x.is_static && is_class_named x.class o) (from_call (private_member m (reference_of x) o)) no_rule)
  getter_call-filled m x es = refl

  getter_or_received-filled : (m : ℕ) (x : Option PrivateMember) (g : Code) (es : Codes) → getter_or_received m x (filled fill g) (filled_all fill es) ≡ filled fill (getter_or_received m x g es)
  getter_or_received-filled m (Some x) g es = code-cond (is_getter_kind x.kind) (getter_call m x es) (received_call m g es) (getter_call-filled m x es) (received_call-filled m g es)
  getter_or_received-filled m None g es = received_call-filled m g es

  super_function_call-filled : (m n : ℕ) (s : String) (es : Codes) → super_function_call m n s (filled_all fill es) ≡ filled fill (super_function_call m n s es)
  super_function_call-filled m n s (and (super_call k n2 behind es) done) = cond-code (nat_eq n n2 && is_super_itself behind) (super_call m n (Some (CalledBodyOf s)) es) no_rule
  super_function_call-filled m n s (and (initializers k) cs) = super_function_call-unasked first m n s (fill k) (filled_all fill cs) (unasked k)
  super_function_call-filled m n s es = refl

  is_own_class-filled : (x : PrivateReference) (o : Code) → is_own_class x (filled fill o) ≡ is_own_class x o
  is_own_class-filled x (initializers n) = own-unasked (fill n) (unasked n)
    where
      own-unasked : (q : Code) → is_unasked first q ≡ true → is_own_class x q ≡ false
      own-unasked (value v) h = absurd (cc)
      own-unasked q h = refl
  is_own_class-filled x o = refl

  value_of_private-filled : (w : Option ℕ) (new : Bool) (m : ℕ) (v : Code) → value_of_private w new m (filled fill v) ≡ filled fill (value_of_private w new m v)
  value_of_private-filled None new m v = refl
  value_of_private-filled (Some d) new m v = assigned_value-filled new m v

  private_assignment-filled : (new : Bool) (m k : ℕ) (x : PrivateReference) (o v : Code) → private_assignment new m k x (filled fill o) (filled fill v) ≡ filled fill (private_assignment new m k x o v)
  private_assignment-filled new m k x own (helper_call j AssertClassBrand (and z (and o (and v done)))) =
      rw (is_own_class-filled x own, is_class_named-filled x.class z, value_of_private-filled x.writes new m v) (cond-code (is_own_class x own && is_class_named x.class z) (assign (to_private k x o) (value_of_private x.writes new m v)) no_rule)
  private_assignment-filled new m k x o (initializers n) =
      private_assignment-unasked first new m k x (filled fill o) (fill n) (unasked n) ∙ ap (assign (to_private k x (filled fill o))) (value_of_private-filled x.writes new m (initializers n))
  private_assignment-filled new m k x o v = ap (assign (to_private k x (filled fill o))) (value_of_private-filled x.writes new m v)

  is_pick-filled : (ps : Codes) (body : Code) → is_pick (filled_all fill ps) (filled fill body) ≡ is_pick ps body
  is_pick-filled (and (initializers n) cs) body = pick_first-unasked first (fill n) (filled_all fill cs) (filled fill body) (unasked n)
  is_pick-filled (and (binding b p (Generated GeneratedKind.Param)) (and (initializers n) cs)) body = pick_second-unasked first b p (fill n) (filled_all fill cs) (filled fill body) (unasked n)
  is_pick-filled (and (binding b p (Generated GeneratedKind.Param)) (and (binding b2 q (Generated GeneratedKind.Param)) done)) (initializers n) = pick_body-unasked first b b2 p q (fill n) (unasked n)
  is_pick-filled (and (binding b p (Generated GeneratedKind.Param)) (and (binding b2 q (Generated GeneratedKind.Param)) done)) (member m (initializers n) key) = pick_object-unasked first b b2 p q m (fill n) (filled fill key) (unasked n)
  is_pick-filled (and (binding b p (Generated GeneratedKind.Param)) (and (binding b2 q (Generated GeneratedKind.Param)) done)) (member m (name k s (Generated g)) (initializers n)) = pick_key-unasked first b b2 p q m k s g (fill n) (unasked n)
  is_pick-filled ps body = refl

module _ (c : Context) (fill : ℕ → Code) (unasked : (n : ℕ) → is_unasked c.first_new (fill n) ≡ true) where
  -- ---- letters

  weak_map-filled : (q : Code) → weak_map c (filled fill q) ≡ weak_map c q
  weak_map-filled (initializers n) = weak_map-unasked c (fill n) (unasked n)
  weak_map-filled q = refl

  static_field-filled : (q : Code) → static_field c (filled fill q) ≡ static_field c q
  static_field-filled (initializers n) = static_field-unasked c (fill n) (unasked n)
  static_field-filled q = refl

  private_function-filled : (q : Code) → private_function c (filled fill q) ≡ private_function c q
  private_function-filled (initializers n) = private_function-unasked c (fill n) (unasked n)
  private_function-filled q = refl

  loose_key-filled : (q : Code) → loose_key c (filled fill q) ≡ loose_key c q
  loose_key-filled (initializers n) = loose_key-unasked c (fill n) (unasked n)
  loose_key-filled q = refl

  -- ---- objects

  single_property-filled : (q : Code) → single_property c (filled fill q) ≡ option_map (filled_two fill) (single_property c q)
  single_property-filled (operation m (OfKind Kind.ObjectExpression (Opens ∷ Key k ∷ Operand ∷ Spelled kind ∷ Flag is_method ∷ Closes ∷ [])) (and v done) done) = fill-cond (option_map (filled_two fill)) (is_new c.first_new m && is_plain_property kind is_method) (Some (value (ConstantOf k), v)) None refl refl
  single_property-filled (operation m (OfKind Kind.ObjectExpression (Opens ∷ Operand ∷ Operand ∷ Spelled kind ∷ Flag is_method ∷ Closes ∷ [])) (and (key_of k) (and v done)) done) = fill-cond (option_map (filled_two fill)) (is_new c.first_new m && is_plain_property kind is_method) (Some (k, v)) None refl refl
  single_property-filled (operation m (OfKind Kind.ObjectExpression (Opens ∷ Operand ∷ Operand ∷ Spelled kind ∷ Flag is_method ∷ Closes ∷ [])) (and (initializers n) es) held) = rw (single_first-unasked c m kind is_method (fill n) (filled_all fill es) (filled_all fill held) (unasked n)) refl
  single_property-filled (initializers n) = rw (single_property-unasked c (fill n) (unasked n)) refl
  single_property-filled q = refl

  writable_value-filled : (q : Code) → writable_value c (filled fill q) ≡ option_map (filled fill) (writable_value c q)
  writable_value-filled (operation m (OfKind Kind.ObjectExpression (Opens ∷ Key (StringOf k1) ∷ Operand ∷ Spelled kind1 ∷ Flag method1 ∷ Key (StringOf k2) ∷ Operand ∷ Spelled kind2 ∷ Flag method2 ∷ Closes ∷ [])) (and (value (ConstantOf (BooleanOf true))) (and v done)) done) = fill-cond (option_map (filled fill)) (is_new c.first_new m && is_writable_form k1 kind1 method1 k2 kind2 method2) (Some v) None refl refl
  writable_value-filled (operation m (OfKind Kind.ObjectExpression (Opens ∷ Key (StringOf k1) ∷ Operand ∷ Spelled kind1 ∷ Flag method1 ∷ Key (StringOf k2) ∷ Operand ∷ Spelled kind2 ∷ Flag method2 ∷ Closes ∷ [])) (and (initializers n) es) held) = rw (writable_first-unasked c m k1 kind1 method1 k2 kind2 method2 (fill n) (filled_all fill es) (filled_all fill held) (unasked n)) refl
  writable_value-filled (initializers n) = rw (writable_value-unasked c (fill n) (unasked n)) refl
  writable_value-filled q = refl

  array_elements-filled : (q : Code) → array_elements c (filled fill q) ≡ option_map (filled_all fill) (array_elements c q)
  array_elements-filled (operation m (OfKind Kind.ArrayExpression (Opens ∷ ds)) es done) = fill-cond (option_map (filled_all fill)) (is_new c.first_new m && only_operands ds) (Some es) None refl refl
  array_elements-filled (initializers n) = rw (array_elements-unasked c (fill n) (unasked n)) refl
  array_elements-filled q = refl

  -- ---- helpers

  helper_code-filled : (m : ℕ) (h : Helper) (es : Codes) → helper_code c m h (filled_all fill es) ≡ filled fill (helper_code c m h es)
  helper_code-filled m ClassPrivateFieldGet2 (and w (and o done)) = rw (weak_map-filled w) (ap from_call (read_private-filled c.first_new fill unasked m (weak_map c w) o))
  helper_code-filled m ClassPrivateFieldSet2 (and w (and o (and v done))) = rw (weak_map-filled w) (set_private-filled c.first_new fill unasked (new_here c m) m (weak_map c w) o v)
  helper_code-filled m AssertClassBrand (and q (and o (and g done))) = rw (private_function-filled g) (asserted-filled c.first_new fill unasked m (private_function c g) q o (helper_call m AssertClassBrand (and q (and o (and g done)))))
  helper_code-filled m ReadOnlyError (and s done) = rw (is_constant-filled c.first_new fill unasked s) (cond-code c.first_new fill unasked (is_constant s) throw no_rule)
  helper_code-filled m WriteOnlyError (and s done) = rw (is_constant-filled c.first_new fill unasked s) (cond-code c.first_new fill unasked (is_constant s) throw no_rule)
  helper_code-filled m ClassPrivateFieldInitSpec (and o (and w (and v done))) = rw (weak_map-filled w, known_object-filled c.first_new fill unasked o) (initialized_on-filled c.first_new fill unasked m (weak_map c w) (known_object o) v)
  helper_code-filled m ClassPrivateMethodInitSpec (and o (and q done)) = rw (known_object-filled c.first_new fill unasked o) (brand_on-filled c.first_new fill unasked m q (known_object o))
  helper_code-filled m DefineProperty (and o (and k (and v done))) = rw (known_object-filled c.first_new fill unasked o) (define_on-filled c.first_new fill unasked m (known_object o) k v)
  helper_code-filled m SuperPropGet (and h (and k (and x done))) = rw (home_of-filled c.first_new fill unasked h, known_object-filled c.first_new fill unasked x) (super_get-filled c.first_new fill unasked m (home_of h) k (known_object x))
  helper_code-filled m SuperPropSet (and h (and k (and v (and x (and n done))))) = rw (is_number_literal-filled c.first_new fill unasked (codes "1") n, home_of-filled c.first_new fill unasked h, known_object-filled c.first_new fill unasked x) (code-cond c.first_new fill unasked (is_number_literal (codes "1") n) (super_set (new_here c m) m (home_of h) k v (known_object x)) no_rule (super_set-filled c.first_new fill unasked (new_here c m) m (home_of h) k v (known_object x)) refl)
  helper_code-filled m ToPropertyKey (and k done) = refl
  helper_code-filled m SetFunctionName (and g (and k done)) = rw (is_named-filled c.first_new fill unasked g, is_quiet_key-filled c.first_new fill unasked k, with_key-filled c.first_new fill unasked k g) (cond-code c.first_new fill unasked (is_named g && is_quiet_key k) (with_key k g) no_rule)
  helper_code-filled m h es = refl

  is_helper_object-filled : (o : Code) → is_helper_object c (filled fill o) ≡ is_helper_object c o
  is_helper_object-filled (initializers n) = is_helper_object-unasked c (fill n) (unasked n)
  is_helper_object-filled o = refl

  pub helper_member-filled : (computed : Bool) (o k whole : Code) → helper_member c computed (filled fill o) (filled fill k) (filled fill whole) ≡ filled fill (helper_member c computed o k whole)
  helper_member-filled computed o k whole = rw (is_helper_object-filled o) (helper_or-filled c.first_new fill unasked (is_helper_object c o && not computed) k whole)

  -- ---- members

  setter_of_pair-filled : (m : ℕ) (es : Option Codes) → setter_of_pair c m (option_map (filled_all fill) es) ≡ filled fill (setter_of_pair c m es)
  setter_of_pair-filled m (Some (and w (and o done))) = rw (weak_map-filled w) (field_setter-filled c.first_new fill unasked m (weak_map c w) o)
  setter_of_pair-filled m es = refl

  setter_of-filled : (m : ℕ) (es : Codes) → setter_of c m (filled_all fill es) ≡ filled fill (setter_of c m es)
  setter_of-filled m (and (bound g o) done) = rw (private_function-filled g) (setter_on-filled c.first_new fill unasked m (private_function c g) o)
  setter_of-filled m (and (helper ClassPrivateFieldSet2) (and pair done)) = rw (array_elements-filled pair) (setter_of_pair-filled m (array_elements c pair))
  setter_of-filled m (and (initializers n) cs) = setter_of-unasked c m (fill n) (filled_all fill cs) (unasked n)
  setter_of-filled m es = refl

  underscore_of-filled : (m : ℕ) (o whole : Code) → underscore_of c m (filled fill o) (filled fill whole) ≡ filled fill (underscore_of c m o whole)
  underscore_of-filled m (helper_call k AssertClassBrand (and z (and o (and g done)))) whole = rw (static_field-filled g) (branded_field-filled c.first_new fill unasked m (static_field c g) z o)
  underscore_of-filled m (helper_call k ToSetter es) whole = setter_of-filled m es
  underscore_of-filled m (name k s (Generated (GeneratedKind.StaticField d))) whole = own_field-filled c.first_new fill unasked m (static_field c (name k s (Generated (GeneratedKind.StaticField d))))
  underscore_of-filled m (initializers n) whole = underscore_of-unasked c m (fill n) (filled fill whole) (unasked n)
  underscore_of-filled m o whole = refl

  loose_member-filled : (m : ℕ) (o key whole : Code) → loose_member c m (filled fill o) (filled fill key) (filled fill whole) ≡ filled fill (loose_member c m o key whole)
  loose_member-filled m (helper_call k ClassPrivateFieldLooseBase (and o (and l done))) key whole =
      rw (loose_key-filled l, loose_key-filled key)
      (code-cond c.first_new fill unasked (same_number (loose_key c l) (loose_key c key)) (read_private m (loose_key c key) o) no_rule (read_private-filled c.first_new fill unasked m (loose_key c key) o) refl)
  loose_member-filled m (initializers n) key whole = loose_member-unasked c m (fill n) (filled fill key) (filled fill whole) (unasked n)
  loose_member-filled m o key whole = refl

  pub generated_member-filled : (m : ℕ) (o k whole : Code) → generated_member c m (filled fill o) (filled fill k) (filled fill whole) ≡ filled fill (generated_member c m o k whole)
  generated_member-filled m o k whole =
      rw (is_string-filled c.first_new fill unasked (codes "_") k, single_property-filled o, kept_name-filled c.first_new fill unasked k (single_property c o) whole)
      (code-cond c.first_new fill unasked (is_string (codes "_") k) (underscore_of c m o whole) (loose_member c m o k (kept_name k (single_property c o) whole)) (underscore_of-filled m o whole) (loose_member-filled m o k (kept_name k (single_property c o) whole)))

  -- ---- calls

  new_function_call-filled : (form : FunctionForm) (ps : Codes) (body : Code) (es : Codes) → new_function_call c form (filled_all fill ps) (filled fill body) (filled_all fill es) ≡ filled fill (new_function_call c form ps body es)
  new_function_call-filled form ps body (and k (and o done)) =
      rw (is_pick-filled c.first_new fill unasked ps body, single_property-filled o, parameter_names-filled c.first_new fill unasked ps)
      (code-cond c.first_new fill unasked (is_plain_arrow form && is_pick ps body) (picked k (single_property c o)) (arrow_call form (parameter_names ps) body (and k (and o done))) (picked-filled c.first_new fill unasked k (single_property c o)) (arrow_call-filled c.first_new fill unasked form (parameter_names ps) body (and k (and o done))))
  new_function_call-filled form ps body es = rw (parameter_names-filled c.first_new fill unasked ps) (arrow_call-filled c.first_new fill unasked form (parameter_names ps) body es)

  called_with-filled : (m : ℕ) (g : Code) (es : Codes) → called_with c m (filled fill g) (filled_all fill es) ≡ filled fill (called_with c m g es)
  called_with-filled m (name k s (Generated (GeneratedKind.SuperFn n))) es = super_function_call-filled c.first_new fill unasked m n.0 s es
  called_with-filled m (initializers n) es = called_with-unasked c m (fill n) (filled_all fill es) (unasked n) ∙ received_call-filled c.first_new fill unasked m (initializers n) es
  called_with-filled m g es = ap (λ x. getter_or_received m x (filled fill g) (filled_all fill es)) (private_function-filled g) ∙ getter_or_received-filled c.first_new fill unasked m (private_function c g) g es

  object_call-filled : (m : ℕ) (es : Codes) (whole : Code) → object_call c m (filled_all fill es) (filled fill whole) ≡ filled fill (object_call c m es whole)
  object_call-filled m (and o (and l (and form done))) whole = rw (loose_key-filled l, known_object-filled c.first_new fill unasked o, writable_value-filled form) (loose_initialized-filled c.first_new fill unasked m (loose_key c l) (known_object o) (writable_value c form) whole)
  object_call-filled m es whole = refl

  member_call-filled : (m : ℕ) (o key : Code) (es : Codes) (whole : Code) → member_call c m (filled fill o) (filled fill key) (filled_all fill es) (filled fill whole) ≡ filled fill (member_call c m o key es whole)
  member_call-filled m (name k s (Generated (GeneratedKind.WeakMap d))) key es whole =
      let w : Code = name k s (Generated (GeneratedKind.WeakMap d)) in
      rw (is_string-filled c.first_new fill unasked (codes "has") key) (code-cond c.first_new fill unasked (is_string (codes "has") key) (has_field m (weak_map c w) es) no_rule (has_field-filled c.first_new fill unasked m (weak_map c w) es) refl)
  member_call-filled m (name k s (Generated (GeneratedKind.Brand n))) key es whole = rw (is_string-filled c.first_new fill unasked (codes "has") key) (code-cond c.first_new fill unasked (is_string (codes "has") key) (has_brand m n.0 es) no_rule (has_brand-filled c.first_new fill unasked m n.0 es) refl)
  member_call-filled m (name k s (Changing (Free spelling))) key es whole = rw (is_string-filled c.first_new fill unasked (codes "defineProperty") key) (code-cond c.first_new fill unasked (bytes_eq s (codes "Object") && is_string (codes "defineProperty") key) (object_call c m es whole) whole (object_call-filled m es whole) refl)
  member_call-filled m (initializers n) key es whole = member_call-unasked c m (fill n) (filled fill key) (filled_all fill es) (filled fill whole) (unasked n)
  member_call-filled m o key es whole = refl

  new_member_call-filled : (m k : ℕ) (g key : Code) (es : Codes) (whole : Code) → new_member_call c m k (filled fill g) (filled fill key) (filled_all fill es) (filled fill whole) ≡ filled fill (new_member_call c m k g key es whole)
  new_member_call-filled m k g key es whole =
      rw (is_string-filled c.first_new fill unasked (codes "call") key, is_string-filled c.first_new fill unasked (codes "bind") key)
      (code-cond c.first_new fill unasked (is_new c.first_new k && is_string (codes "call") key) (called_with c m g es) (cond (is_new c.first_new k && is_string (codes "bind") key) (bound_to g es) (member_call c m g key es whole))
      (called_with-filled m g es)
      (code-cond c.first_new fill unasked (is_new c.first_new k && is_string (codes "bind") key) (bound_to g es) (member_call c m g key es whole) (bound_to-filled c.first_new fill unasked g es) (member_call-filled m g key es whole)))

  super_call_in-filled : (m : ℕ) (n : Option ℕ) (es : Codes) → super_call_in c m n (filled_all fill es) ≡ filled fill (super_call_in c m n es)
  super_call_in-filled m None es = refl
  super_call_in-filled m (Some n) es = rw (passes_all-filled c.first_new fill unasked c.rest_name es) (cond-code c.first_new fill unasked (passes_all c.rest_name es) (super_call_with_all n) (super_call m n (initializers_behind c m n) es))

  helper_call_call-filled : (m k : ℕ) (h : Helper) (arguments es : Codes) → helper_call_call c m k h (filled_all fill arguments) (filled_all fill es) ≡ filled fill (helper_call_call c m k h arguments es)
  helper_call_call-filled m k SuperPropGet (and h (and key (and x (and two done)))) (and form done) =
      rw (is_number_literal-filled c.first_new fill unasked (codes "2") two, home_of-filled c.first_new fill unasked h, known_object-filled c.first_new fill unasked x, array_elements-filled form)
      (code-cond c.first_new fill unasked (is_number_literal (codes "2") two) (super_method_call m k (home_of h) key (known_object x) (array_elements c form)) no_rule (super_method_call-filled c.first_new fill unasked m k (home_of h) key (known_object x) (array_elements c form)) refl)
  helper_call_call-filled m k h arguments es = refl

  pub generated_call-filled : (m : ℕ) (g : Code) (es : Codes) (whole : Code) → ends_open g ≡ false → generated_call c m (filled fill g) (filled_all fill es) (filled fill whole) ≡ filled fill (generated_call c m g es whole)
  generated_call-filled m (helper h) es whole closed = helper_code-filled m h es
  generated_call-filled m (helper_call k h arguments) es whole closed = helper_call_call-filled m k h arguments es
  generated_call-filled m super es whole closed = super_call_in-filled m c.constructs es
  generated_call-filled m (member k o key) es whole closed = new_member_call-filled m k o key es whole
  generated_call-filled m (name k s (Generated GeneratedKind.Closure)) es whole closed = refl
  generated_call-filled m (name k s (Generated (GeneratedKind.SuperFn n))) es whole closed = refl
  generated_call-filled m (new_function g form ps body) es whole closed = new_function_call-filled form ps body es
  generated_call-filled m (initializers n) es whole closed = absurd (cc)
  generated_call-filled m g es whole closed = refl

  -- ---- operators

  pub generated_binary-filled : (m : ℕ) (operator : String) (l x whole : Code) → generated_binary c m operator (filled fill l) (filled fill x) (filled fill whole) ≡ filled fill (generated_binary c m operator l x whole)
  generated_binary-filled m operator (helper_call k CheckInRHS (and o done)) x whole = rw (class_named-filled c.first_new fill unasked x) (code-cond c.first_new fill unasked (bytes_eq operator (codes "===")) (is_class_test m (class_named x) o) no_rule (is_class_test-filled c.first_new fill unasked m (class_named x) o) refl)
  generated_binary-filled m operator (name k s (Generated GeneratedKind.Temp)) x whole = rw (is_string-filled c.first_new fill unasked (codes "name") x) (cond-code c.first_new fill unasked (is_new c.first_new m && (bytes_eq operator (codes "!==") && is_string (codes "name") x)) (value (ResultOf m)) whole)
  generated_binary-filled m operator (initializers n) x whole = generated_binary-unasked c m operator (fill n) (filled fill x) (filled fill whole) (unasked n)
  generated_binary-filled m operator l x whole = refl

  -- ---- what generated names are assigned

  is_new_collection-filled : (s : String) (q : Code) → is_new_collection c s (filled fill q) ≡ is_new_collection c s q
  is_new_collection-filled s (construct m (initializers n) es) = callee-unasked (fill n) (unasked n)
    where
      callee-unasked : (q : Code) → is_unasked c.first_new q ≡ true → is_new_collection c s (construct m q (filled_all fill es)) ≡ false
      callee-unasked (name k t kind) h = absurd (cc)
      callee-unasked q h = refl
  is_new_collection-filled s (construct m (name k t (Changing (Free spelling))) done) = refl
  is_new_collection-filled s (construct m (name k t (Changing (Free spelling))) (and e es)) = refl
  is_new_collection-filled s (initializers n) = is_new_collection-unasked c s (fill n) (unasked n)
  is_new_collection-filled s q = refl

  pub given-filled : (m b : ℕ) (s : String) (g : GeneratedKind) (q : Code) → given c m b s g (filled fill q) ≡ filled fill (given c m b s g q)
  given-filled m b s GeneratedKind.Temp q = refl
  given-filled m b s GeneratedKind.Param q = refl
  given-filled m b s (GeneratedKind.ClassTemp n) q = refl
  given-filled m b s (GeneratedKind.WeakMap d) q = rw (is_new_collection-filled (codes "WeakMap") q) (only_if-filled c.first_new fill unasked (is_new_collection c (codes "WeakMap") q) m)
  given-filled m b s (GeneratedKind.StaticField d) q =
      let x : Code = name b s (Generated (GeneratedKind.StaticField d)) in
      rw (single_property-filled q) (field_object-filled c.first_new fill unasked m (static_field c x) (single_property c q))
  given-filled m b s (GeneratedKind.Brand n) q = rw (is_new_collection-filled (codes "WeakSet") q) (only_if-filled c.first_new fill unasked (is_new_collection c (codes "WeakSet") q) m)
  given-filled m b s (GeneratedKind.LooseKey d) q = rw (is_loose_key_call-filled c.first_new fill unasked q) (only_if-filled c.first_new fill unasked (is_loose_key_call q) m)
  given-filled m b s (GeneratedKind.Method d) q = given_function-filled c.first_new fill unasked m s (GeneratedKind.Method d) q
  given-filled m b s (GeneratedKind.SuperFn n) q = given_function-filled c.first_new fill unasked m s (GeneratedKind.SuperFn n) q
  given-filled m b s GeneratedKind.Closure q = given_function-filled c.first_new fill unasked m s GeneratedKind.Closure q
  given-filled m b s g q = refl

  pub generated_assignment-filled : (m : ℕ) (to : Target) (q : Code) → generated_assignment c m (filled_target fill to) (filled fill q) ≡ filled fill (generated_assignment c m to q)
  generated_assignment-filled m (to_name b s (Generated g)) q = given-filled m b s g q
  generated_assignment-filled m (to_name b s (StaticMethod d n)) q = given_function-filled c.first_new fill unasked m s (GeneratedKind.Method (record { 0 = d })) q
  generated_assignment-filled m (to_private k x o) q = private_assignment-filled c.first_new fill unasked (new_here c m) m k x o q
  generated_assignment-filled m to q = ap (assign (filled_target fill to)) (assigned_value-filled c.first_new fill unasked (new_here c m) m q)
