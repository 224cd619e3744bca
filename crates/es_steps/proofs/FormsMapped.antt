-- Generated forms follow a change of numbers.
use Rattle.std.specs.Prelude.{◌≡◌, ℕ, List, [], ◌∷◌, Bool, true, false, cond, not, ◌&&◌, nat_eq, codes, bytes_eq, Option, Some, None}
use Rattle.std.proofs.Common.{refl, ap, ◌∙◌, ap₂}
use Rattle.es_base.specs.Numbered.{is_new}
use Rattle.es_base.specs.declared.kind.Kind.{Kind}
use Rattle.es_base.specs.declared.ledger.GeneratedKind.{GeneratedKind}
use Rattle.es_steps.specs.Code.{Code, Opened, Codes, Target, FunctionForm, InitializersOf, CalledBodyOf, no_rule, value, spelled, binding, name, super, member, private_member, assign, construct, super_call, super_call_with_all, sequence, logical, operation, steps, function, new_function, new_return, class_code, from_call, from_member, helper, helper_call, throw, private_initialize, bound, setter, private_value, call_arrow, to_name, to_private, done, and, key_of, to_super}
use Rattle.es_steps.specs.Context.{Context, Changing, MeansClass, Generated, StaticMethod, new_here}
use Rattle.es_steps.specs.Events.{Operand, Spelled, Flag, Key, Opens, Closes, OfKind}
use Rattle.es_steps.specs.GeneratedForms.{if_kept, is_named, if_member, is_instance_field, is_static_field, is_function_member, weak_map, static_field, private_function, loose_key, class_named, is_number, is_class_named, is_brand, class_value, known_object, class_home, prototype_home, is_string, home_of, is_plain_property, single_property, is_writable_form, writable_value, only_operands, array_elements, is_spread, read_private, assigned_value, set_private, is_method_kind, is_getter_kind, is_setter_kind, asserted, initialized_on, brand_on, define_on, super_get, super_set, is_number_literal, is_constant, is_quiet_key, with_key, helper_code, is_helper_object, helper_or_none, helper_or, helper_member, branded_field, own_field, setter_on, field_setter, setter_of_pair, setter_of, underscore_of, same_number, loose_member, is_same_key, kept_name, generated_member, with_name, parameter_names, value_or_undefined, ended, opened_body, no_spread, is_plain_arrow, arrow_call, is_pick, picked, new_function_call, getter_call, received_call, getter_or_received, is_super_itself, super_function_call, called_with, bound_to, has_field, has_brand, loose_initialized, object_call, member_call, new_member_call, runs_initializers, initializers_behind, passes_all, super_call_in, super_method_call, helper_call_call, generated_call, is_class_test, generated_binary, is_null, is_undefined, is_comparison, is_null_test, is_void_test, is_undefined_test, left_of, tested_object, again_of, is_new_collection, only_if, is_loose_key_call, field_object, given_function, given, is_own_class, value_of_private, private_assignment, generated_assignment}
use Rattle.es_steps.specs.Helpers.{Helper, DefineProperty, ClassPrivateFieldInitSpec, ClassPrivateMethodInitSpec, ClassPrivateFieldGet2, ClassPrivateFieldSet2, AssertClassBrand, ToSetter, CheckInRHS, ReadOnlyError, WriteOnlyError, SuperPropGet, SuperPropSet, ClassPrivateFieldLooseKey, ClassPrivateFieldLooseBase, SetFunctionName, ToPropertyKey, helper_named}
use Rattle.es_steps.specs.Options.{keeps_privates_as_properties}
use Rattle.es_steps.specs.SameValues.{same_boolean}
use Rattle.es_steps.specs.PrivateNames.{PrivateMember, PrivateReference, member_at, reference_of, is_a_field}
use Rattle.es_steps.specs.Values.{String, StringOf, NumberOf, BooleanOf, Null, Value, ConstantOf, Undefined, ClassOf, ThisOf, ResultOf, Free, Home}
use Rattle.es_steps.proofs.ContextMapped.{new_here-mapped}
use Rattle.es_steps.proofs.Mapped.{Renames, mapped_option, mapped_generated, mapped_private, mapped_private_reference, mapped_nullable, mapped_home, mapped_context, mapped_opened, mapped_code, mapped_codes, mapped_target, mapped_value}
use Rattle.es_steps.proofs.PartsMapped.{cond-mapped}
use Rattle.es_steps.proofs.PrivatesMapped.{member_at-mapped, reference_of-mapped}

abbrev pub mapped_two : (ℕ → ℕ) → Code × Code → Code × Code
mapped_two f p = (mapped_code f p.0, mapped_code f p.1)

module _ (f : ℕ → ℕ) where
  pub code-cond : (b : Bool) (x y : Code) {v w : Code} → v ≡ mapped_code f x → w ≡ mapped_code f y → cond b v w ≡ mapped_code f (cond b x y)
  code-cond b x y p q = cond-mapped (mapped_code f) b x y p q

  pub cond-code : (b : Bool) (x y : Code) → cond b (mapped_code f x) (mapped_code f y) ≡ mapped_code f (cond b x y)
  cond-code b x y = cond-mapped (mapped_code f) b x y refl refl

  pub if_member-mapped : (test : PrivateMember → Bool) → ((x : PrivateMember) → test (mapped_private f x) ≡ test x) → (x : Option PrivateMember) → if_member test (mapped_option (mapped_private f) x) ≡ mapped_option (mapped_private f) (if_member test x)
  if_member-mapped test same None = refl
  if_member-mapped test same (Some x) = rw (same x) (cond-mapped (mapped_option (mapped_private f)) (test x) (Some x) None refl refl)

  pub class_named-mapped : (c : Code) → class_named (mapped_code f c) ≡ mapped_option f (class_named c)
  class_named-mapped (name m s (MeansClass n b)) = refl
  class_named-mapped (name m s (Generated (GeneratedKind.ClassTemp n))) = refl
  class_named-mapped (name m s (Generated g)) = generated g
    where
      generated : (g : GeneratedKind) → class_named (name (f m) s (Generated (mapped_generated f g))) ≡ mapped_option f (class_named (name m s (Generated g)))
      generated (GeneratedKind.ClassTemp n) = refl
      generated g = refl
  class_named-mapped c = refl

  class_value-mapped : (n : Option ℕ) → class_value (mapped_option f n) ≡ mapped_nullable f (class_value n)
  class_value-mapped None = refl
  class_value-mapped (Some n) = refl

  pub known_object-mapped : (c : Code) → known_object (mapped_code f c) ≡ mapped_nullable f (known_object c)
  known_object-mapped (value (ThisOf k)) = refl
  known_object-mapped (value (ClassOf n)) = refl
  known_object-mapped c = ap class_value (class_named-mapped c) ∙ class_value-mapped (class_named c)

  class_home-mapped : (n : Option ℕ) → class_home (mapped_option f n) ≡ mapped_option (mapped_home f) (class_home n)
  class_home-mapped None = refl
  class_home-mapped (Some n) = refl

  prototype_home-mapped : (n : Option ℕ) → prototype_home (mapped_option f n) ≡ mapped_option (mapped_home f) (prototype_home n)
  prototype_home-mapped None = refl
  prototype_home-mapped (Some n) = refl

  pub is_string-mapped : (s : String) (c : Code) → is_string s (mapped_code f c) ≡ is_string s c
  is_string-mapped s (value (ConstantOf (StringOf t))) = refl
  is_string-mapped s c = refl

  home_of-mapped : (c : Code) → home_of (mapped_code f c) ≡ mapped_option (mapped_home f) (home_of c)
  home_of-mapped (member m o k) = rw (is_string-mapped (codes "prototype") k, class_named-mapped o) (cond-mapped (mapped_option (mapped_home f)) (is_string (codes "prototype") k) _ None (prototype_home-mapped (class_named o)) refl)
  home_of-mapped c = ap class_home (class_named-mapped c) ∙ class_home-mapped (class_named c)

  is_spread-mapped : (c : Code) → is_spread (mapped_code f c) ≡ is_spread c
  is_spread-mapped (operation m (OfKind Kind.SpreadElement ds) es held) = refl
  is_spread-mapped c = refl

  read_private-mapped : (m : ℕ) (x : Option PrivateMember) (o : Code) → read_private (f m) (mapped_option (mapped_private f) x) (mapped_code f o) ≡ mapped_code f (read_private m x o)
  read_private-mapped m None o = refl
  read_private-mapped m (Some x) o = ap (λ k. private_member (f m) k (mapped_code f o)) (reference_of-mapped f x)

  assigned_value-mapped : (new : Bool) (m : ℕ) (v : Code) → assigned_value new (f m) (mapped_code f v) ≡ mapped_code f (assigned_value new m v)
  assigned_value-mapped true m v = refl
  assigned_value-mapped false m v = refl

  set_private-mapped : (new : Bool) (m : ℕ) (x : Option PrivateMember) (o v : Code) → set_private new (f m) (mapped_option (mapped_private f) x) (mapped_code f o) (mapped_code f v) ≡ mapped_code f (set_private new m x o v)
  set_private-mapped new m None o v = refl
  set_private-mapped new m (Some x) o v = ap₂ (λ k w. assign (to_private (f m) k (mapped_code f o)) w) (reference_of-mapped f x) (assigned_value-mapped new m v)

  private_member-mapped : (m : ℕ) (x : PrivateMember) (o : Code) → private_member (f m) (reference_of (mapped_private f x)) (mapped_code f o) ≡ mapped_code f (private_member m (reference_of x) o)
  private_member-mapped m x o = ap (λ k. private_member (f m) k (mapped_code f o)) (reference_of-mapped f x)

  initialized_on-mapped : (m : ℕ) (x : Option PrivateMember) (o : Option Value) (v : Code) → initialized_on (f m) (mapped_option (mapped_private f) x) (mapped_nullable f o) (mapped_code f v) ≡ mapped_code f (initialized_on m x o v)
  initialized_on-mapped m (Some x) (Some o) v = refl
  initialized_on-mapped m x o v = refl

  brand_on-mapped : (m : ℕ) (q : Code) (o : Option Value) → brand_on (f m) (mapped_code f q) (mapped_nullable f o) ≡ mapped_code f (brand_on m q o)
  brand_on-mapped m (name k s (Generated (GeneratedKind.Brand n))) (Some o) = refl
  brand_on-mapped m q o = refl

  define_on-mapped : (m : ℕ) (o : Option Value) (k v : Code) → define_on (f m) (mapped_nullable f o) (mapped_code f k) (mapped_code f v) ≡ mapped_code f (define_on m o k v)
  define_on-mapped m None k v = refl
  define_on-mapped m (Some o) k v = refl

  super_get-mapped : (m : ℕ) (home : Option Home) (k : Code) (this : Option Value) → super_get (f m) (mapped_option (mapped_home f) home) (mapped_code f k) (mapped_nullable f this) ≡ mapped_code f (super_get m home k this)
  super_get-mapped m (Some home) k (Some this) = refl
  super_get-mapped m home k this = refl

  super_set-mapped : (new : Bool) (m : ℕ) (home : Option Home) (k v : Code) (this : Option Value) → super_set new (f m) (mapped_option (mapped_home f) home) (mapped_code f k) (mapped_code f v) (mapped_nullable f this) ≡ mapped_code f (super_set new m home k v this)
  super_set-mapped new m (Some home) k v (Some this) = ap (assign (to_super (f m) (mapped_home f home) (mapped_code f k) (mapped_value f this))) (assigned_value-mapped new m v)
  super_set-mapped new m home k v this = refl

  is_number_literal-mapped : (s : String) (c : Code) → is_number_literal s (mapped_code f c) ≡ is_number_literal s c
  is_number_literal-mapped s (value (ConstantOf (NumberOf t))) = refl
  is_number_literal-mapped s c = refl

  is_constant-mapped : (c : Code) → is_constant (mapped_code f c) ≡ is_constant c
  is_constant-mapped (value (ConstantOf k)) = refl
  is_constant-mapped c = refl

  is_quiet_key-mapped : (c : Code) → is_quiet_key (mapped_code f c) ≡ is_quiet_key c
  is_quiet_key-mapped (value (ConstantOf k)) = refl
  is_quiet_key-mapped (name m s (Generated GeneratedKind.Temp)) = refl
  is_quiet_key-mapped (name m s (Generated GeneratedKind.Param)) = refl
  is_quiet_key-mapped (private_value s) = refl
  is_quiet_key-mapped c = refl

  with_key-mapped : (k e : Code) → with_key (mapped_code f k) (mapped_code f e) ≡ mapped_code f (with_key k e)
  with_key-mapped (private_value s) e = refl
  with_key-mapped k e = refl

  is_named-mapped : (c : Code) → is_named (mapped_code f c) ≡ is_named c
  is_named-mapped (function g form own ps body) = refl
  is_named-mapped (class_code n declared h es) = refl
  is_named-mapped (value (ClassOf n)) = refl
  is_named-mapped (name m s (MeansClass n b)) = refl
  is_named-mapped c = refl

  helper_or-mapped : (b : Bool) (k whole : Code) → helper_or b (mapped_code f k) (mapped_code f whole) ≡ mapped_code f (helper_or b k whole)
  helper_or-mapped true (spelled s) whole = found (helper_named s)
    where
      found : (h : Option Helper) → helper_or_none h ≡ mapped_code f (helper_or_none h)
      found None = refl
      found (Some h) = refl
  helper_or-mapped b k whole = refl

  field_setter-mapped : (m : ℕ) (x : Option PrivateMember) (o : Code) → field_setter (f m) (mapped_option (mapped_private f) x) (mapped_code f o) ≡ mapped_code f (field_setter m x o)
  field_setter-mapped m None o = refl
  field_setter-mapped m (Some x) o = refl

  own_field-mapped : (m : ℕ) (x : Option PrivateMember) → own_field (f m) (mapped_option (mapped_private f) x) ≡ mapped_code f (own_field m x)
  own_field-mapped m None = refl
  own_field-mapped m (Some x) = ap from_member (private_member-mapped m x (value (ClassOf x.class)))

  is_same_key-mapped : (k l : Code) → is_same_key (mapped_code f k) (mapped_code f l) ≡ is_same_key k l
  is_same_key-mapped (value (ConstantOf (StringOf s))) k = is_string-mapped s k
  is_same_key-mapped (name m s (Generated g)) (name m2 t (Generated g2)) = refl
  is_same_key-mapped (private_value s) (private_value t) = refl
  is_same_key-mapped k l = refl

  kept_name-mapped : (key : Code) (p : Option (Code × Code)) (whole : Code) → kept_name (mapped_code f key) (mapped_option (mapped_two f) p) (mapped_code f whole) ≡ mapped_code f (kept_name key p whole)
  kept_name-mapped key (Some p) whole = rw (is_same_key-mapped key p.0) (cond-code (is_same_key key p.0) (from_member (from_call (sequence (and p.0 (and p.1 done))))) whole)
  kept_name-mapped key None whole = refl

  parameter_names-mapped : (ps : Codes) → parameter_names (mapped_codes f ps) ≡ parameter_names ps
  parameter_names-mapped done = refl
  parameter_names-mapped (and (binding b s (Generated GeneratedKind.Param)) cs) = ap (with_name s) (parameter_names-mapped cs)
  parameter_names-mapped (and c cs) = refl

  value_or_undefined-mapped : (es : Codes) → value_or_undefined (mapped_codes f es) ≡ mapped_codes f (value_or_undefined es)
  value_or_undefined-mapped done = refl
  value_or_undefined-mapped (and c cs) = refl

  ended-mapped : (cs : Codes) → ended (mapped_codes f cs) ≡ mapped_codes f (ended cs)
  ended-mapped done = refl
  ended-mapped (and (new_return es) done) = value_or_undefined-mapped es
  ended-mapped (and (new_return es) (and c cs)) = ap (and (new_return (mapped_codes f es))) (ended-mapped (and c cs))
  ended-mapped (and c cs) = ap (and (mapped_code f c)) (ended-mapped cs)

  pub opened_body-mapped : (c : Code) → opened_body (mapped_code f c) ≡ mapped_code f (opened_body c)
  opened_body-mapped (steps cs) = ap sequence (ended-mapped cs)
  opened_body-mapped c = refl

  no_spread-mapped : (cs : Codes) → no_spread (mapped_codes f cs) ≡ no_spread cs
  no_spread-mapped done = refl
  no_spread-mapped (and c cs) = rw (is_spread-mapped c, no_spread-mapped cs) refl

  arrow_call-mapped : (form : FunctionForm) (names : Option (List String)) (body : Code) (es : Codes) → arrow_call form names (mapped_code f body) (mapped_codes f es) ≡ mapped_code f (arrow_call form names body es)
  arrow_call-mapped form None body es = refl
  arrow_call-mapped form (Some names) body es = rw (no_spread-mapped es, opened_body-mapped body) (cond-code (is_plain_arrow form && no_spread es) (call_arrow names (opened_body body) es) no_rule)

  is_pick-mapped : (ps : Codes) (body : Code) → is_pick (mapped_codes f ps) (mapped_code f body) ≡ is_pick ps body
  is_pick-mapped (and (binding b p (Generated GeneratedKind.Param)) (and (binding b2 q (Generated GeneratedKind.Param)) done)) (member m (name k s (Generated g)) (name k2 t (Generated g2))) = refl
  is_pick-mapped ps body = refl

  picked-mapped : (k : Code) (p : Option (Code × Code)) → picked (mapped_code f k) (mapped_option (mapped_two f) p) ≡ mapped_code f (picked k p)
  picked-mapped k (Some p) = rw (is_same_key-mapped k p.0, with_key-mapped k p.1) (cond-code (is_same_key k p.0) (with_key k p.1) no_rule)
  picked-mapped k None = refl

  received_call-mapped : (m : ℕ) (g : Code) (es : Codes) → received_call (f m) (mapped_code f g) (mapped_codes f es) ≡ mapped_code f (received_call m g es)
  received_call-mapped m g (and o es) = refl
  received_call-mapped m g done = refl

  bound_to-mapped : (g : Code) (es : Codes) → bound_to (mapped_code f g) (mapped_codes f es) ≡ mapped_code f (bound_to g es)
  bound_to-mapped g (and o done) = refl
  bound_to-mapped g es = refl

  has_field-mapped : (m : ℕ) (x : Option PrivateMember) (es : Codes) → has_field (f m) (mapped_option (mapped_private f) x) (mapped_codes f es) ≡ mapped_code f (has_field m x es)
  has_field-mapped m (Some x) (and (helper_call k CheckInRHS (and o done)) done) = refl
  has_field-mapped m x es = refl

  has_brand-mapped : (m n : ℕ) (es : Codes) → has_brand (f m) (f n) (mapped_codes f es) ≡ mapped_code f (has_brand m n es)
  has_brand-mapped m n (and (helper_call k CheckInRHS (and o done)) done) = refl
  has_brand-mapped m n es = refl

  loose_initialized-mapped : (m : ℕ) (x : Option PrivateMember) (o : Option Value) (v : Option Code) (whole : Code) → loose_initialized (f m) (mapped_option (mapped_private f) x) (mapped_nullable f o) (mapped_option (mapped_code f) v) (mapped_code f whole) ≡ mapped_code f (loose_initialized m x o v whole)
  loose_initialized-mapped m (Some x) (Some o) (Some v) whole = refl
  loose_initialized-mapped m None o v whole = refl
  loose_initialized-mapped m x o v whole = refl

  passes_all-mapped : (t : String) (es : Codes) → passes_all t (mapped_codes f es) ≡ passes_all t es
  passes_all-mapped t (and (operation m (OfKind Kind.SpreadElement ds) (and (name k s (Generated GeneratedKind.Args)) done) done) done) = refl
  passes_all-mapped t es = refl

  super_method_call-mapped : (m k : ℕ) (home : Option Home) (key : Code) (this : Option Value) (es : Option Codes) → super_method_call (f m) (f k) (mapped_option (mapped_home f) home) (mapped_code f key) (mapped_nullable f this) (mapped_option (mapped_codes f) es) ≡ mapped_code f (super_method_call m k home key this es)
  super_method_call-mapped m k (Some home) key (Some this) (Some es) = refl
  super_method_call-mapped m k home key this es = refl

  is_class_test-mapped : (m : ℕ) (n : Option ℕ) (o : Code) → is_class_test (f m) (mapped_option f n) (mapped_code f o) ≡ mapped_code f (is_class_test m n o)
  is_class_test-mapped m None o = refl
  is_class_test-mapped m (Some n) o = refl

  is_null-mapped : (c : Code) → is_null (mapped_code f c) ≡ is_null c
  is_null-mapped (value (ConstantOf Null)) = refl
  is_null-mapped c = refl

  is_undefined-mapped : (c : Code) → is_undefined (mapped_code f c) ≡ is_undefined c
  is_undefined-mapped (value Undefined) = refl
  is_undefined-mapped c = refl

  is_null_test-mapped : (s : String) (c : Code) → is_null_test s (mapped_code f c) ≡ is_null_test s c
  is_null_test-mapped s (operation m (OfKind Kind.BinaryExpression ds) (and a (and n done)) done) = ap (λ b. is_comparison s ds && b) (is_null-mapped n)
  is_null_test-mapped s c = refl

  is_void_test-mapped : (c : Code) → is_void_test (mapped_code f c) ≡ is_void_test c
  is_void_test-mapped (operation m (OfKind Kind.BinaryExpression ds) (and a (and n done)) done) = ap (λ b. is_comparison (codes "===") ds && b) (is_undefined-mapped n)
  is_void_test-mapped c = refl

  left_of-mapped : (c : Code) → left_of (mapped_code f c) ≡ mapped_code f (left_of c)
  left_of-mapped (operation m op (and a es) held) = refl
  left_of-mapped c = refl

  pub tested_object-mapped : (c : Code) → tested_object (mapped_code f c) ≡ mapped_code f (tested_object c)
  tested_object-mapped (logical m op l r) = left_of-mapped l
  tested_object-mapped c = left_of-mapped c

  pub again_of-mapped : (c : Code) → again_of (mapped_code f c) ≡ mapped_codes f (again_of c)
  again_of-mapped (logical m op l r) = ap (λ x. and x done) (left_of-mapped r)
  again_of-mapped c = refl

  only_if-mapped : (b : Bool) (m : ℕ) → only_if b (f m) ≡ mapped_code f (only_if b m)
  only_if-mapped true m = refl
  only_if-mapped false m = refl

  is_loose_key_call-mapped : (c : Code) → is_loose_key_call (mapped_code f c) ≡ is_loose_key_call c
  is_loose_key_call-mapped (helper_call k ClassPrivateFieldLooseKey (and s done)) = is_constant-mapped s
  is_loose_key_call-mapped c = refl

  field_object-mapped : (m : ℕ) (x : Option PrivateMember) (p : Option (Code × Code)) → field_object (f m) (mapped_option (mapped_private f) x) (mapped_option (mapped_two f) p) ≡ mapped_code f (field_object m x p)
  field_object-mapped m (Some x) (Some p) = rw (is_string-mapped (codes "_") p.0) (cond-code (is_string (codes "_") p.0) (private_initialize m x.number (ClassOf x.class) p.1) no_rule)
  field_object-mapped m x p = refl

  given_function-mapped : (m : ℕ) (s : String) (g : GeneratedKind) (c : Code) → given_function (f m) s (mapped_generated f g) (mapped_code f c) ≡ mapped_code f (given_function m s g c)
  given_function-mapped m s g (function h form own ps body) = refl
  given_function-mapped m s g (new_function h form ps body) = refl
  given_function-mapped m s g c = refl

module _ {first : ℕ} {f : ℕ → ℕ} (r : Renames first f) where
  pub is_number-mapped : (n : ℕ) (k : Option ℕ) → is_number (f n) (mapped_option f k) ≡ is_number n k
  is_number-mapped n None = refl
  is_number-mapped n (Some k) = r.apart n k

  pub is_class_named-mapped : (n : ℕ) (c : Code) → is_class_named (f n) (mapped_code f c) ≡ is_class_named n c
  is_class_named-mapped n c = rw (class_named-mapped f c) (is_number-mapped n (class_named c))

  is_brand-mapped : (x : PrivateMember) (c : Code) → is_brand (mapped_private f x) (mapped_code f c) ≡ is_brand x c
  is_brand-mapped x (name m s (Generated (GeneratedKind.Brand n))) = ap (λ b. not x.is_static && b) (r.apart n.0 x.class)
  is_brand-mapped x (name m s (Generated g)) = of_kind g
    where
      of_kind : (g : GeneratedKind) → is_brand (mapped_private f x) (name (f m) s (Generated (mapped_generated f g))) ≡ is_brand x (name m s (Generated g))
      of_kind (GeneratedKind.Brand n) = ap (λ b. not x.is_static && b) (r.apart n.0 x.class)
      of_kind g = ap (λ b. x.is_static && b) (is_class_named-mapped x.class (name m s (Generated g)))
  is_brand-mapped x c = ap (λ b. x.is_static && b) (is_class_named-mapped x.class c)

  asserted-mapped : (m : ℕ) (x : Option PrivateMember) (q o whole : Code) → asserted (f m) (mapped_option (mapped_private f) x) (mapped_code f q) (mapped_code f o) (mapped_code f whole) ≡ mapped_code f (asserted m x q o whole)
  asserted-mapped m None q o whole = refl
  asserted-mapped m (Some x) q o whole = rw (is_brand-mapped x q) (code-cond f (is_method_kind x.kind && is_brand x q) (from_call (private_member m (reference_of x) o)) no_rule (ap from_call (private_member-mapped f m x o)) refl)

  branded_field-mapped : (m : ℕ) (x : Option PrivateMember) (z o : Code) → branded_field (f m) (mapped_option (mapped_private f) x) (mapped_code f z) (mapped_code f o) ≡ mapped_code f (branded_field m x z o)
  branded_field-mapped m None z o = refl
  branded_field-mapped m (Some x) z o = rw (is_class_named-mapped x.class z) (code-cond f (is_class_named x.class z) (from_member (private_member m (reference_of x) o)) no_rule (ap from_member (private_member-mapped f m x o)) refl)

  setter_on-mapped : (m : ℕ) (x : Option PrivateMember) (o : Code) → setter_on (f m) (mapped_option (mapped_private f) x) (mapped_code f o) ≡ mapped_code f (setter_on m x o)
  setter_on-mapped m None o = refl
  setter_on-mapped m (Some x) (helper_call k AssertClassBrand (and q (and o done))) = rw (is_brand-mapped x q) (cond-code f (is_setter_kind x.kind && is_brand x q) (setter m x.number o) no_rule)
  setter_on-mapped m (Some x) o = rw (is_class_named-mapped x.class o) (cond-code f (is_setter_kind x.kind && (x.is_static && is_class_named x.class o)) (setter m x.number o) no_rule)

  same_number-mapped : (x y : Option PrivateMember) → same_number (mapped_option (mapped_private f) x) (mapped_option (mapped_private f) y) ≡ same_number x y
  same_number-mapped (Some x) (Some y) = r.apart x.number y.number
  same_number-mapped x y = refl

  getter_call-mapped : (m : ℕ) (x : PrivateMember) (es : Codes) → getter_call (f m) (mapped_private f x) (mapped_codes f es) ≡ mapped_code f (getter_call m x es)
  getter_call-mapped m x (and (helper_call k AssertClassBrand (and q (and o done))) done) = rw (is_brand-mapped x q) (code-cond f (is_brand x q) (from_call (private_member m (reference_of x) o)) no_rule (ap from_call (private_member-mapped f m x o)) refl)
  getter_call-mapped m x (and o done) = rw (is_class_named-mapped x.class o) (code-cond f (x.is_static && is_class_named x.class o) (from_call (private_member m (reference_of x) o)) no_rule (ap from_call (private_member-mapped f m x o)) refl)
  getter_call-mapped m x es = refl

  getter_or_received-mapped : (m : ℕ) (x : Option PrivateMember) (g : Code) (es : Codes) → getter_or_received (f m) (mapped_option (mapped_private f) x) (mapped_code f g) (mapped_codes f es) ≡ mapped_code f (getter_or_received m x g es)
  getter_or_received-mapped m (Some x) g es = code-cond f (is_getter_kind x.kind) (getter_call m x es) (received_call m g es) (getter_call-mapped m x es) (received_call-mapped f m g es)
  getter_or_received-mapped m None g es = received_call-mapped f m g es

  is_super_itself-mapped : (o : Option Opened) → is_super_itself (mapped_option (mapped_opened f) o) ≡ is_super_itself o
  is_super_itself-mapped None = refl
  is_super_itself-mapped (Some (InitializersOf n)) = refl
  is_super_itself-mapped (Some o) = refl

  super_function_call-mapped : (m n : ℕ) (s : String) (es : Codes) → super_function_call (f m) (f n) s (mapped_codes f es) ≡ mapped_code f (super_function_call m n s es)
  super_function_call-mapped m n s (and (super_call k n2 behind es) done) = rw (r.apart n n2, is_super_itself-mapped behind) (cond-code f (nat_eq n n2 && is_super_itself behind) (super_call m n (Some (CalledBodyOf s)) es) no_rule)
  super_function_call-mapped m n s es = refl

  runs_initializers-mapped : (k : Option ℕ) (m : ℕ) → runs_initializers (mapped_option f k) (f m) ≡ runs_initializers k m
  runs_initializers-mapped None m = refl
  runs_initializers-mapped (Some k) m = r.apart k m

  is_own_class-mapped : (x : PrivateReference) (o : Code) → is_own_class (mapped_private_reference f x) (mapped_code f o) ≡ is_own_class x o
  is_own_class-mapped x (value (ClassOf n)) = ap (λ b. x.is_static && b) (r.apart n x.class)
  is_own_class-mapped x o = refl

  value_of_private-mapped : (w : Option ℕ) (new : Bool) (m : ℕ) (v : Code) → value_of_private (mapped_option f w) new (f m) (mapped_code f v) ≡ mapped_code f (value_of_private w new m v)
  value_of_private-mapped None new m v = refl
  value_of_private-mapped (Some d) new m v = assigned_value-mapped f new m v

  private_assignment-mapped : (new : Bool) (m k : ℕ) (x : PrivateReference) (o v : Code) → private_assignment new (f m) (f k) (mapped_private_reference f x) (mapped_code f o) (mapped_code f v) ≡ mapped_code f (private_assignment new m k x o v)
  private_assignment-mapped new m k x own (helper_call j AssertClassBrand (and z (and o (and v done)))) =
      rw (is_own_class-mapped x own, is_class_named-mapped x.class z, value_of_private-mapped x.writes new m v) (cond-code f (is_own_class x own && is_class_named x.class z) (assign (to_private k x o) (value_of_private x.writes new m v)) no_rule)
  private_assignment-mapped new m k x o v = ap (assign (to_private (f k) (mapped_private_reference f x) (mapped_code f o))) (value_of_private-mapped x.writes new m v)

module _ {first : ℕ} {f : ℕ → ℕ} (r : Renames first f) (c : Context) (e : c.first_new ≡ first) where
  abbrev there : Context
  there = mapped_context f c

  pub here : (m : ℕ) → is_new c.first_new (f m) ≡ is_new c.first_new m
  here m = new_here-mapped r c e m

  -- ---- letters

  if_kept-mapped : (as_properties : Bool) (test : PrivateMember → Bool) (d : ℕ) → ((x : PrivateMember) → test (mapped_private f x) ≡ test x) → if_kept as_properties there test (member_at (f d) there.members) ≡ mapped_option (mapped_private f) (if_kept as_properties c test (member_at d c.members))
  if_kept-mapped as_properties test d same =
      cond-mapped (mapped_option (mapped_private f)) (same_boolean as_properties (keeps_privates_as_properties c.options)) (if_member test (member_at d c.members)) None
      (ap (if_member test) (member_at-mapped r d c.members) ∙ if_member-mapped f test same (member_at d c.members)) refl

  weak_map-mapped : (q : Code) → weak_map there (mapped_code f q) ≡ mapped_option (mapped_private f) (weak_map c q)
  weak_map-mapped (name m s (Generated (GeneratedKind.WeakMap d))) = if_kept-mapped false is_instance_field d.0 (λ x. refl)
  weak_map-mapped q = refl

  static_field-mapped : (q : Code) → static_field there (mapped_code f q) ≡ mapped_option (mapped_private f) (static_field c q)
  static_field-mapped (name m s (Generated (GeneratedKind.StaticField d))) = if_kept-mapped false is_static_field d.0 (λ x. refl)
  static_field-mapped q = refl

  private_function-mapped : (q : Code) → private_function there (mapped_code f q) ≡ mapped_option (mapped_private f) (private_function c q)
  private_function-mapped (name m s (Generated (GeneratedKind.Method d))) = ap (if_member is_function_member) (member_at-mapped r d.0 c.members) ∙ if_member-mapped f is_function_member (λ x. refl) (member_at d.0 c.members)
  private_function-mapped (name m s (StaticMethod d n)) = member_at-mapped r d c.members
  private_function-mapped q = refl

  loose_key-mapped : (q : Code) → loose_key there (mapped_code f q) ≡ mapped_option (mapped_private f) (loose_key c q)
  loose_key-mapped (name m s (Generated (GeneratedKind.LooseKey d))) = if_kept-mapped true (λ x. is_a_field x.kind) d.0 (λ x. refl)
  loose_key-mapped q = refl

  -- ---- objects

  single_property-mapped : (q : Code) → single_property there (mapped_code f q) ≡ mapped_option (mapped_two f) (single_property c q)
  single_property-mapped (operation m (OfKind Kind.ObjectExpression (Opens ∷ Key k ∷ Operand ∷ Spelled kind ∷ Flag is_method ∷ Closes ∷ [])) (and v done) done) = rw (here m) (cond-mapped (mapped_option (mapped_two f)) (is_new c.first_new m && is_plain_property kind is_method) (Some (value (ConstantOf k), v)) None refl refl)
  single_property-mapped (operation m (OfKind Kind.ObjectExpression (Opens ∷ Operand ∷ Operand ∷ Spelled kind ∷ Flag is_method ∷ Closes ∷ [])) (and (key_of k) (and v done)) done) = rw (here m) (cond-mapped (mapped_option (mapped_two f)) (is_new c.first_new m && is_plain_property kind is_method) (Some (k, v)) None refl refl)
  single_property-mapped q = refl

  writable_value-mapped : (q : Code) → writable_value there (mapped_code f q) ≡ mapped_option (mapped_code f) (writable_value c q)
  writable_value-mapped (operation m (OfKind Kind.ObjectExpression (Opens ∷ Key (StringOf k1) ∷ Operand ∷ Spelled kind1 ∷ Flag method1 ∷ Key (StringOf k2) ∷ Operand ∷ Spelled kind2 ∷ Flag method2 ∷ Closes ∷ [])) (and (value (ConstantOf (BooleanOf true))) (and v done)) done) = rw (here m) (cond-mapped (mapped_option (mapped_code f)) (is_new c.first_new m && is_writable_form k1 kind1 method1 k2 kind2 method2) (Some v) None refl refl)
  writable_value-mapped q = refl

  array_elements-mapped : (q : Code) → array_elements there (mapped_code f q) ≡ mapped_option (mapped_codes f) (array_elements c q)
  array_elements-mapped (operation m (OfKind Kind.ArrayExpression (Opens ∷ ds)) es done) = rw (here m) (cond-mapped (mapped_option (mapped_codes f)) (is_new c.first_new m && only_operands ds) (Some es) None refl refl)
  array_elements-mapped q = refl

  -- ---- helpers

  helper_code-mapped : (m : ℕ) (h : Helper) (es : Codes) → helper_code there (f m) h (mapped_codes f es) ≡ mapped_code f (helper_code c m h es)
  helper_code-mapped m ClassPrivateFieldGet2 (and w (and o done)) = rw (weak_map-mapped w) (ap from_call (read_private-mapped f m (weak_map c w) o))
  helper_code-mapped m ClassPrivateFieldSet2 (and w (and o (and v done))) = rw (here m, weak_map-mapped w) (set_private-mapped f (new_here c m) m (weak_map c w) o v)
  helper_code-mapped m AssertClassBrand (and q (and o (and g done))) = rw (private_function-mapped g) (asserted-mapped r m (private_function c g) q o (helper_call m AssertClassBrand (and q (and o (and g done)))))
  helper_code-mapped m ReadOnlyError (and s done) = rw (is_constant-mapped f s) (cond-code f (is_constant s) throw no_rule)
  helper_code-mapped m WriteOnlyError (and s done) = rw (is_constant-mapped f s) (cond-code f (is_constant s) throw no_rule)
  helper_code-mapped m ClassPrivateFieldInitSpec (and o (and w (and v done))) = rw (weak_map-mapped w, known_object-mapped f o) (initialized_on-mapped f m (weak_map c w) (known_object o) v)
  helper_code-mapped m ClassPrivateMethodInitSpec (and o (and q done)) = rw (known_object-mapped f o) (brand_on-mapped f m q (known_object o))
  helper_code-mapped m DefineProperty (and o (and k (and v done))) = rw (known_object-mapped f o) (define_on-mapped f m (known_object o) k v)
  helper_code-mapped m SuperPropGet (and h (and k (and x done))) = rw (home_of-mapped f h, known_object-mapped f x) (super_get-mapped f m (home_of h) k (known_object x))
  helper_code-mapped m SuperPropSet (and h (and k (and v (and x (and n done))))) = rw (here m, is_number_literal-mapped f (codes "1") n, home_of-mapped f h, known_object-mapped f x) (code-cond f (is_number_literal (codes "1") n) (super_set (new_here c m) m (home_of h) k v (known_object x)) no_rule (super_set-mapped f (new_here c m) m (home_of h) k v (known_object x)) refl)
  helper_code-mapped m ToPropertyKey (and k done) = refl
  helper_code-mapped m SetFunctionName (and g (and k done)) = rw (is_named-mapped f g, is_quiet_key-mapped f k, with_key-mapped f k g) (cond-code f (is_named g && is_quiet_key k) (with_key k g) no_rule)
  helper_code-mapped m h es = refl

  is_helper_object-mapped : (o : Code) → is_helper_object there (mapped_code f o) ≡ is_helper_object c o
  is_helper_object-mapped (name b s (Changing (Free spelling))) = ap (λ n. n && bytes_eq s (codes "babelHelpers")) (here b)
  is_helper_object-mapped o = refl

  pub helper_member-mapped : (computed : Bool) (o k whole : Code) → helper_member there computed (mapped_code f o) (mapped_code f k) (mapped_code f whole) ≡ mapped_code f (helper_member c computed o k whole)
  helper_member-mapped computed o k whole = rw (is_helper_object-mapped o) (helper_or-mapped f (is_helper_object c o && not computed) k whole)

  -- ---- members

  setter_of_pair-mapped : (m : ℕ) (es : Option Codes) → setter_of_pair there (f m) (mapped_option (mapped_codes f) es) ≡ mapped_code f (setter_of_pair c m es)
  setter_of_pair-mapped m (Some (and w (and o done))) = rw (weak_map-mapped w) (field_setter-mapped f m (weak_map c w) o)
  setter_of_pair-mapped m es = refl

  setter_of-mapped : (m : ℕ) (es : Codes) → setter_of there (f m) (mapped_codes f es) ≡ mapped_code f (setter_of c m es)
  setter_of-mapped m (and (bound g o) done) = rw (private_function-mapped g) (setter_on-mapped r m (private_function c g) o)
  setter_of-mapped m (and (helper ClassPrivateFieldSet2) (and pair done)) = rw (array_elements-mapped pair) (setter_of_pair-mapped m (array_elements c pair))
  setter_of-mapped m es = refl

  underscore_of-mapped : (m : ℕ) (o whole : Code) → underscore_of there (f m) (mapped_code f o) (mapped_code f whole) ≡ mapped_code f (underscore_of c m o whole)
  underscore_of-mapped m (helper_call k AssertClassBrand (and z (and o (and g done)))) whole = rw (static_field-mapped g) (branded_field-mapped r m (static_field c g) z o)
  underscore_of-mapped m (helper_call k ToSetter es) whole = setter_of-mapped m es
  underscore_of-mapped m (name k s (Generated (GeneratedKind.StaticField d))) whole = rw (static_field-mapped (name k s (Generated (GeneratedKind.StaticField d)))) (own_field-mapped f m (static_field c (name k s (Generated (GeneratedKind.StaticField d)))))
  underscore_of-mapped m o whole = refl

  loose_member-mapped : (m : ℕ) (o key whole : Code) → loose_member there (f m) (mapped_code f o) (mapped_code f key) (mapped_code f whole) ≡ mapped_code f (loose_member c m o key whole)
  loose_member-mapped m (helper_call k ClassPrivateFieldLooseBase (and o (and l done))) key whole =
      rw (loose_key-mapped l, loose_key-mapped key, same_number-mapped r (loose_key c l) (loose_key c key))
      (code-cond f (same_number (loose_key c l) (loose_key c key)) (read_private m (loose_key c key) o) no_rule (read_private-mapped f m (loose_key c key) o) refl)
  loose_member-mapped m o key whole = refl

  pub generated_member-mapped : (m : ℕ) (o k whole : Code) → generated_member there (f m) (mapped_code f o) (mapped_code f k) (mapped_code f whole) ≡ mapped_code f (generated_member c m o k whole)
  generated_member-mapped m o k whole =
      rw (is_string-mapped f (codes "_") k, single_property-mapped o, kept_name-mapped f k (single_property c o) whole)
      (code-cond f (is_string (codes "_") k) (underscore_of c m o whole) (loose_member c m o k (kept_name k (single_property c o) whole)) (underscore_of-mapped m o whole) (loose_member-mapped m o k (kept_name k (single_property c o) whole)))

  -- ---- calls

  new_function_call-mapped : (form : FunctionForm) (ps : Codes) (body : Code) (es : Codes) → new_function_call there form (mapped_codes f ps) (mapped_code f body) (mapped_codes f es) ≡ mapped_code f (new_function_call c form ps body es)
  new_function_call-mapped form ps body (and k (and o done)) =
      rw (is_pick-mapped f ps body, single_property-mapped o, parameter_names-mapped f ps)
      (code-cond f (is_plain_arrow form && is_pick ps body) (picked k (single_property c o)) (arrow_call form (parameter_names ps) body (and k (and o done))) (picked-mapped f k (single_property c o)) (arrow_call-mapped f form (parameter_names ps) body (and k (and o done))))
  new_function_call-mapped form ps body es = rw (parameter_names-mapped f ps) (arrow_call-mapped f form (parameter_names ps) body es)

  called_with-mapped : (m : ℕ) (g : Code) (es : Codes) → called_with there (f m) (mapped_code f g) (mapped_codes f es) ≡ mapped_code f (called_with c m g es)
  called_with-mapped m (name k s (Generated (GeneratedKind.SuperFn n))) es = super_function_call-mapped r m n.0 s es
  called_with-mapped m (name k s (Generated g)) es = of_kind g
    where
      of_kind : (g : GeneratedKind) → called_with there (f m) (name (f k) s (Generated (mapped_generated f g))) (mapped_codes f es) ≡ mapped_code f (called_with c m (name k s (Generated g)) es)
      of_kind (GeneratedKind.SuperFn n) = super_function_call-mapped r m n.0 s es
      of_kind g = ap (λ x. getter_or_received (f m) x (mapped_code f (name k s (Generated g))) (mapped_codes f es)) (private_function-mapped (name k s (Generated g))) ∙ getter_or_received-mapped r m (private_function c (name k s (Generated g))) (name k s (Generated g)) es
  called_with-mapped m g es = ap (λ x. getter_or_received (f m) x (mapped_code f g) (mapped_codes f es)) (private_function-mapped g) ∙ getter_or_received-mapped r m (private_function c g) g es

  object_call-mapped : (m : ℕ) (es : Codes) (whole : Code) → object_call there (f m) (mapped_codes f es) (mapped_code f whole) ≡ mapped_code f (object_call c m es whole)
  object_call-mapped m (and o (and l (and form done))) whole = rw (loose_key-mapped l, known_object-mapped f o, writable_value-mapped form) (loose_initialized-mapped f m (loose_key c l) (known_object o) (writable_value c form) whole)
  object_call-mapped m es whole = refl

  member_call-mapped : (m : ℕ) (o key : Code) (es : Codes) (whole : Code) → member_call there (f m) (mapped_code f o) (mapped_code f key) (mapped_codes f es) (mapped_code f whole) ≡ mapped_code f (member_call c m o key es whole)
  member_call-mapped m (name k s (Generated (GeneratedKind.WeakMap d))) key es whole =
      let w : Code = name k s (Generated (GeneratedKind.WeakMap d)) in
      rw (is_string-mapped f (codes "has") key, weak_map-mapped w) (code-cond f (is_string (codes "has") key) (has_field m (weak_map c w) es) no_rule (has_field-mapped f m (weak_map c w) es) refl)
  member_call-mapped m (name k s (Generated (GeneratedKind.Brand n))) key es whole = rw (is_string-mapped f (codes "has") key) (code-cond f (is_string (codes "has") key) (has_brand m n.0 es) no_rule (has_brand-mapped f m n.0 es) refl)
  member_call-mapped m (name k s (Changing (Free spelling))) key es whole = rw (is_string-mapped f (codes "defineProperty") key) (code-cond f (bytes_eq s (codes "Object") && is_string (codes "defineProperty") key) (object_call c m es whole) whole (object_call-mapped m es whole) refl)
  member_call-mapped m o key es whole = refl

  new_member_call-mapped : (m k : ℕ) (g key : Code) (es : Codes) (whole : Code) → new_member_call there (f m) (f k) (mapped_code f g) (mapped_code f key) (mapped_codes f es) (mapped_code f whole) ≡ mapped_code f (new_member_call c m k g key es whole)
  new_member_call-mapped m k g key es whole =
      rw (here k, is_string-mapped f (codes "call") key, is_string-mapped f (codes "bind") key)
      (code-cond f (is_new c.first_new k && is_string (codes "call") key) (called_with c m g es) (cond (is_new c.first_new k && is_string (codes "bind") key) (bound_to g es) (member_call c m g key es whole))
      (called_with-mapped m g es)
      (code-cond f (is_new c.first_new k && is_string (codes "bind") key) (bound_to g es) (member_call c m g key es whole) (bound_to-mapped f g es) (member_call-mapped m g key es whole)))

  initializers_behind-mapped : (m n : ℕ) → initializers_behind there (f m) (f n) ≡ mapped_option (mapped_opened f) (initializers_behind c m n)
  initializers_behind-mapped m n = rw (runs_initializers-mapped r c.initializing m) (cond-mapped (mapped_option (mapped_opened f)) (runs_initializers c.initializing m) (Some (InitializersOf n)) None refl refl)

  super_call_in-mapped : (m : ℕ) (n : Option ℕ) (es : Codes) → super_call_in there (f m) (mapped_option f n) (mapped_codes f es) ≡ mapped_code f (super_call_in c m n es)
  super_call_in-mapped m None es = refl
  super_call_in-mapped m (Some n) es = rw (passes_all-mapped f c.rest_name es, initializers_behind-mapped m n) (cond-code f (passes_all c.rest_name es) (super_call_with_all n) (super_call m n (initializers_behind c m n) es))

  helper_call_call-mapped : (m k : ℕ) (h : Helper) (arguments es : Codes) → helper_call_call there (f m) (f k) h (mapped_codes f arguments) (mapped_codes f es) ≡ mapped_code f (helper_call_call c m k h arguments es)
  helper_call_call-mapped m k SuperPropGet (and h (and key (and x (and two done)))) (and form done) =
      rw (is_number_literal-mapped f (codes "2") two, home_of-mapped f h, known_object-mapped f x, array_elements-mapped form)
      (code-cond f (is_number_literal (codes "2") two) (super_method_call m k (home_of h) key (known_object x) (array_elements c form)) no_rule (super_method_call-mapped f m k (home_of h) key (known_object x) (array_elements c form)) refl)
  helper_call_call-mapped m k h arguments es = refl

  pub generated_call-mapped : (m : ℕ) (g : Code) (es : Codes) (whole : Code) → generated_call there (f m) (mapped_code f g) (mapped_codes f es) (mapped_code f whole) ≡ mapped_code f (generated_call c m g es whole)
  generated_call-mapped m (helper h) es whole = helper_code-mapped m h es
  generated_call-mapped m (helper_call k h arguments) es whole = helper_call_call-mapped m k h arguments es
  generated_call-mapped m super es whole = super_call_in-mapped m c.constructs es
  generated_call-mapped m (member k o key) es whole = new_member_call-mapped m k o key es whole
  generated_call-mapped m (name k s (Generated GeneratedKind.Closure)) es whole = refl
  generated_call-mapped m (name k s (Generated (GeneratedKind.SuperFn n))) es whole = refl
  generated_call-mapped m (new_function g form ps body) es whole = new_function_call-mapped form ps body es
  generated_call-mapped m g es whole = refl

  -- ---- operators

  pub generated_binary-mapped : (m : ℕ) (operator : String) (l x whole : Code) → generated_binary there (f m) operator (mapped_code f l) (mapped_code f x) (mapped_code f whole) ≡ mapped_code f (generated_binary c m operator l x whole)
  generated_binary-mapped m operator (helper_call k CheckInRHS (and o done)) x whole = rw (class_named-mapped f x) (code-cond f (bytes_eq operator (codes "===")) (is_class_test m (class_named x) o) no_rule (is_class_test-mapped f m (class_named x) o) refl)
  generated_binary-mapped m operator (name k s (Generated GeneratedKind.Temp)) x whole = rw (here m, is_string-mapped f (codes "name") x) (cond-code f (is_new c.first_new m && (bytes_eq operator (codes "!==") && is_string (codes "name") x)) (value (ResultOf m)) whole)
  generated_binary-mapped m operator l x whole = refl

  pub is_undefined_test-mapped : (q : Code) → is_undefined_test there (mapped_code f q) ≡ is_undefined_test c q
  is_undefined_test-mapped (logical m operator l x) = rw (here m, is_null_test-mapped f (codes "===") l, is_void_test-mapped f x) refl
  is_undefined_test-mapped (operation m op es held) = rw (here m, is_null_test-mapped f (codes "==") (operation m op es held)) refl
  is_undefined_test-mapped q = refl

  -- ---- what generated names are assigned

  is_new_collection-mapped : (s : String) (q : Code) → is_new_collection there s (mapped_code f q) ≡ is_new_collection c s q
  is_new_collection-mapped s (construct m (name k t (Changing (Free spelling))) done) = ap (λ b. b && bytes_eq s t) (here m)
  is_new_collection-mapped s q = refl

  pub given-mapped : (m b : ℕ) (s : String) (g : GeneratedKind) (q : Code) → given there (f m) (f b) s (mapped_generated f g) (mapped_code f q) ≡ mapped_code f (given c m b s g q)
  given-mapped m b s GeneratedKind.Temp q = refl
  given-mapped m b s GeneratedKind.Param q = refl
  given-mapped m b s (GeneratedKind.ClassTemp n) q = refl
  given-mapped m b s (GeneratedKind.WeakMap d) q = rw (is_new_collection-mapped (codes "WeakMap") q) (only_if-mapped f (is_new_collection c (codes "WeakMap") q) m)
  given-mapped m b s (GeneratedKind.StaticField d) q =
      let x : Code = name b s (Generated (GeneratedKind.StaticField d)) in
      rw (static_field-mapped x, single_property-mapped q) (field_object-mapped f m (static_field c x) (single_property c q))
  given-mapped m b s (GeneratedKind.Brand n) q = rw (is_new_collection-mapped (codes "WeakSet") q) (only_if-mapped f (is_new_collection c (codes "WeakSet") q) m)
  given-mapped m b s (GeneratedKind.LooseKey d) q = rw (is_loose_key_call-mapped f q) (only_if-mapped f (is_loose_key_call q) m)
  given-mapped m b s (GeneratedKind.Method d) q = given_function-mapped f m s (GeneratedKind.Method d) q
  given-mapped m b s (GeneratedKind.SuperFn n) q = given_function-mapped f m s (GeneratedKind.SuperFn n) q
  given-mapped m b s GeneratedKind.Closure q = given_function-mapped f m s GeneratedKind.Closure q
  given-mapped m b s g q = refl

  pub generated_assignment-mapped : (m : ℕ) (to : Target) (q : Code) → generated_assignment there (f m) (mapped_target f to) (mapped_code f q) ≡ mapped_code f (generated_assignment c m to q)
  generated_assignment-mapped m (to_name b s (Generated g)) q = given-mapped m b s g q
  generated_assignment-mapped m (to_name b s (StaticMethod d n)) q = given_function-mapped f m s (GeneratedKind.Method (record { 0 = d })) q
  generated_assignment-mapped m (to_private k x o) q = rw (here m) (private_assignment-mapped r (new_here c m) m k x o q)
  generated_assignment-mapped m to q = rw (here m) (ap (assign (mapped_target f to)) (assigned_value-mapped f (new_here c m) m q))
