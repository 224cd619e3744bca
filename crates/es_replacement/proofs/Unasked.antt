-- Generated forms of codes with expressions in their holes whose form is not asked for.
use Rattle.std.specs.Prelude.{◌≡◌, ℕ, List, [], ◌∷◌, Bool, true, false, cond, ◌&&◌, codes, Option, Some, None, refl}
use Rattle.es_base.specs.declared.kind.Kind.{Kind}
use Rattle.es_base.specs.declared.ledger.GeneratedKind.{GeneratedKind}
use Rattle.es_steps.specs.Code.{Code, Codes, no_rule, value, spelled, binding, name, member, private_member, assign, construct, super_call, operation, steps, function, new_function, new_return, class_code, from_call, helper, helper_call, bound, setter, private_value, to_private, done, and, key_of}
use Rattle.es_steps.specs.Context.{Context, Fixed, Changing, MeansClass, Generated, StaticMethod}
use Rattle.es_steps.specs.Events.{Detail, Operand, Spelled, Flag, Key, Opens, Closes, OfKind}
use Rattle.es_steps.specs.GeneratedForms.{is_named, weak_map, static_field, private_function, loose_key, class_named, known_object, is_string, home_of, single_property, writable_value, array_elements, is_spread, is_setter_kind, brand_on, is_number_literal, is_constant, is_quiet_key, is_helper_object, helper_or, setter_on, setter_of, underscore_of, loose_member, is_same_key, parameter_names, ended, opened_body, is_pick, getter_call, received_call, super_function_call, called_with, has_field, has_brand, member_call, passes_all, generated_binary, is_null, is_undefined, is_new_collection, is_loose_key_call, given_function, private_assignment, value_of_private}
use Rattle.es_steps.specs.PrivateNames.{PrivateMember, PrivateReference, reference_of}
use Rattle.es_steps.specs.Values.{String, StringOf, Value, Undefined, Bound, Free}
use Rattle.es_replacement.specs.Holes.{filled}
use Rattle.es_replacement.specs.Unasked.{is_unasked}

abbrev pub filled_two : (ℕ → Code) → Code × Code → Code × Code
filled_two fill p = (filled fill p.0, filled fill p.1)

pub fill-cond : {A B : Type 0} (g : A → B) (b : Bool) (x y : A) {v w : B} → v ≡ g x → w ≡ g y → cond b v w ≡ g (cond b x y)
fill-cond g true x y p q = p
fill-cond g false x y p q = q

-- ---- what an expression is not whose form is not asked for

cond-same : {A : Type 0} (b : Bool) (x : A) → cond b x x ≡ x
cond-same true x = refl
cond-same false x = refl

module _ (first : ℕ) where
  pub class_named-unasked : (q : Code) → is_unasked first q ≡ true → class_named q ≡ None
  class_named-unasked (name m s kind) h = absurd (cc)
  class_named-unasked q h = refl

  pub known_object-unasked : (q : Code) → is_unasked first q ≡ true → known_object q ≡ None
  known_object-unasked (name m s kind) h = absurd (cc)
  known_object-unasked (value v) h = absurd (cc)
  known_object-unasked q h = refl

  pub is_string-unasked : (s : String) (q : Code) → is_unasked first q ≡ true → is_string s q ≡ false
  is_string-unasked s (value v) h = absurd (cc)
  is_string-unasked s q h = refl

  pub home_of-unasked : (q : Code) → is_unasked first q ≡ true → home_of q ≡ None
  home_of-unasked (name m s kind) h = absurd (cc)
  home_of-unasked (member m (name k s kind) key) h = absurd (cc)
  home_of-unasked (member m o key) h = cond-same (is_string (codes "prototype") key) None
  home_of-unasked q h = refl

  pub is_spread-unasked : (q : Code) → is_unasked first q ≡ true → is_spread q ≡ false
  is_spread-unasked (operation m (OfKind Kind.SpreadElement ds) es held) h = absurd (cc)
  is_spread-unasked q h = refl

  pub brand_on-unasked : (m : ℕ) (q : Code) (o : Option Value) → is_unasked first q ≡ true → brand_on m q o ≡ no_rule
  brand_on-unasked m (name k s kind) o h = absurd (cc)
  brand_on-unasked m q o h = refl

  pub is_number_literal-unasked : (s : String) (q : Code) → is_unasked first q ≡ true → is_number_literal s q ≡ false
  is_number_literal-unasked s (value v) h = absurd (cc)
  is_number_literal-unasked s q h = refl

  pub is_constant-unasked : (q : Code) → is_unasked first q ≡ true → is_constant q ≡ false
  is_constant-unasked (value v) h = absurd (cc)
  is_constant-unasked q h = refl

  pub is_quiet_key-unasked : (q : Code) → is_unasked first q ≡ true → is_quiet_key q ≡ false
  is_quiet_key-unasked (value v) h = absurd (cc)
  is_quiet_key-unasked (name m s kind) h = absurd (cc)
  is_quiet_key-unasked (private_value s) h = absurd (cc)
  is_quiet_key-unasked q h = refl

  pub is_named-unasked : (q : Code) → is_unasked first q ≡ true → is_named q ≡ false
  is_named-unasked (value v) h = absurd (cc)
  is_named-unasked (name m s kind) h = absurd (cc)
  is_named-unasked (function f form own_name ps body) h = absurd (cc)
  is_named-unasked (class_code n declared hs es) h = absurd (cc)
  is_named-unasked q h = refl

  pub helper_or-unasked : (q whole : Code) → is_unasked first q ≡ true → helper_or true q whole ≡ whole
  helper_or-unasked (spelled s) whole h = absurd (cc)
  helper_or-unasked q whole h = refl

  pub same_key_left-unasked : (q k : Code) → is_unasked first q ≡ true → is_same_key q k ≡ false
  same_key_left-unasked (value v) k h = absurd (cc)
  same_key_left-unasked (name m s kind) k h = absurd (cc)
  same_key_left-unasked (private_value s) k h = absurd (cc)
  same_key_left-unasked q k h = refl

  pub same_key_name-unasked : (m : ℕ) (s : String) (g : GeneratedKind) (q : Code) → is_unasked first q ≡ true → is_same_key (name m s (Generated g)) q ≡ false
  same_key_name-unasked m s g (name k t kind) h = absurd (cc)
  same_key_name-unasked m s g q h = refl

  pub same_key_private-unasked : (s : String) (q : Code) → is_unasked first q ≡ true → is_same_key (private_value s) q ≡ false
  same_key_private-unasked s (private_value t) h = absurd (cc)
  same_key_private-unasked s q h = refl

  pub parameter_names-unasked : (q : Code) (cs : Codes) → is_unasked first q ≡ true → parameter_names (and q cs) ≡ None
  parameter_names-unasked (binding b s kind) cs h = absurd (cc)
  parameter_names-unasked q cs h = refl

  pub ended-unasked : (q : Code) → is_unasked first q ≡ true → ended (and q done) ≡ and q (and (value Undefined) done)
  ended-unasked (new_return es) h = absurd (cc)
  ended-unasked q h = refl

  pub ended_ahead-unasked : (q c : Code) (cs : Codes) → ended (and q (and c cs)) ≡ and q (ended (and c cs))
  ended_ahead-unasked (new_return es) c cs = refl
  ended_ahead-unasked q c cs = refl

  pub opened_body-unasked : (q : Code) → is_unasked first q ≡ true → opened_body q ≡ q
  opened_body-unasked (steps cs) h = absurd (cc)
  opened_body-unasked q h = refl

  pub has_field-unasked : (m : ℕ) (x : Option PrivateMember) (q : Code) (cs : Codes) → is_unasked first q ≡ true → has_field m x (and q cs) ≡ no_rule
  has_field-unasked m (Some x) (helper_call k g es) cs h = absurd (cc)
  has_field-unasked m (Some x) q cs h = refl
  has_field-unasked m None q cs h = refl

  pub has_brand-unasked : (m n : ℕ) (q : Code) (cs : Codes) → is_unasked first q ≡ true → has_brand m n (and q cs) ≡ no_rule
  has_brand-unasked m n (helper_call k g es) cs h = absurd (cc)
  has_brand-unasked m n q cs h = refl

  pub passes_all-unasked : (t : String) (q : Code) (cs : Codes) → is_unasked first q ≡ true → passes_all t (and q cs) ≡ false
  passes_all-unasked t (operation m (OfKind Kind.SpreadElement ds) es held) cs h = absurd (cc)
  passes_all-unasked t q cs h = refl

  pub spread-unasked : (t : String) (m : ℕ) (ds : List Detail) (q : Code) (es held cs : Codes) → is_unasked first q ≡ true → passes_all t (and (operation m (OfKind Kind.SpreadElement ds) (and q es) held) cs) ≡ false
  spread-unasked t m ds (name k s kind) es held cs h = absurd (cc)
  spread-unasked t m ds q es held cs h = refl

  pub is_null-unasked : (q : Code) → is_unasked first q ≡ true → is_null q ≡ false
  is_null-unasked (value v) h = absurd (cc)
  is_null-unasked q h = refl

  pub is_undefined-unasked : (q : Code) → is_unasked first q ≡ true → is_undefined q ≡ false
  is_undefined-unasked (value v) h = absurd (cc)
  is_undefined-unasked q h = refl

  pub is_loose_key_call-unasked : (q : Code) → is_unasked first q ≡ true → is_loose_key_call q ≡ false
  is_loose_key_call-unasked (helper_call k g es) h = absurd (cc)
  is_loose_key_call-unasked q h = refl

  pub given_function-unasked : (m : ℕ) (s : String) (g : GeneratedKind) (q : Code) → is_unasked first q ≡ true → given_function m s g q ≡ no_rule
  given_function-unasked m s g (function f form own_name ps body) h = absurd (cc)
  given_function-unasked m s g (new_function f form ps body) h = absurd (cc)
  given_function-unasked m s g q h = refl

  pub setter_on-unasked : (m : ℕ) (x : PrivateMember) (q : Code) → is_unasked first q ≡ true → setter_on m (Some x) q ≡ no_rule
  setter_on-unasked m x (helper_call k g es) h = absurd (cc)
  setter_on-unasked m x (name k s kind) h = absurd (cc)
  setter_on-unasked m x q h = by (is_setter_kind x.kind) x.is_static
    where
      by : (b d : Bool) → cond (b && (d && false)) (setter m x.number q) no_rule ≡ no_rule
      by true true = refl
      by true false = refl
      by false d = refl

  pub getter_call-unasked : (m : ℕ) (x : PrivateMember) (q : Code) → is_unasked first q ≡ true → getter_call m x (and q done) ≡ no_rule
  getter_call-unasked m x (helper_call k g es) h = absurd (cc)
  getter_call-unasked m x (name k s kind) h = absurd (cc)
  getter_call-unasked m x q h = by x.is_static
    where
      by : (d : Bool) → cond (d && false) (from_call (private_member m (reference_of x) q)) no_rule ≡ no_rule
      by true = refl
      by false = refl

  pub getter_more-unasked : (m : ℕ) (x : PrivateMember) (q c : Code) (cs : Codes) → is_unasked first q ≡ true → getter_call m x (and q (and c cs)) ≡ no_rule
  getter_more-unasked m x (helper_call k g es) c cs h = absurd (cc)
  getter_more-unasked m x q c cs h = refl

  pub super_function_call-unasked : (m n : ℕ) (s : String) (q : Code) (cs : Codes) → is_unasked first q ≡ true → super_function_call m n s (and q cs) ≡ no_rule
  super_function_call-unasked m n s (super_call k j o es) cs h = absurd (cc)
  super_function_call-unasked m n s q cs h = refl

  pub private_assignment-unasked : (new : Bool) (m k : ℕ) (r : PrivateReference) (own q : Code) → is_unasked first q ≡ true → private_assignment new m k r own q ≡ assign (to_private k r own) (value_of_private r.writes new m q)
  private_assignment-unasked new m k r own (helper_call j g es) h = absurd (cc)
  private_assignment-unasked new m k r own q h = refl

  pub pick_first-unasked : (q : Code) (cs : Codes) (body : Code) → is_unasked first q ≡ true → is_pick (and q cs) body ≡ false
  pick_first-unasked (binding b s kind) cs body h = absurd (cc)
  pick_first-unasked q cs body h = refl

  pub pick_second-unasked : (b : ℕ) (p : String) (q : Code) (cs : Codes) (body : Code) → is_unasked first q ≡ true → is_pick (and (binding b p (Generated GeneratedKind.Param)) (and q cs)) body ≡ false
  pick_second-unasked b p (binding b2 s kind) cs body h = absurd (cc)
  pick_second-unasked b p q cs body h = refl

  pub pick_body-unasked : (b b2 : ℕ) (p r : String) (q : Code) → is_unasked first q ≡ true → is_pick (and (binding b p (Generated GeneratedKind.Param)) (and (binding b2 r (Generated GeneratedKind.Param)) done)) q ≡ false
  pick_body-unasked b b2 p r (member m (name k s kind) key) h = absurd (cc)
  pick_body-unasked b b2 p r q h = refl

  pub pick_object-unasked : (b b2 : ℕ) (p r : String) (m : ℕ) (q key : Code) → is_unasked first q ≡ true → is_pick (and (binding b p (Generated GeneratedKind.Param)) (and (binding b2 r (Generated GeneratedKind.Param)) done)) (member m q key) ≡ false
  pick_object-unasked b b2 p r m (name k s kind) key h = absurd (cc)
  pick_object-unasked b b2 p r m q key h = refl

  pub pick_key-unasked : (b b2 : ℕ) (p r : String) (m k : ℕ) (s : String) (g : GeneratedKind) (q : Code) → is_unasked first q ≡ true → is_pick (and (binding b p (Generated GeneratedKind.Param)) (and (binding b2 r (Generated GeneratedKind.Param)) done)) (member m (name k s (Generated g)) q) ≡ false
  pick_key-unasked b b2 p r m k s g (name j t kind) h = absurd (cc)
  pick_key-unasked b b2 p r m k s g q h = refl

module _ (c : Context) where
  pub weak_map-unasked : (q : Code) → is_unasked c.first_new q ≡ true → weak_map c q ≡ None
  weak_map-unasked (name m s kind) h = absurd (cc)
  weak_map-unasked q h = refl

  pub static_field-unasked : (q : Code) → is_unasked c.first_new q ≡ true → static_field c q ≡ None
  static_field-unasked (name m s kind) h = absurd (cc)
  static_field-unasked q h = refl

  pub private_function-unasked : (q : Code) → is_unasked c.first_new q ≡ true → private_function c q ≡ None
  private_function-unasked (name m s kind) h = absurd (cc)
  private_function-unasked q h = refl

  pub loose_key-unasked : (q : Code) → is_unasked c.first_new q ≡ true → loose_key c q ≡ None
  loose_key-unasked (name m s kind) h = absurd (cc)
  loose_key-unasked q h = refl

  pub single_property-unasked : (q : Code) → is_unasked c.first_new q ≡ true → single_property c q ≡ None
  single_property-unasked (operation m (OfKind Kind.ObjectExpression ds) es held) h = absurd (cc)
  single_property-unasked q h = refl

  pub single_first-unasked : (m : ℕ) (kind : String) (is_method : Bool) (q : Code) (es held : Codes) → is_unasked c.first_new q ≡ true → single_property c (operation m (OfKind Kind.ObjectExpression (Opens ∷ Operand ∷ Operand ∷ Spelled kind ∷ Flag is_method ∷ Closes ∷ [])) (and q es) held) ≡ None
  single_first-unasked m kind is_method (key_of e) es held h = absurd (cc)
  single_first-unasked m kind is_method q es held h = refl

  pub writable_value-unasked : (q : Code) → is_unasked c.first_new q ≡ true → writable_value c q ≡ None
  writable_value-unasked (operation m (OfKind Kind.ObjectExpression ds) es held) h = absurd (cc)
  writable_value-unasked q h = refl

  pub writable_first-unasked : (m : ℕ) (k1 kind1 : String) (method1 : Bool) (k2 kind2 : String) (method2 : Bool) (q : Code) (es held : Codes) → is_unasked c.first_new q ≡ true → writable_value c (operation m (OfKind Kind.ObjectExpression (Opens ∷ Key (StringOf k1) ∷ Operand ∷ Spelled kind1 ∷ Flag method1 ∷ Key (StringOf k2) ∷ Operand ∷ Spelled kind2 ∷ Flag method2 ∷ Closes ∷ [])) (and q es) held) ≡ None
  writable_first-unasked m k1 kind1 method1 k2 kind2 method2 (value v) es held h = absurd (cc)
  writable_first-unasked m k1 kind1 method1 k2 kind2 method2 q es held h = refl

  pub array_elements-unasked : (q : Code) → is_unasked c.first_new q ≡ true → array_elements c q ≡ None
  array_elements-unasked (operation m (OfKind Kind.ArrayExpression ds) es held) h = absurd (cc)
  array_elements-unasked q h = refl

  pub is_helper_object-unasked : (q : Code) → is_unasked c.first_new q ≡ true → is_helper_object c q ≡ false
  is_helper_object-unasked (name m s kind) h = absurd (cc)
  is_helper_object-unasked q h = refl

  pub underscore_of-unasked : (m : ℕ) (q whole : Code) → is_unasked c.first_new q ≡ true → underscore_of c m q whole ≡ whole
  underscore_of-unasked m (helper_call k g es) whole h = absurd (cc)
  underscore_of-unasked m (name k s kind) whole h = absurd (cc)
  underscore_of-unasked m q whole h = refl

  pub loose_member-unasked : (m : ℕ) (q key whole : Code) → is_unasked c.first_new q ≡ true → loose_member c m q key whole ≡ whole
  loose_member-unasked m (helper_call k g es) key whole h = absurd (cc)
  loose_member-unasked m q key whole h = refl

  pub setter_of-unasked : (m : ℕ) (q : Code) (cs : Codes) → is_unasked c.first_new q ≡ true → setter_of c m (and q cs) ≡ no_rule
  setter_of-unasked m (bound f o) cs h = absurd (cc)
  setter_of-unasked m (helper g) cs h = absurd (cc)
  setter_of-unasked m q cs h = refl

  pub member_call-unasked : (m : ℕ) (q key : Code) (es : Codes) (whole : Code) → is_unasked c.first_new q ≡ true → member_call c m q key es whole ≡ whole
  member_call-unasked m (name k s kind) key es whole h = absurd (cc)
  member_call-unasked m q key es whole h = refl

  pub called_with-unasked : (m : ℕ) (q : Code) (es : Codes) → is_unasked c.first_new q ≡ true → called_with c m q es ≡ received_call m q es
  called_with-unasked m (name k s kind) es h = absurd (cc)
  called_with-unasked m q es h = refl

  pub is_new_collection-unasked : (s : String) (q : Code) → is_unasked c.first_new q ≡ true → is_new_collection c s q ≡ false
  is_new_collection-unasked s (construct m (name k t kind) done) h = absurd (cc)
  is_new_collection-unasked s (construct m (name k t (Changing (Free spelling))) (and e es)) h = refl
  is_new_collection-unasked s (construct m (name k t (Changing (Bound b))) (and e es)) h = refl
  is_new_collection-unasked s (construct m (name k t (Fixed b)) (and e es)) h = refl
  is_new_collection-unasked s (construct m (name k t (MeansClass n b)) (and e es)) h = refl
  is_new_collection-unasked s (construct m (name k t (Generated g)) (and e es)) h = refl
  is_new_collection-unasked s (construct m (name k t (StaticMethod d n)) (and e es)) h = refl
  is_new_collection-unasked s q h = refl

  pub generated_binary-unasked : (m : ℕ) (operator : String) (q r whole : Code) → is_unasked c.first_new q ≡ true → generated_binary c m operator q r whole ≡ whole
  generated_binary-unasked m operator (helper_call k g es) r whole h = absurd (cc)
  generated_binary-unasked m operator (name k s kind) r whole h = absurd (cc)
  generated_binary-unasked m operator q r whole h = refl
