-- A literal, or a known object, is told by the value that a code is.
use Rattle.std.proofs.Common.{◌≡◌, refl, sym, ap, ◌∙◌, Bool, true, false, cond, nat_eq, Option, Some, None}
use Rattle.std.specs.Prelude.{not, ◌&&◌}
use Rattle.es_base.specs.declared.ledger.GeneratedKind.{GeneratedKind}
use Rattle.es_codes.specs.Keyed.{is_key}
use Rattle.es_steps.specs.Code.{Code, value, name}
use Rattle.es_steps.specs.Context.{NameKind, Generated}
use Rattle.es_steps.specs.GeneratedForms.{is_string, is_number_literal, is_constant, is_null, is_undefined, known_object, class_named, class_value, is_brand, is_class_named}
use Rattle.es_steps.specs.PrivateNames.{PrivateMember}
use Rattle.es_steps.specs.Values.{String, Value, ConstantOf, StringOf, NumberOf, Null, Undefined, ThisOf, ClassOf, KeyOf}
use Rattle.es_code_reading.specs.Letters.{name_kind_in, value_in, known_value, is_string_value, is_number_value, is_constant_value, is_null_value, is_undefined_value, is_class_value, is_brand_of}

abbrev by_value : (Value → Bool) → Option Value → Bool
by_value f None = false
by_value f (Some v) = f v

string-by : (s : String) (e : Code) → is_string s e ≡ by_value (is_string_value s) (value_in e)
string-by s (value (ConstantOf (StringOf t))) = refl
string-by s (value (ConstantOf k)) = refl
string-by s (value v) = refl
string-by s e = refl

pub string_valued : (s : String) (e : Code) (v : Value) → Some v ≡ value_in e → is_string_value s v ≡ is_string s e
string_valued s e v is = ap (by_value (is_string_value s)) is ∙ sym (string-by s e)

pub string_unvalued : (s : String) (e : Code) → None ≡ value_in e → false ≡ is_string s e
string_unvalued s e is = ap (by_value (is_string_value s)) is ∙ sym (string-by s e)

pub key_no_string : (s : String) (v : Value) → is_key v ≡ true → false ≡ is_string_value s v
key_no_string s (KeyOf v) e = refl
key_no_string s v e = cc

number-by : (s : String) (e : Code) → is_number_literal s e ≡ by_value (is_number_value s) (value_in e)
number-by s (value (ConstantOf (NumberOf t))) = refl
number-by s (value (ConstantOf k)) = refl
number-by s (value v) = refl
number-by s e = refl

pub number_valued : (s : String) (e : Code) (v : Value) → Some v ≡ value_in e → is_number_value s v ≡ is_number_literal s e
number_valued s e v is = ap (by_value (is_number_value s)) is ∙ sym (number-by s e)

pub number_unvalued : (s : String) (e : Code) → None ≡ value_in e → false ≡ is_number_literal s e
number_unvalued s e is = ap (by_value (is_number_value s)) is ∙ sym (number-by s e)

pub key_no_number : (s : String) (v : Value) → is_key v ≡ true → false ≡ is_number_value s v
key_no_number s (KeyOf v) e = refl
key_no_number s v e = cc

constant-by : (e : Code) → is_constant e ≡ by_value is_constant_value (value_in e)
constant-by (value (ConstantOf k)) = refl
constant-by (value v) = refl
constant-by e = refl

pub constant_valued : (e : Code) (v : Value) → Some v ≡ value_in e → is_constant_value v ≡ is_constant e
constant_valued e v is = ap (by_value is_constant_value) is ∙ sym (constant-by e)

pub constant_unvalued : (e : Code) → None ≡ value_in e → false ≡ is_constant e
constant_unvalued e is = ap (by_value is_constant_value) is ∙ sym (constant-by e)

pub key_no_constant : (v : Value) → is_key v ≡ true → false ≡ is_constant_value v
key_no_constant (KeyOf v) e = refl
key_no_constant v e = cc

null-by : (e : Code) → is_null e ≡ by_value is_null_value (value_in e)
null-by (value (ConstantOf Null)) = refl
null-by (value (ConstantOf k)) = refl
null-by (value v) = refl
null-by e = refl

pub null_valued : (e : Code) (v : Value) → Some v ≡ value_in e → is_null_value v ≡ is_null e
null_valued e v is = ap (by_value is_null_value) is ∙ sym (null-by e)

pub null_unvalued : (e : Code) → None ≡ value_in e → false ≡ is_null e
null_unvalued e is = ap (by_value is_null_value) is ∙ sym (null-by e)

pub key_no_null : (v : Value) → is_key v ≡ true → false ≡ is_null_value v
key_no_null (KeyOf v) e = refl
key_no_null v e = cc

undefined-by : (e : Code) → is_undefined e ≡ by_value is_undefined_value (value_in e)
undefined-by (value Undefined) = refl
undefined-by (value v) = refl
undefined-by e = refl

pub undefined_valued : (e : Code) (v : Value) → Some v ≡ value_in e → is_undefined_value v ≡ is_undefined e
undefined_valued e v is = ap (by_value is_undefined_value) is ∙ sym (undefined-by e)

pub undefined_unvalued : (e : Code) → None ≡ value_in e → false ≡ is_undefined e
undefined_unvalued e is = ap (by_value is_undefined_value) is ∙ sym (undefined-by e)

pub key_no_undefined : (v : Value) → is_key v ≡ true → false ≡ is_undefined_value v
key_no_undefined (KeyOf v) e = refl
key_no_undefined v e = cc

pub key_no_class : (v : Value) → is_key v ≡ true → false ≡ is_class_value v
key_no_class (KeyOf v) e = refl
key_no_class v e = cc

-- ---- known objects

abbrev by-object : Option Value → Option Value → Option Value
by-object None k = k
by-object (Some v) k = known_value v

known-by : (e : Code) → known_object e ≡ by-object (value_in e) (class_value (class_named e))
known-by (value (ThisOf k)) = refl
known-by (value (ClassOf n)) = refl
known-by (value v) = refl
known-by e = refl

pub known_valued : (e : Code) (v : Value) → Some v ≡ value_in e → known_value v ≡ known_object e
known_valued e v is = ap (λ x. by-object x (class_value (class_named e))) is ∙ sym (known-by e)

pub known_unvalued : (e : Code) → None ≡ value_in e → class_value (class_named e) ≡ known_object e
known_unvalued e is = ap (λ x. by-object x (class_value (class_named e))) is ∙ sym (known-by e)

pub key_unknown : (v : Value) → is_key v ≡ true → None ≡ known_value v
key_unknown (KeyOf v) e = refl
key_unknown v e = cc

-- ---- brands

abbrev by_name : (NameKind → Bool) → Option NameKind → Bool
by_name f None = false
by_name f (Some kind) = f kind

branded : (b c : Bool) → cond b false c ≡ (not b && c)
branded true c = refl
branded false c = refl

classed : (b c : Bool) → cond b c false ≡ (b && c)
classed true c = refl
classed false c = refl

brand-by : (x : PrivateMember) (e : Code) → cond x.is_static (is_class_named x.class e) (by_name (is_brand_of x.class) (name_kind_in e)) ≡ is_brand x e
brand-by x (name m s (Generated (GeneratedKind.Brand n))) = branded x.is_static (nat_eq n.0 x.class)
brand-by x (name m s kind) = classed x.is_static (is_class_named x.class (name m s kind))
brand-by x e = classed x.is_static (is_class_named x.class e)

pub static_brand : (x : PrivateMember) (e : Code) → x.is_static ≡ true → is_class_named x.class e ≡ is_brand x e
static_brand x e is = sym (ap (λ b. cond b (is_class_named x.class e) (by_name (is_brand_of x.class) (name_kind_in e))) is) ∙ brand-by x e

pub own_brand : (x : PrivateMember) (e : Code) (kind : NameKind) → x.is_static ≡ false → Some kind ≡ name_kind_in e → is_brand_of x.class kind ≡ is_brand x e
own_brand x e kind is named = ap (by_name (is_brand_of x.class)) named ∙ sym (ap (λ b. cond b (is_class_named x.class e) (by_name (is_brand_of x.class) (name_kind_in e))) is) ∙ brand-by x e

pub no_brand : (x : PrivateMember) (e : Code) → x.is_static ≡ false → None ≡ name_kind_in e → false ≡ is_brand x e
no_brand x e is unnamed = ap (by_name (is_brand_of x.class)) unnamed ∙ sym (ap (λ b. cond b (is_class_named x.class e) (by_name (is_brand_of x.class) (name_kind_in e))) is) ∙ brand-by x e
