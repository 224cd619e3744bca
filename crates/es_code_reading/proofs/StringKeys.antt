-- Keys that are strings, by the forms of codes.
use Rattle.std.proofs.Common.{◌≡◌, refl, sym, ap, ◌∙◌, ℕ, List, Bool, true, false, Option, Some, None}
use Rattle.es_steps.specs.Statements as spec
use Rattle.es_steps.specs.Context.{is_constructor}
use Rattle.es_steps.specs.Values as values
use Rattle.es_codes.specs.Keyed.{is_key}
use Rattle.es_code_reading.specs.Letters.{key_string, string_in}
use Rattle.es_steps.specs.Code as of
use Rattle.es_codes.proofs.Forms.{spelled_is, value_is}
use Rattle.es_codes.specs.CodeView.{code_of, target_of, callee_of, code_step}
use Rattle.es_codes.specs.declared.code.Code.{Code}
use Rattle.es_codes.specs.declared.code.Target.{Target}
use Rattle.es_codes.specs.declared.code.Callee.{Callee}
use Rattle.es_steps.specs.Values.{Value}
use Rattle.es_codes.specs.declared.code.Code.TheVariants as variants
use Rattle.es_codes.specs.declared.code.Callee.TheOpen.{Code-F}
use Rattle.es_codes.specs.declared.code.Callee.TheViews.{roll-Code, out-Code, roll-out-Code}
use Rattle.es_codes.specs.declared.code.Callee.TheFolds.{map-Code}
use Rattle.es_code_reading.proofs.FormCases.{code-out}

pub of_spelled : (e : Code) (spelling : List ℕ) → e ≡ variants.Spelled spelling → key_string (code_of e) ≡ Some spelling
of_spelled e spelling is = ap (λ x. key_string (code_of x)) is ∙ ap (λ x. key_string x) (spelled_is spelling)

pub of_value : (e : Code) (value : Value) → e ≡ variants.Value value → key_string (code_of e) ≡ string_in value
of_value e value is = ap (λ x. key_string (code_of x)) is ∙ ap (λ x. key_string x) (value_is value)

pub of_others : (e : Code) → ((spelling : List ℕ) → e ≡ variants.Spelled spelling → ⊥) → ((value : Value) → e ≡ variants.Value value → ⊥) → key_string (code_of e) ≡ None
of_others e no_spelled no_value = ap (λ x. key_string x) (code-out e) ∙ by (out-Code e) (roll-out-Code e)
  where
    by : (y : Code-F Callee Code Target) → roll-Code y ≡ e → key_string (code_step (map-Code Callee Code Target of.Callee of.Code of.Target callee_of code_of target_of y)) ≡ None
    by (Code-F.Spelled spelling) is = absurd (no_spelled spelling (sym is ∙ variants.rolls-Spelled spelling))
    by (Code-F.Value value) is = absurd (no_value value (sym is ∙ variants.rolls-Value value))
    by y is = refl

pub no_string : (v : values.Value) → is_key v ≡ true → None ≡ string_in v
no_string (values.KeyOf v) e = refl
no_string v e = cc

abbrev by-string : (List ℕ → Bool) → Option (List ℕ) → Bool
by-string f None = false
by-string f (Some s) = f s

constructor-by : (k : of.Code) → spec.is_constructor_key k ≡ by-string is_constructor (key_string k)
constructor-by (of.spelled s) = refl
constructor-by (of.value (values.ConstantOf (values.StringOf s))) = refl
constructor-by (of.value (values.ConstantOf k)) = refl
constructor-by (of.value v) = refl
constructor-by k = refl

pub a_constructor : (k : of.Code) (s : List ℕ) → Some s ≡ key_string k → is_constructor s ≡ spec.is_constructor_key k
a_constructor k s is = ap (by-string is_constructor) is ∙ sym (constructor-by k)

pub no_constructor : (k : of.Code) → None ≡ key_string k → false ≡ spec.is_constructor_key k
no_constructor k is = ap (by-string is_constructor) is ∙ sym (constructor-by k)

name-by : (k : of.Code) → spec.is_name_or_length k ≡ by-string spec.is_name_string (key_string k)
name-by (of.spelled s) = refl
name-by (of.value (values.ConstantOf (values.StringOf s))) = refl
name-by (of.value (values.ConstantOf k)) = refl
name-by (of.value v) = refl
name-by k = refl

pub a_name : (k : of.Code) (s : List ℕ) → Some s ≡ key_string k → spec.is_name_string s ≡ spec.is_name_or_length k
a_name k s is = ap (by-string spec.is_name_string) is ∙ sym (name-by k)

pub no_name : (k : of.Code) → None ≡ key_string k → false ≡ spec.is_name_or_length k
no_name k is = ap (by-string spec.is_name_string) is ∙ sym (name-by k)
