-- Keys of generated forms, by what codes are.
use Rattle.std.proofs.Common.{◌≡◌, refl, sym, ap, ◌∙◌, ℕ, List, true, false, Some, None}
use Rattle.std.specs.Prelude.{◌||◌, bytes_eq}
use Rattle.std.proofs.Math.Bool.{or-false}
use Rattle.es_steps.specs.GeneratedForms as spec
use Rattle.es_steps.specs.Context as names
use Rattle.es_steps.specs.Values as values
use Rattle.es_codes.specs.Keyed.{is_key}
use Rattle.es_code_new_literals.specs.Keys.{string_in, string_in_constant, string_in_value, if_generated, generated_in, private_in, is_same}
use Rattle.es_steps.specs.Code as of
use Rattle.es_codes.proofs.Forms.{code_out, name_is, private_value_is, value_is}
use Rattle.es_codes.specs.CodeView.{code_of, target_of, callee_of, code_step}
use Rattle.es_codes.specs.View.{kind_of}
use Rattle.es_codes.specs.declared.code.Code.{Code}
use Rattle.es_codes.specs.declared.code.Target.{Target}
use Rattle.es_codes.specs.declared.code.Callee.{Callee}
use Rattle.es_codes.specs.declared.name.NameKind.{NameKind}
use Rattle.es_codes.specs.declared.code.Code.TheVariants as variants
use Rattle.es_codes.specs.declared.code.Callee.TheOpen.{Code-F}
use Rattle.es_codes.specs.declared.code.Callee.TheViews.{roll-Code, out-Code, roll-out-Code}
use Rattle.es_codes.specs.declared.code.Callee.TheFolds.{map-Code}

pub key_no_string : (v : values.Value) → is_key v ≡ true → None ≡ string_in_value v
key_no_string (values.KeyOf v) h = refl
key_no_string v h = cc

pub a_value : (e : Code) (value : values.Value) → e ≡ variants.Value value → string_in (code_of e) ≡ string_in_value value
a_value e value is = ap (λ x. string_in (code_of x)) is ∙ ap (λ x. string_in x) (value_is value)

pub no_value : (e : Code) → ((value : values.Value) → e ≡ variants.Value value → ⊥) → string_in (code_of e) ≡ None
no_value e not_value = ap (λ x. string_in x) (code_out e) ∙ by (out-Code e) (roll-out-Code e)
  where
    by : (y : Code-F Callee Code Target) → roll-Code y ≡ e → string_in (code_step (map-Code Callee Code Target of.Callee of.Code of.Target callee_of code_of target_of y)) ≡ None
    by (Code-F.Value value) is = absurd (not_value value (sym is ∙ variants.rolls-Value value))
    by y is = refl

pub a_name : (e : Code) (node : ℕ) (spelling : List ℕ) (kind : NameKind) → e ≡ variants.Name node spelling kind → generated_in (code_of e) ≡ if_generated spelling (kind_of kind)
a_name e node spelling kind is = ap (λ x. generated_in (code_of x)) is ∙ ap (λ x. generated_in x) (name_is node spelling kind)

pub no_name : (e : Code) → ((node : ℕ) (spelling : List ℕ) (kind : NameKind) → e ≡ variants.Name node spelling kind → ⊥) → generated_in (code_of e) ≡ None
no_name e not_name = ap (λ x. generated_in x) (code_out e) ∙ by (out-Code e) (roll-out-Code e)
  where
    by : (y : Code-F Callee Code Target) → roll-Code y ≡ e → generated_in (code_step (map-Code Callee Code Target of.Callee of.Code of.Target callee_of code_of target_of y)) ≡ None
    by (Code-F.Name node spelling kind) is = absurd (not_name node spelling kind (sym is ∙ variants.rolls-Name node spelling kind))
    by y is = refl

pub a_private_value : (e : Code) (spelling : List ℕ) → e ≡ variants.PrivateValue spelling → private_in (code_of e) ≡ Some spelling
a_private_value e spelling is = ap (λ x. private_in (code_of x)) is ∙ ap (λ x. private_in x) (private_value_is spelling)

pub no_private_value : (e : Code) → ((spelling : List ℕ) → e ≡ variants.PrivateValue spelling → ⊥) → private_in (code_of e) ≡ None
no_private_value e not_private_value = ap (λ x. private_in x) (code_out e) ∙ by (out-Code e) (roll-out-Code e)
  where
    by : (y : Code-F Callee Code Target) → roll-Code y ≡ e → private_in (code_step (map-Code Callee Code Target of.Callee of.Code of.Target callee_of code_of target_of y)) ≡ None
    by (Code-F.PrivateValue spelling) is = absurd (not_private_value spelling (sym is ∙ variants.rolls-PrivateValue spelling))
    by y is = refl

-- ---- comparing

pub same_key : (k l : of.Code) → ((is_same (string_in k) (string_in l) || is_same (generated_in k) (generated_in l)) || is_same (private_in k) (private_in l)) ≡ spec.is_same_key k l
same_key (of.value (values.ConstantOf (values.StringOf s))) (of.value (values.ConstantOf (values.StringOf t))) = or-false (bytes_eq s t || false) ∙ or-false (bytes_eq s t)
same_key (of.value (values.ConstantOf (values.StringOf s))) l = refl
same_key (of.name m s (names.Generated g)) (of.name n t (names.Generated h)) = or-false (bytes_eq s t)
same_key (of.name m s (names.Generated g)) l = refl
same_key (of.private_value s) (of.private_value t) = refl
same_key (of.private_value s) l = refl
same_key k l = refl

pub same_constant_key : (k : of.Code) (l : values.Constant) → is_same (string_in k) (string_in_constant l) ≡ spec.is_same_key k (of.value (values.ConstantOf l))
same_constant_key (of.value (values.ConstantOf (values.StringOf s))) (values.StringOf t) = refl
same_constant_key (of.value (values.ConstantOf (values.StringOf s))) l = refl
same_constant_key (of.name m s (names.Generated g)) l = refl
same_constant_key (of.private_value s) l = refl
same_constant_key k l = refl
