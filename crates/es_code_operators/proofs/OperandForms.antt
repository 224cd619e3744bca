-- Operands that are names, by the forms of codes.
use Rattle.std.proofs.Common.{◌≡◌, refl, sym, ap, ◌∙◌, ℕ, List, Bool, true, false}
use Rattle.std.specs.Prelude.{◌&&◌, ◌||◌, bytes_eq, codes}
use Rattle.es_codes.specs.Keyed.{is_key}
use Rattle.es_steps.specs.Context as names
use Rattle.es_steps.specs.Expressions as spec
use Rattle.es_steps.specs.Values as values
use Rattle.es_code_operators.specs.Operands.{is_arguments_value, is_free_kind}
use Rattle.es_steps.specs.Code as of
use Rattle.es_codes.proofs.Forms.{code_out, name_is, value_is}
use Rattle.es_codes.specs.CodeView.{code_of, target_of, callee_of, code_step}
use Rattle.es_codes.specs.View.{kind_of}
use Rattle.es_codes.specs.declared.code.Code.{Code}
use Rattle.es_codes.specs.declared.code.Target.{Target}
use Rattle.es_codes.specs.declared.code.Callee.{Callee}
use Rattle.es_codes.specs.declared.name.NameKind.{NameKind}
use Rattle.es_codes.specs.declared.code.Code.TheVariants as variants
use Rattle.es_codes.specs.declared.code.Callee.TheOpen.{Code-F}
use Rattle.es_codes.specs.declared.code.Callee.TheViews.{roll-Code, out-Code, roll-out-Code}
use Rattle.es_codes.specs.declared.code.Callee.TheFolds.{map-Code}

free-name : (m : ℕ) (s : List ℕ) (kind : names.NameKind) → spec.is_free_name (of.name m s kind) ≡ is_free_kind kind
free-name m s (names.Changing (values.Free t)) = refl
free-name m s (names.Changing r) = refl
free-name m s kind = refl

any-value : (v : values.Value) → spec.is_any_name (of.value v) ≡ is_arguments_value v
any-value (values.ArgumentsOf k) = refl
any-value v = refl

pub key_no_arguments : (v : values.Value) → is_key v ≡ true → false ≡ is_arguments_value v
key_no_arguments (values.KeyOf v) h = refl
key_no_arguments v h = cc

and-false : (b : Bool) → (b && false) ≡ false
and-false true = refl
and-false false = refl

pub asks_nothing : (s : List ℕ) → false ≡ spec.asks_for_name s of.no_rule
asks_nothing s = sym (ap (λ b. b || (bytes_eq s (codes "delete") && false)) (and-false (bytes_eq s (codes "typeof"))) ∙ and-false (bytes_eq s (codes "delete")))

pub free_name : (e : Code) (node : ℕ) (spelling : List ℕ) (kind : NameKind) → e ≡ variants.Name node spelling kind → spec.is_free_name (code_of e) ≡ is_free_kind (kind_of kind)
free_name e node spelling kind is = ap (λ x. spec.is_free_name (code_of x)) is ∙ ap (λ x. spec.is_free_name x) (name_is node spelling kind) ∙ free-name node spelling (kind_of kind)

pub no_free_name : (e : Code) → ((node : ℕ) (spelling : List ℕ) (kind : NameKind) → e ≡ variants.Name node spelling kind → ⊥) → spec.is_free_name (code_of e) ≡ false
no_free_name e not_name = ap (λ x. spec.is_free_name x) (code_out e) ∙ by (out-Code e) (roll-out-Code e)
  where
    by : (y : Code-F Callee Code Target) → roll-Code y ≡ e → spec.is_free_name (code_step (map-Code Callee Code Target of.Callee of.Code of.Target callee_of code_of target_of y)) ≡ false
    by (Code-F.Name node spelling kind) is = absurd (not_name node spelling kind (sym is ∙ variants.rolls-Name node spelling kind))
    by y is = refl

pub a_name : (e : Code) (node : ℕ) (spelling : List ℕ) (kind : NameKind) → e ≡ variants.Name node spelling kind → spec.is_any_name (code_of e) ≡ true
a_name e node spelling kind is = ap (λ x. spec.is_any_name (code_of x)) is ∙ ap (λ x. spec.is_any_name x) (name_is node spelling kind)

pub a_value : (e : Code) (value : values.Value) → e ≡ variants.Value value → spec.is_any_name (code_of e) ≡ is_arguments_value value
a_value e value is = ap (λ x. spec.is_any_name (code_of x)) is ∙ ap (λ x. spec.is_any_name x) (value_is value) ∙ any-value value

pub no_name : (e : Code) → ((node : ℕ) (spelling : List ℕ) (kind : NameKind) → e ≡ variants.Name node spelling kind → ⊥) → ((value : values.Value) → e ≡ variants.Value value → ⊥) → spec.is_any_name (code_of e) ≡ false
no_name e not_name not_value = ap (λ x. spec.is_any_name x) (code_out e) ∙ by (out-Code e) (roll-out-Code e)
  where
    by : (y : Code-F Callee Code Target) → roll-Code y ≡ e → spec.is_any_name (code_step (map-Code Callee Code Target of.Callee of.Code of.Target callee_of code_of target_of y)) ≡ false
    by (Code-F.Name node spelling kind) is = absurd (not_name node spelling kind (sym is ∙ variants.rolls-Name node spelling kind))
    by (Code-F.Value value) is = absurd (not_value value (sym is ∙ variants.rolls-Value value))
    by y is = refl
