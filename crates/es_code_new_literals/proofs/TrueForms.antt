-- `true`, by the forms of codes.
use Rattle.std.proofs.Common.{◌≡◌, refl, sym, ap, ◌∙◌, List, [], ◌∷◌, true, false, None, length}
use Rattle.es_steps.specs.Values as values
use Rattle.es_codes.specs.Keyed.{is_key}
use Rattle.es_code_new_literals.specs.Literals.{is_true, behind_true}
use Rattle.es_steps.specs.Code as of
use Rattle.es_codes.proofs.Forms.{code_out, value_is}
use Rattle.es_codes.specs.CodeView.{code_of, target_of, callee_of, codes_of, code_step}
use Rattle.es_codes.specs.declared.code.Code.{Code}
use Rattle.es_codes.specs.declared.code.Target.{Target}
use Rattle.es_codes.specs.declared.code.Callee.{Callee}
use Rattle.es_codes.specs.declared.code.Code.TheVariants as variants
use Rattle.es_codes.specs.declared.code.Callee.TheOpen.{Code-F}
use Rattle.es_codes.specs.declared.code.Callee.TheViews.{roll-Code, out-Code, roll-out-Code}
use Rattle.es_codes.specs.declared.code.Callee.TheFolds.{map-Code}

pub key_no_true : (v : values.Value) → is_key v ≡ true → false ≡ is_true (of.value v)
key_no_true (values.KeyOf v) h = refl
key_no_true v h = cc

pub a_value : (e : Code) (value : values.Value) → e ≡ variants.Value value → is_true (code_of e) ≡ is_true (of.value value)
a_value e value is = ap (λ x. is_true (code_of x)) is ∙ ap (λ x. is_true x) (value_is value)

pub no_value : (e : Code) → ((value : values.Value) → e ≡ variants.Value value → ⊥) → is_true (code_of e) ≡ false
no_value e not_value = ap (λ x. is_true x) (code_out e) ∙ by (out-Code e) (roll-out-Code e)
  where
    by : (y : Code-F Callee Code Target) → roll-Code y ≡ e → is_true (code_step (map-Code Callee Code Target of.Callee of.Code of.Target callee_of code_of target_of y)) ≡ false
    by (Code-F.Value value) is = absurd (not_value value (sym is ∙ variants.rolls-Value value))
    by y is = refl

pub not_two : (es : List Code) → (length es ≡ 2 → ⊥) → None ≡ behind_true (codes_of es)
not_two [] h = refl
not_two (e ∷ []) h = refl
not_two (e ∷ d ∷ []) h = absurd (h refl)
not_two (e ∷ d ∷ c ∷ es) h = refl
