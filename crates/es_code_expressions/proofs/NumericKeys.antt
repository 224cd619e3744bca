-- Whether a key is a number, by its form.
use Rattle.std.proofs.Common.{◌≡◌, refl, sym, ap, ◌∙◌, true, false}
use Rattle.es_codes.proofs.Forms.{code_out, value_is}
use Rattle.es_codes.specs.CodeView.{code_of, target_of, callee_of, code_step}
use Rattle.es_codes.specs.Keyed.{is_key}
use Rattle.es_codes.specs.declared.code.Callee.{Callee}
use Rattle.es_codes.specs.declared.code.Callee.TheFolds.{map-Code}
use Rattle.es_codes.specs.declared.code.Callee.TheOpen.{Code-F}
use Rattle.es_codes.specs.declared.code.Callee.TheViews.{roll-Code, out-Code, roll-out-Code}
use Rattle.es_codes.specs.declared.code.Code.{Code}
use Rattle.es_codes.specs.declared.code.Code.TheVariants as variants
use Rattle.es_codes.specs.declared.code.Target.{Target}
use Rattle.es_steps.specs.Code as of
use Rattle.es_steps.specs.Expressions.{is_numeric}
use Rattle.es_steps.specs.Values.{Value, KeyOf}

pub no_number : (v : Value) → is_key v ≡ true → false ≡ is_numeric (of.value v)
no_number (KeyOf v) e = refl
no_number v e = cc

pub numeric_value : (e : Code) (value : Value) → e ≡ variants.Value value → is_numeric (code_of e) ≡ is_numeric (of.value value)
numeric_value e value is = ap (λ x. is_numeric (code_of x)) is ∙ ap (λ x. is_numeric x) (value_is value)

pub others_numeric : (e : Code) → ((value : Value) → e ≡ variants.Value value → ⊥) → is_numeric (code_of e) ≡ false
others_numeric e not_value = ap (λ x. is_numeric x) (code_out e) ∙ by (out-Code e) (roll-out-Code e)
  where
    by : (y : Code-F Callee Code Target) → roll-Code y ≡ e → is_numeric (code_step (map-Code Callee Code Target of.Callee of.Code of.Target callee_of code_of target_of y)) ≡ false
    by (Code-F.Value value) is = absurd (not_value value (sym is ∙ variants.rolls-Value value))
    by y is = refl
