-- The constant that a key is, by its form.
use Rattle.std.proofs.Common.{◌≡◌, refl, sym, ap, ◌∙◌, ℕ, List, Some, None}
use Rattle.es_steps.specs.Values.{StringOf, Value}
use Rattle.es_code_targets.specs.ConstantKeys.{constant_key, constant_in}
use Rattle.es_steps.specs.Code as of
use Rattle.es_codes.proofs.Forms.{code_out, spelled_is, value_is}
use Rattle.es_codes.specs.CodeView.{code_of, target_of, callee_of, code_step}
use Rattle.es_codes.specs.declared.code.Code.{Code}
use Rattle.es_codes.specs.declared.code.Target.{Target}
use Rattle.es_codes.specs.declared.code.Callee.{Callee}
use Rattle.es_codes.specs.declared.code.Code.TheVariants as variants
use Rattle.es_codes.specs.declared.code.Callee.TheOpen.{Code-F}
use Rattle.es_codes.specs.declared.code.Callee.TheViews.{roll-Code, out-Code, roll-out-Code}
use Rattle.es_codes.specs.declared.code.Callee.TheFolds.{map-Code}

pub of_spelled : (e : Code) (spelling : List ℕ) → e ≡ variants.Spelled spelling → constant_key (code_of e) ≡ Some (StringOf spelling)
of_spelled e spelling is = ap (λ x. constant_key (code_of x)) is ∙ ap (λ x. constant_key x) (spelled_is spelling)

pub of_value : (e : Code) (value : Value) → e ≡ variants.Value value → constant_key (code_of e) ≡ constant_in value
of_value e value is = ap (λ x. constant_key (code_of x)) is ∙ ap (λ x. constant_key x) (value_is value)

pub of_others : (e : Code) → ((spelling : List ℕ) → e ≡ variants.Spelled spelling → ⊥) → ((value : Value) → e ≡ variants.Value value → ⊥) → constant_key (code_of e) ≡ None
of_others e not_spelled not_value = ap (λ x. constant_key x) (code_out e) ∙ by (out-Code e) (roll-out-Code e)
  where
    by : (y : Code-F Callee Code Target) → roll-Code y ≡ e → constant_key (code_step (map-Code Callee Code Target of.Callee of.Code of.Target callee_of code_of target_of y)) ≡ None
    by (Code-F.Spelled spelling) is = absurd (not_spelled spelling (sym is ∙ variants.rolls-Spelled spelling))
    by (Code-F.Value value) is = absurd (not_value value (sym is ∙ variants.rolls-Value value))
    by y is = refl
