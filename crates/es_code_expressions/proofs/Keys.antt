-- Keys that are not computed.
use Rattle.std.proofs.Common.{◌≡◌, refl, sym, ap, ◌∙◌, ℕ, List, false}
use Rattle.es_steps.specs.Expressions as spec
use Rattle.es_steps.specs.Values.{StringOf, ConstantOf}
use Rattle.es_steps.specs.Code as of
use Rattle.es_codes.proofs.Forms.{code_out, spelled_is}
use Rattle.es_codes.specs.CodeView.{code_of, target_of, callee_of, code_step}
use Rattle.es_codes.specs.declared.code.Code.{Code}
use Rattle.es_codes.specs.declared.code.Target.{Target}
use Rattle.es_codes.specs.declared.code.Callee.{Callee}
use Rattle.es_codes.specs.declared.code.Code.TheVariants as variants
use Rattle.es_codes.specs.declared.code.Callee.TheOpen.{Code-F}
use Rattle.es_codes.specs.declared.code.Callee.TheViews.{roll-Code, out-Code, roll-out-Code}
use Rattle.es_codes.specs.declared.code.Callee.TheFolds.{map-Code}

pub spelled_key : (e : Code) (spelling : List ℕ) → e ≡ variants.Spelled spelling → spec.key_code false (code_of e) ≡ of.value (ConstantOf (StringOf spelling))
spelled_key e spelling is = ap (λ x. spec.key_code false (code_of x)) is ∙ ap (λ x. spec.key_code false x) (spelled_is spelling)

pub other_key : (e : Code) → ((spelling : List ℕ) → e ≡ variants.Spelled spelling → ⊥) → spec.key_code false (code_of e) ≡ (code_of e)
other_key e not_spelled = ap (λ x. spec.key_code false x) (code_out e) ∙ by (out-Code e) (roll-out-Code e) ∙ ap (λ x. x) (sym (code_out e))
  where
    by : (y : Code-F Callee Code Target) → roll-Code y ≡ e → spec.key_code false (code_step (map-Code Callee Code Target of.Callee of.Code of.Target callee_of code_of target_of y)) ≡ (code_step (map-Code Callee Code Target of.Callee of.Code of.Target callee_of code_of target_of y))
    by (Code-F.Spelled spelling) is = absurd (not_spelled spelling (sym is ∙ variants.rolls-Spelled spelling))
    by y is = refl
