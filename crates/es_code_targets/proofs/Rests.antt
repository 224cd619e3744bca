-- What a rest takes, and what others do.
use Rattle.std.proofs.Common.{◌≡◌, refl, sym, ap, ◌∙◌, ℕ, [], ◌∷◌}
use Rattle.es_steps.specs.Statements as spec
use Rattle.es_steps.specs.Expressions as expressions
use Rattle.es_steps.specs.Events.{Index, Rest}
use Rattle.es_steps.specs.Code as of
use Rattle.es_codes.proofs.Forms.{code_out, rest_is}
use Rattle.es_codes.specs.CodeView.{code_of, target_of, callee_of, code_step}
use Rattle.es_codes.specs.declared.code.Code.{Code}
use Rattle.es_codes.specs.declared.code.Target.{Target}
use Rattle.es_codes.specs.declared.code.Callee.{Callee}
use Rattle.es_codes.specs.declared.code.Code.TheVariants as variants
use Rattle.es_codes.specs.declared.code.Callee.TheOpen.{Code-F}
use Rattle.es_codes.specs.declared.code.Callee.TheViews.{roll-Code, out-Code, roll-out-Code}
use Rattle.es_codes.specs.declared.code.Callee.TheFolds.{map-Code}

pub rest_element : (m : ℕ) (i : ℕ) (e : Code) (to : Target) → e ≡ variants.Rest to → spec.taken_element m i (code_of e) ≡ spec.taken m (Index i ∷ Rest ∷ []) (target_of to)
rest_element m i e to is = ap (λ x. spec.taken_element m i (code_of x)) is ∙ ap (λ x. spec.taken_element m i x) (rest_is to)

pub other_element : (m : ℕ) (i : ℕ) (e : Code) → ((to : Target) → e ≡ variants.Rest to → ⊥) → spec.taken_element m i (code_of e) ≡ spec.taken m (Index i ∷ []) (expressions.target_of (code_of e))
other_element m i e not_rest = ap (λ x. spec.taken_element m i x) (code_out e) ∙ by (out-Code e) (roll-out-Code e) ∙ ap (λ x. spec.taken m (Index i ∷ []) (expressions.target_of x)) (sym (code_out e))
  where
    by : (y : Code-F Callee Code Target) → roll-Code y ≡ e → spec.taken_element m i (code_step (map-Code Callee Code Target of.Callee of.Code of.Target callee_of code_of target_of y)) ≡ spec.taken m (Index i ∷ []) (expressions.target_of (code_step (map-Code Callee Code Target of.Callee of.Code of.Target callee_of code_of target_of y)))
    by (Code-F.Rest to) is = absurd (not_rest to (sym is ∙ variants.rolls-Rest to))
    by y is = refl

pub rest_property : (m : ℕ) (e : Code) (to : Target) → e ≡ variants.Rest to → spec.taken_properties m (of.and (code_of e) of.done) ≡ of.and (spec.taken m (Rest ∷ []) (target_of to)) of.done
rest_property m e to is = ap (λ x. spec.taken_properties m (of.and (code_of x) of.done)) is ∙ ap (λ x. spec.taken_properties m (of.and x of.done)) (rest_is to)

pub other_property : (m : ℕ) (e : Code) → ((to : Target) → e ≡ variants.Rest to → ⊥) → spec.taken_properties m (of.and (code_of e) of.done) ≡ of.and (code_of e) of.done
other_property m e not_rest = ap (λ x. spec.taken_properties m (of.and x of.done)) (code_out e) ∙ by (out-Code e) (roll-out-Code e) ∙ ap (λ x. of.and x of.done) (sym (code_out e))
  where
    by : (y : Code-F Callee Code Target) → roll-Code y ≡ e → spec.taken_properties m (of.and (code_step (map-Code Callee Code Target of.Callee of.Code of.Target callee_of code_of target_of y)) of.done) ≡ of.and (code_step (map-Code Callee Code Target of.Callee of.Code of.Target callee_of code_of target_of y)) of.done
    by (Code-F.Rest to) is = absurd (not_rest to (sym is ∙ variants.rolls-Rest to))
    by y is = refl
