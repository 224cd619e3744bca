-- The elements of a body, by its form.
use Rattle.std.proofs.Common.{◌≡◌, refl, sym, ap, ◌∙◌, List}
use Rattle.es_steps.specs.Members.{code}
use Rattle.es_steps.specs.Statements as spec
use Rattle.es_steps.specs.Code as of
use Rattle.es_codes.proofs.Forms.{code_out, steps_is}
use Rattle.es_codes.specs.CodeView.{code_of, target_of, callee_of, codes_of, code_step}
use Rattle.es_codes.specs.declared.code.Code.{Code}
use Rattle.es_codes.specs.declared.code.Target.{Target}
use Rattle.es_codes.specs.declared.code.Callee.{Callee}
use Rattle.es_codes.specs.declared.code.Code.TheVariants as variants
use Rattle.es_codes.specs.declared.code.Callee.TheOpen.{Code-F}
use Rattle.es_codes.specs.declared.code.Callee.TheViews.{roll-Code, out-Code, roll-out-Code}
use Rattle.es_codes.specs.declared.code.Callee.TheFolds.{map-Code}

pub of_steps : (e : Code) (all : List Code) → e ≡ variants.Steps all → spec.elements_of (code (code_of e)) ≡ codes_of all
of_steps e all is = ap (λ x. spec.elements_of (code (code_of x))) is ∙ ap (λ x. spec.elements_of (code x)) (steps_is all)

pub of_others : (e : Code) → ((all : List Code) → e ≡ variants.Steps all → ⊥) → spec.elements_of (code (code_of e)) ≡ of.done
of_others e not_steps = ap (λ x. spec.elements_of (code x)) (code_out e) ∙ by (out-Code e) (roll-out-Code e)
  where
    by : (y : Code-F Callee Code Target) → roll-Code y ≡ e → spec.elements_of (code (code_step (map-Code Callee Code Target of.Callee of.Code of.Target callee_of code_of target_of y))) ≡ of.done
    by (Code-F.Steps all) is = absurd (not_steps all (sym is ∙ variants.rolls-Steps all))
    by y is = refl
