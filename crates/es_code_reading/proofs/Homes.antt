-- What a `super` member is looked up on, by the form of a code.
use Rattle.std.proofs.Common.{◌≡◌, refl, sym, ap, ◌∙◌, ℕ, cond, None}
use Rattle.std.specs.Prelude.{codes}
use Rattle.es_steps.specs.Code as of
use Rattle.es_steps.specs.GeneratedForms.{is_string, home_of, class_home, prototype_home, class_named}
use Rattle.es_codes.proofs.Forms.{member_is}
use Rattle.es_codes.specs.CodeView.{code_of, target_of, callee_of, code_step}
use Rattle.es_codes.specs.declared.code.Code.{Code}
use Rattle.es_codes.specs.declared.code.Target.{Target}
use Rattle.es_codes.specs.declared.code.Callee.{Callee}
use Rattle.es_codes.specs.declared.code.Code.TheVariants as variants
use Rattle.es_codes.specs.declared.code.Callee.TheOpen.{Code-F}
use Rattle.es_codes.specs.declared.code.Callee.TheViews.{roll-Code, out-Code, roll-out-Code}
use Rattle.es_codes.specs.declared.code.Callee.TheFolds.{map-Code}
use Rattle.es_code_reading.proofs.FormCases.{code-out}

pub a_member : (e : Code) (m : ℕ) (o k : Code) → e ≡ variants.Member m o k → home_of (code_of e) ≡ cond (is_string (codes "prototype") (code_of k)) (prototype_home (class_named (code_of o))) None
a_member e m o k is = ap (λ x. home_of (code_of x)) is ∙ ap home_of (member_is m o k)

pub no_member : (e : Code) → ((m : ℕ) (o k : Code) → e ≡ variants.Member m o k → ⊥) → class_home (class_named (code_of e)) ≡ home_of (code_of e)
no_member e other = ap (λ c. class_home (class_named c)) (code-out e) ∙ by (out-Code e) (roll-out-Code e) ∙ ap home_of (sym (code-out e))
  where
    by : (y : Code-F Callee Code Target) → roll-Code y ≡ e
        → class_home (class_named (code_step (map-Code Callee Code Target of.Callee of.Code of.Target callee_of code_of target_of y))) ≡ home_of (code_step (map-Code Callee Code Target of.Callee of.Code of.Target callee_of code_of target_of y))
    by (Code-F.Member m o k) is = absurd (other m o k (sym is ∙ variants.rolls-Member m o k))
    by y is = refl
