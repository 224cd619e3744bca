-- Members, by the forms of their objects.
use Rattle.std.proofs.Common.{◌≡◌, refl, sym, ap, ◌∙◌, ℕ, Bool, List, [], ◌∷◌, length}
use Rattle.es_steps.specs.Context.{Context}
use Rattle.es_steps.specs.Expressions.{checked_object, member_on, super_member_at}
use Rattle.es_steps.specs.GeneratedForms.{generated_member}
use Rattle.es_steps.specs.Code as of
use Rattle.es_code_generated_members.specs.Members.{member_of_two}
use Rattle.es_codes.proofs.Forms.{code_out, super_is}
use Rattle.es_codes.specs.CodeView.{code_of, codes_of, target_of, callee_of, code_step}
use Rattle.es_codes.specs.declared.code.Code.{Code}
use Rattle.es_codes.specs.declared.code.Target.{Target}
use Rattle.es_codes.specs.declared.code.Callee.{Callee}
use Rattle.es_codes.specs.declared.code.Code.TheVariants as variants
use Rattle.es_codes.specs.declared.code.Callee.TheOpen.{Code-F}
use Rattle.es_codes.specs.declared.code.Callee.TheViews.{roll-Code, out-Code, roll-out-Code}
use Rattle.es_codes.specs.declared.code.Callee.TheFolds.{map-Code}

pub on_super : (c : Context) (m : ℕ) (optional : Bool) (e : Code) (k : of.Code) → e ≡ variants.Super → member_on c m optional (code_of e) k ≡ super_member_at m c.home k c.this
on_super c m optional e k is = ap (λ x. member_on c m optional (code_of x) k) is ∙ ap (λ x. member_on c m optional x k) super_is

pub on_other : (c : Context) (m : ℕ) (optional : Bool) (e : Code) (k : of.Code) → (e ≡ variants.Super → ⊥) → member_on c m optional (code_of e) k ≡ generated_member c m (code_of e) k (of.member m (checked_object optional (code_of e)) k)
on_other c m optional e k not_super = ap (λ x. member_on c m optional x k) (code_out e) ∙ by (out-Code e) (roll-out-Code e) ∙ ap (λ x. generated_member c m x k (of.member m (checked_object optional x) k)) (sym (code_out e))
  where
    by : (y : Code-F Callee Code Target) → roll-Code y ≡ e → member_on c m optional (code_step (map-Code Callee Code Target of.Callee of.Code of.Target callee_of code_of target_of y)) k ≡ generated_member c m (code_step (map-Code Callee Code Target of.Callee of.Code of.Target callee_of code_of target_of y)) k (of.member m (checked_object optional (code_step (map-Code Callee Code Target of.Callee of.Code of.Target callee_of code_of target_of y))) k)
    by Code-F.Super is = absurd (not_super (sym is ∙ variants.rolls-Super))
    by y is = refl

pub not_two : (c : Context) (m : ℕ) (computed optional : Bool) (es : List Code) → (length es ≡ 2 → ⊥) → member_of_two c m computed optional (codes_of es) ≡ of.no_rule
not_two c m computed optional [] other = refl
not_two c m computed optional (a ∷ []) other = refl
not_two c m computed optional (a ∷ b ∷ []) other = absurd (other refl)
not_two c m computed optional (a ∷ b ∷ d ∷ es) other = refl
