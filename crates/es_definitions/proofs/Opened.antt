-- Bodies that are evaluated elsewhere, by their form.
use Rattle.std.proofs.Common.{◌≡◌, ◌≤◌, refl, sym, ap, ◌∙◌, ℕ, List, [], ◌∷◌, length, false, cond, arith}
use Rattle.es_codes.proofs.Forms.{code_out}
use Rattle.es_codes.specs.CodeView.{code_of, target_of, callee_of, codes_of, code_step}
use Rattle.es_codes.specs.declared.code.Callee.{Callee}
use Rattle.es_codes.specs.declared.code.Callee.TheFolds.{map-Code}
use Rattle.es_codes.specs.declared.code.Callee.TheOpen.{Code-F}
use Rattle.es_codes.specs.declared.code.Callee.TheViews.{roll-Code, out-Code, roll-out-Code}
use Rattle.es_codes.specs.declared.code.Code.{Code}
use Rattle.es_codes.specs.declared.code.Code.TheVariants as variants
use Rattle.es_codes.specs.declared.code.Target.{Target}
use Rattle.es_definitions.specs.Behind.{begins_with_super, is_super_of, with_initializers}
use Rattle.es_steps.specs.Code as of
use Rattle.es_steps.specs.Code.{Codes, FunctionForm, super_call_with_all, sequence, no_rule, and, done}
use Rattle.es_steps.specs.GeneratedForms.{opened_body}
use Rattle.es_steps.specs.Opening.{behind_super, closure_body}

abbrev seen : Code-F Callee Code Target → of.Code
seen y = code_step (map-Code Callee Code Target of.Callee of.Code of.Target callee_of code_of target_of y)

pub other_body : (e : Code) → ((all : List Code) → e ≡ variants.Steps all → ⊥) → opened_body (code_of e) ≡ code_of e
other_body e no_steps = ap opened_body (code_out e) ∙ by (out-Code e) (roll-out-Code e) ∙ sym (code_out e)
  where
    by : (y : Code-F Callee Code Target) → roll-Code y ≡ e → opened_body (seen y) ≡ seen y
    by (Code-F.Steps all) is = absurd (no_steps all (sym is ∙ variants.rolls-Steps all))
    by y is = refl

pub no_sequence : (n : ℕ) (e : Code) → ((all : List Code) → e ≡ variants.Sequence all → ⊥) → behind_super n (code_of e) ≡ no_rule
no_sequence n e other = ap (behind_super n) (code_out e) ∙ by (out-Code e) (roll-out-Code e)
  where
    by : (y : Code-F Callee Code Target) → roll-Code y ≡ e → behind_super n (seen y) ≡ no_rule
    by (Code-F.Sequence all) is = absurd (other all (sym is ∙ variants.rolls-Sequence all))
    by y is = refl

pub no_super_call : (n : ℕ) (e : Code) → ((k : ℕ) → e ≡ variants.SuperCallWithAll k → ⊥) → is_super_of n (code_of e) ≡ false
no_super_call n e other = ap (is_super_of n) (code_out e) ∙ by (out-Code e) (roll-out-Code e)
  where
    by : (y : Code-F Callee Code Target) → roll-Code y ≡ e → is_super_of n (seen y) ≡ false
    by (Code-F.SuperCallWithAll k) is = absurd (other k (sym is ∙ variants.rolls-SuperCallWithAll k))
    by y is = refl

pub initialized_behind : (n : ℕ) (cs : Codes) → behind_super n (sequence cs) ≡ cond (begins_with_super n cs) (sequence (with_initializers n cs)) no_rule
initialized_behind n done = refl
initialized_behind n (and (super_call_with_all k) cs) = refl
initialized_behind n (and c cs) = refl

pub with_parameters : (form : FunctionForm) (ps : List Code) (body : of.Code) → 1 ≤ length ps → closure_body form (codes_of ps) body ≡ no_rule
with_parameters form [] body h = absurd (omega (arith, h))
with_parameters form (p ∷ ps) body h = refl
