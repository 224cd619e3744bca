-- Codes that are of none of the forms asked for.
use Rattle.std.proofs.Common.{◌≡◌, refl, sym, ap, ◌∙◌, ℕ, List, [], ◌∷◌, false, Option, None}
use Rattle.es_steps.specs.Code as of
use Rattle.es_steps.specs.Entries.{Pattern, parameter_of}
use Rattle.es_codes.proofs.Forms.{code_out}
use Rattle.es_codes.specs.CodeView.{code_of, target_of, callee_of, code_step}
use Rattle.es_codes.specs.declared.code.FunctionForm.{FunctionForm}
use Rattle.es_codes.specs.declared.code.Code.{Code}
use Rattle.es_codes.specs.declared.code.Target.{Target}
use Rattle.es_codes.specs.declared.code.Callee.{Callee}
use Rattle.es_codes.specs.declared.code.Code.TheVariants as codes
use Rattle.es_codes.specs.declared.code.Callee.TheOpen.{Code-F}
use Rattle.es_codes.specs.declared.code.Callee.TheViews.{roll-Code, out-Code, roll-out-Code}
use Rattle.es_codes.specs.declared.code.Callee.TheFolds.{map-Code}
use Rattle.es_codes.specs.declared.name.NameKind.{NameKind}
use Rattle.es_entries.specs.Constructors.{constructor_at, function_in, is_constructor}

abbrev seen : Code-F Callee Code Target → of.Code
seen y = code_step (map-Code Callee Code Target of.Callee of.Code of.Target callee_of code_of target_of y)

pub another_parameter : (e : Code) → ((m : ℕ) (s : List ℕ) (k : NameKind) → e ≡ codes.Binding m s k → ⊥) → ((to : Target) → e ≡ codes.Rest to → ⊥) → parameter_of (code_of e) ≡ Pattern ∷ []
another_parameter e no_binding no_rest = ap parameter_of (code_out e) ∙ by (out-Code e) (roll-out-Code e)
  where
    by : (y : Code-F Callee Code Target) → roll-Code y ≡ e → parameter_of (seen y) ≡ Pattern ∷ []
    by (Code-F.Binding m s k) is = absurd (no_binding m s k (sym is ∙ codes.rolls-Binding m s k))
    by (Code-F.Rest to) is = absurd (no_rest to (sym is ∙ codes.rolls-Rest to))
    by y is = refl

pub no_constructor : (e : Code) → ((f : Code) → e ≡ codes.Constructor f → ⊥) → None ≡ constructor_at (code_of e)
no_constructor e other = by (out-Code e) (roll-out-Code e) ∙ ap constructor_at (sym (code_out e))
  where
    by : (y : Code-F Callee Code Target) → roll-Code y ≡ e → None ≡ constructor_at (seen y)
    by (Code-F.Constructor f) is = absurd (other f (sym is ∙ codes.rolls-Constructor f))
    by y is = refl

pub not_constructor : (e : Code) → ((f : Code) → e ≡ codes.Constructor f → ⊥) → is_constructor (code_of e) ≡ false
not_constructor e other = ap is_constructor (code_out e) ∙ by (out-Code e) (roll-out-Code e)
  where
    by : (y : Code-F Callee Code Target) → roll-Code y ≡ e → is_constructor (seen y) ≡ false
    by (Code-F.Constructor f) is = absurd (other f (sym is ∙ codes.rolls-Constructor f))
    by y is = refl

pub no_function : (e : Code) → ((m : ℕ) (form : FunctionForm) (own_name : Option ℕ) (ps : List Code) (body : Code) → e ≡ codes.Function m form own_name ps body → ⊥) → None ≡ function_in (code_of e)
no_function e other = by (out-Code e) (roll-out-Code e) ∙ ap function_in (sym (code_out e))
  where
    by : (y : Code-F Callee Code Target) → roll-Code y ≡ e → None ≡ function_in (seen y)
    by (Code-F.Function m form own_name ps body) is = absurd (other m form own_name ps body (sym is ∙ codes.rolls-Function m form own_name ps body))
    by y is = refl
