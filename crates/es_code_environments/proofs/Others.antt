-- Codes that are of none of the forms asked for.
use Rattle.std.proofs.Common.{◌≡◌, refl, sym, ap, ◌∙◌, ℕ, List, [], Bool, true, false, Option, Some, None}
use Rattle.es_codes.proofs.Forms.{code_out}
use Rattle.es_codes.specs.CodeView.{callee_of, code_of, code_step, target_of}
use Rattle.es_codes.specs.declared.code.Callee.TheFolds.{map-Code}
use Rattle.es_codes.specs.declared.code.Callee.TheOpen.{Code-F}
use Rattle.es_codes.specs.declared.code.Callee.TheViews.{out-Code, roll-Code, roll-out-Code}
use Rattle.es_codes.specs.declared.code.Callee.{Callee}
use Rattle.es_codes.specs.declared.code.Code.TheVariants as codes
use Rattle.es_codes.specs.declared.code.Code.{Code}
use Rattle.es_codes.specs.declared.code.FieldForm.{FieldForm}
use Rattle.es_codes.specs.declared.code.FunctionForm.{FunctionForm}
use Rattle.es_codes.specs.declared.code.Target.{Target}
use Rattle.es_codes.specs.declared.event.Detail.{Detail}
use Rattle.es_steps.specs.Code as of
use Rattle.es_steps.specs.Evaluation.{Environment}
use Rattle.es_code_environments.specs.Classes.{behind_element, function_in, is_instance_field, is_leading, method_at}
use Rattle.es_code_environments.specs.declared.terms.Terms.{Terms}

abbrev seen : Code-F Callee Code Target → of.Code
seen y = code_step (map-Code Callee Code Target of.Callee of.Code of.Target callee_of code_of target_of y)

pub not_leading : (t : Terms) (n : ℕ) (s : Environment) (e : Code) → ((spelling : List ℕ) (right : Code) → e ≡ codes.GeneratedElement spelling right → ⊥) → ((is_static : Bool) (form : FieldForm) (key : Code) (right : Code) → e ≡ codes.Field is_static form key right → ⊥) → ((is_static : Bool) (key : ℕ) (right : Code) → e ≡ codes.PrivateField is_static key right → ⊥) → ((is_static : Bool) (kind : List ℕ) (key : Code) (called : Code) → e ≡ codes.Method is_static kind key called → ⊥) → ((is_static : Bool) (key : ℕ) (called : Code) → e ≡ codes.PrivateMethod is_static key called → ⊥) → ((called : Code) → e ≡ codes.Constructor called → ⊥) → is_leading t n s (code_of e) ≡ false
not_leading t n s e no_GeneratedElement no_Field no_PrivateField no_Method no_PrivateMethod no_Constructor = ap (λ (x : of.Code). is_leading t n s x) (code_out e) ∙ by (out-Code e) (roll-out-Code e)
  where
    by : (y : Code-F Callee Code Target) → roll-Code y ≡ e → is_leading t n s (seen y) ≡ false
    by (Code-F.GeneratedElement spelling right) is = absurd (no_GeneratedElement spelling right (sym is ∙ codes.rolls-GeneratedElement spelling right))
    by (Code-F.Field is_static form key right) is = absurd (no_Field is_static form key right (sym is ∙ codes.rolls-Field is_static form key right))
    by (Code-F.PrivateField is_static key right) is = absurd (no_PrivateField is_static key right (sym is ∙ codes.rolls-PrivateField is_static key right))
    by (Code-F.Method is_static kind key called) is = absurd (no_Method is_static kind key called (sym is ∙ codes.rolls-Method is_static kind key called))
    by (Code-F.PrivateMethod is_static key called) is = absurd (no_PrivateMethod is_static key called (sym is ∙ codes.rolls-PrivateMethod is_static key called))
    by (Code-F.Constructor called) is = absurd (no_Constructor called (sym is ∙ codes.rolls-Constructor called))
    by y is = refl

pub stays_here : (t : Terms) (n : ℕ) (s : Environment) (e : Code) → ((spelling : List ℕ) (right : Code) → e ≡ codes.GeneratedElement spelling right → ⊥) → behind_element t n s (code_of e) ≡ s
stays_here t n s e no_GeneratedElement = ap (λ (x : of.Code). behind_element t n s x) (code_out e) ∙ by (out-Code e) (roll-out-Code e)
  where
    by : (y : Code-F Callee Code Target) → roll-Code y ≡ e → behind_element t n s (seen y) ≡ s
    by (Code-F.GeneratedElement spelling right) is = absurd (no_GeneratedElement spelling right (sym is ∙ codes.rolls-GeneratedElement spelling right))
    by y is = refl

pub no_method : (t : Terms) (s : Environment) (e : Code) → ((is_static : Bool) (kind : List ℕ) (key : Code) (called : Code) → e ≡ codes.Method is_static kind key called → ⊥) → method_at t s (code_of e) ≡ Some []
no_method t s e no_Method = ap (λ (x : of.Code). method_at t s x) (code_out e) ∙ by (out-Code e) (roll-out-Code e)
  where
    by : (y : Code-F Callee Code Target) → roll-Code y ≡ e → method_at t s (seen y) ≡ Some []
    by (Code-F.Method is_static kind key called) is = absurd (no_Method is_static kind key called (sym is ∙ codes.rolls-Method is_static kind key called))
    by y is = refl

pub no_function : (e : Code) → ((node : ℕ) (form : FunctionForm) (own_name : Option ℕ) (parameters : List Code) (body : Code) → e ≡ codes.Function node form own_name parameters body → ⊥) → function_in (code_of e) ≡ None
no_function e no_Function = ap (λ (x : of.Code). function_in x) (code_out e) ∙ by (out-Code e) (roll-out-Code e)
  where
    by : (y : Code-F Callee Code Target) → roll-Code y ≡ e → function_in (seen y) ≡ None
    by (Code-F.Function node form own_name parameters body) is = absurd (no_Function node form own_name parameters body (sym is ∙ codes.rolls-Function node form own_name parameters body))
    by y is = refl

pub not_field : (e : Code) → ((is_static : Bool) (form : FieldForm) (key : Code) (right : Code) → e ≡ codes.Field is_static form key right → ⊥) → is_instance_field (code_of e) ≡ false
not_field e no_Field = ap (λ (x : of.Code). is_instance_field x) (code_out e) ∙ by (out-Code e) (roll-out-Code e)
  where
    by : (y : Code-F Callee Code Target) → roll-Code y ≡ e → is_instance_field (seen y) ≡ false
    by (Code-F.Field is_static form key right) is = absurd (no_Field is_static form key right (sym is ∙ codes.rolls-Field is_static form key right))
    by y is = refl
