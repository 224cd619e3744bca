-- Codes by their forms: parameters, elements that are constructors, and their functions.
use Rattle.std.proofs.Common.{◌≡◌, refl, sym, ap, ◌∙◌, ℕ, List, false, Option, Some, None}
use Rattle.es_steps.specs.Code as of
use Rattle.es_steps.specs.Opening.{all_arguments}
use Rattle.es_steps.specs.References.{has_number}
use Rattle.es_codes.proofs.Forms.{code_out, function_is, new_function_is}
use Rattle.es_codes.specs.CodeView.{code_of, codes_of, target_of, callee_of, code_step, form_of}
use Rattle.es_codes.specs.declared.code.FunctionForm.{FunctionForm}
use Rattle.es_codes.specs.declared.code.Code.{Code}
use Rattle.es_codes.specs.declared.code.Target.{Target}
use Rattle.es_codes.specs.declared.code.Callee.{Callee}
use Rattle.es_codes.specs.declared.code.Code.TheVariants as codes
use Rattle.es_codes.specs.declared.code.Callee.TheOpen.{Code-F}
use Rattle.es_codes.specs.declared.code.Callee.TheViews.{roll-Code, out-Code, roll-out-Code}
use Rattle.es_codes.specs.declared.code.Callee.TheFolds.{map-Code}
use Rattle.es_codes.specs.declared.name.NameKind.{NameKind}
use Rattle.es_evaluation.specs.Direct.{State}
use Rattle.es_evaluator.specs.Steps.{Opens}
use Rattle.es_code_bodies.specs.Bodies.{parameter_at, body_at}
use Rattle.es_code_bodies.specs.Constructing.{constructor_function, base_at, derived_at, in_order_at, new_at, forwarded_at}

abbrev seen : Code-F Callee Code Target → of.Code
seen y = code_step (map-Code Callee Code Target of.Callee of.Code of.Target callee_of code_of target_of y)

-- ---- parameters

pub no_parameter : (opens : Opens) (i : ℕ) (c : Code) (s : State) → ((m : ℕ) (x : List ℕ) (k : NameKind) → c ≡ codes.Binding m x k → ⊥) → ((to : Target) → c ≡ codes.Rest to → ⊥) → ((m : ℕ) (to : Target) → c ≡ codes.Pattern m to → ⊥) → parameter_at opens i (code_of c) s ≡ None
unfolding parameter_at
no_parameter opens i c s no_binding no_rest no_pattern = ap (λ (e : of.Code). parameter_at opens i e s) (code_out c) ∙ by (out-Code c) (roll-out-Code c)
  where
    by : (y : Code-F Callee Code Target) → roll-Code y ≡ c → parameter_at opens i (seen y) s ≡ None
    by (Code-F.Binding m x k) is = absurd (no_binding m x k (sym is ∙ codes.rolls-Binding m x k))
    by (Code-F.Rest to) is = absurd (no_rest to (sym is ∙ codes.rolls-Rest to))
    by (Code-F.Pattern m to) is = absurd (no_pattern m to (sym is ∙ codes.rolls-Pattern m to))
    by y is = refl

pub not_rest : (c : Code) → ((to : Target) → c ≡ codes.Rest to → ⊥) → all_arguments (of.and (code_of c) of.done) ≡ false
not_rest c no_rest = ap (λ (e : of.Code). all_arguments (of.and e of.done)) (code_out c) ∙ by (out-Code c) (roll-out-Code c)
  where
    by : (y : Code-F Callee Code Target) → roll-Code y ≡ c → all_arguments (of.and (seen y) of.done) ≡ false
    by (Code-F.Rest to) is = absurd (no_rest to (sym is ∙ codes.rolls-Rest to))
    by y is = refl

-- ---- constructors

pub not_constructor : (c : Code) → ((f : Code) → c ≡ codes.Constructor f → ⊥) → constructor_function (code_of c) ≡ None
not_constructor c no_constructor = ap constructor_function (code_out c) ∙ by (out-Code c) (roll-out-Code c)
  where
    by : (y : Code-F Callee Code Target) → roll-Code y ≡ c → constructor_function (seen y) ≡ None
    by (Code-F.Constructor f) is = absurd (no_constructor f (sym is ∙ codes.rolls-Constructor f))
    by y is = refl

-- ---- of a class without a heritage

pub function_base : (opens : Opens) (late : List ℕ) (n : ℕ) (all : of.Codes) (f : ℕ) (form : FunctionForm) (own_name : Option ℕ) (ps : List Code) (body : Code) (s : State) → base_at opens late n all (code_of (codes.Function f form own_name ps body)) s ≡ in_order_at opens (has_number n late) n all (codes_of ps) (code_of body) s
unfolding base_at
function_base opens late n all f form own_name ps body s = ap (λ (e : of.Code). base_at opens late n all e s) (function_is f form own_name ps body)

pub new_base : (opens : Opens) (late : List ℕ) (n : ℕ) (all : of.Codes) (f : ℕ) (form : FunctionForm) (ps : List Code) (body : Code) (s : State) → base_at opens late n all (code_of (codes.NewFunction f form ps body)) s ≡ new_at opens (form_of form) n all (codes_of ps) (code_of body) s
unfolding base_at
new_base opens late n all f form ps body s = ap (λ (e : of.Code). base_at opens late n all e s) (new_function_is f form ps body)

pub no_base : (opens : Opens) (late : List ℕ) (n : ℕ) (all : of.Codes) (c : Code) (s : State) → ((f : ℕ) (form : FunctionForm) (own_name : Option ℕ) (ps : List Code) (body : Code) → c ≡ codes.Function f form own_name ps body → ⊥) → ((f : ℕ) (form : FunctionForm) (ps : List Code) (body : Code) → c ≡ codes.NewFunction f form ps body → ⊥) → base_at opens late n all (code_of c) s ≡ None
unfolding base_at
no_base opens late n all c s no_function no_new = ap (λ (e : of.Code). base_at opens late n all e s) (code_out c) ∙ by (out-Code c) (roll-out-Code c)
  where
    by : (y : Code-F Callee Code Target) → roll-Code y ≡ c → base_at opens late n all (seen y) s ≡ None
    by (Code-F.Function f form own_name ps body) is = absurd (no_function f form own_name ps body (sym is ∙ codes.rolls-Function f form own_name ps body))
    by (Code-F.NewFunction f form ps body) is = absurd (no_new f form ps body (sym is ∙ codes.rolls-NewFunction f form ps body))
    by y is = refl

-- ---- of a class with one

pub function_derived : (opens : Opens) (f : ℕ) (form : FunctionForm) (own_name : Option ℕ) (ps : List Code) (body : Code) (s : State) → derived_at opens (code_of (codes.Function f form own_name ps body)) s ≡ body_at opens (codes_of ps) (code_of body) s
unfolding derived_at
function_derived opens f form own_name ps body s = ap (λ (e : of.Code). derived_at opens e s) (function_is f form own_name ps body)

pub new_derived : (opens : Opens) (f : ℕ) (form : FunctionForm) (ps : List Code) (body : Code) (s : State) → derived_at opens (code_of (codes.NewFunction f form ps body)) s ≡ forwarded_at opens (form_of form) (codes_of ps) (code_of body) s
unfolding derived_at
new_derived opens f form ps body s = ap (λ (e : of.Code). derived_at opens e s) (new_function_is f form ps body)

pub no_derived : (opens : Opens) (c : Code) (s : State) → ((f : ℕ) (form : FunctionForm) (own_name : Option ℕ) (ps : List Code) (body : Code) → c ≡ codes.Function f form own_name ps body → ⊥) → ((f : ℕ) (form : FunctionForm) (ps : List Code) (body : Code) → c ≡ codes.NewFunction f form ps body → ⊥) → derived_at opens (code_of c) s ≡ None
unfolding derived_at
no_derived opens c s no_function no_new = ap (λ (e : of.Code). derived_at opens e s) (code_out c) ∙ by (out-Code c) (roll-out-Code c)
  where
    by : (y : Code-F Callee Code Target) → roll-Code y ≡ c → derived_at opens (seen y) s ≡ None
    by (Code-F.Function f form own_name ps body) is = absurd (no_function f form own_name ps body (sym is ∙ codes.rolls-Function f form own_name ps body))
    by (Code-F.NewFunction f form ps body) is = absurd (no_new f form ps body (sym is ∙ codes.rolls-NewFunction f form ps body))
    by y is = refl
