-- Constructions, form by form.
use Rattle.std.proofs.Common.{◌≡◌, refl, ap, ◌∙◌, ℕ, ◌<◌, ◌≤◌, ◌&&◌, List, [], ◌∷◌, length, Bool, true, false, Option, Some, None, arith}
use Rattle.es_steps.specs.Code as of
use Rattle.es_steps.specs.Code.{Codes, FunctionForm}
use Rattle.es_steps.specs.Events.{SuperCallWithAll}
use Rattle.es_steps.specs.GeneratedForms.{is_plain}
use Rattle.es_steps.specs.Opening.{all_arguments}
use Rattle.es_steps.specs.Values.{ThisOf}
use Rattle.es_codes.specs.CodeView.{codes_of}
use Rattle.es_codes.specs.declared.code.Code.{Code}
use Rattle.es_evaluation.specs.Direct.{State, and_then, emit}
use Rattle.es_evaluation.specs.Flat.{single}
use Rattle.es_evaluator.specs.Steps.{Opens}
use Rattle.es_code_rules.specs.Steps.{value_at}
use Rattle.es_class_rules.specs.Steps.{construction_at}
use Rattle.es_code_bodies.specs.Bodies.{given_at}
use Rattle.es_code_bodies.specs.Constructing.{no_function, one_function, more_functions, constructors_in, if_so, in_order_at, new_step, new_at, forwarded_at, base_at, derived_at, constructor_at, default_at, constructing_step, constructing_at}

-- ---- by the constructors of the class

pub by_default : (opens : Opens) (late : List ℕ) (n : ℕ) (h es : Codes) (s : State) → constructors_in es ≡ no_function → constructing_at opens late n h es s ≡ default_at opens n h es s
unfolding constructing_at
by_default opens late n h es s e = ap (λ f. constructing_step opens late n h es f s) e

pub by_one : (opens : Opens) (late : List ℕ) (n : ℕ) (h es : Codes) (f : of.Code) (s : State) → constructors_in es ≡ one_function f → constructing_at opens late n h es s ≡ constructor_at opens late n h es f s
unfolding constructing_at
by_one opens late n h es f s e = ap (λ f. constructing_step opens late n h es f s) e

pub by_more : (opens : Opens) (late : List ℕ) (n : ℕ) (h es : Codes) (s : State) → constructors_in es ≡ more_functions → constructing_at opens late n h es s ≡ None
unfolding constructing_at
by_more opens late n h es s e = ap (λ f. constructing_step opens late n h es f s) e

-- ---- by the heritage

pub base_default : (opens : Opens) (n : ℕ) (hs : List Code) (all : Codes) (s : State) → length hs ≤ 0 → default_at opens n (codes_of hs) all s ≡ construction_at opens n all s
unfolding default_at
base_default opens n [] all s l = refl
base_default opens n (h ∷ hs) all s l = absurd (omega arith)

pub derived_default : (opens : Opens) (n : ℕ) (hs : List Code) (all : Codes) (s : State) → 0 < length hs → default_at opens n (codes_of hs) all s ≡ (and_then (emit (single (SuperCallWithAll n)) (ThisOf n)) (λ v. construction_at opens n all)) s
unfolding default_at
derived_default opens n [] all s l = absurd (omega arith)
derived_default opens n (h ∷ hs) all s l = refl

pub base_constructor : (opens : Opens) (late : List ℕ) (n : ℕ) (hs : List Code) (all : Codes) (f : of.Code) (s : State) → length hs ≤ 0 → constructor_at opens late n (codes_of hs) all f s ≡ base_at opens late n all f s
unfolding constructor_at
base_constructor opens late n [] all f s l = refl
base_constructor opens late n (h ∷ hs) all f s l = absurd (omega arith)

pub derived_constructor : (opens : Opens) (late : List ℕ) (n : ℕ) (hs : List Code) (all : Codes) (f : of.Code) (s : State) → 0 < length hs → constructor_at opens late n (codes_of hs) all f s ≡ derived_at opens f s
unfolding constructor_at
derived_constructor opens late n [] all f s l = absurd (omega arith)
derived_constructor opens late n (h ∷ hs) all f s l = refl

-- ---- by the form of the constructor

pub parameters_first : (opens : Opens) (n : ℕ) (all ps : Codes) (body : of.Code) (s : State) → in_order_at opens true n all ps body s ≡ (and_then (given_at opens ps) (λ v. and_then (construction_at opens n all) (λ w. value_at opens body))) s
unfolding in_order_at
parameters_first opens n all ps body s = refl

pub fields_first : (opens : Opens) (n : ℕ) (all ps : Codes) (body : of.Code) (s : State) → in_order_at opens false n all ps body s ≡ (and_then (construction_at opens n all) (λ v. and_then (given_at opens ps) (λ w. value_at opens body))) s
unfolding in_order_at
fields_first opens n all ps body s = refl

pub new_plain : (opens : Opens) (form : FunctionForm) (n : ℕ) (all : Codes) (ps : List Code) (body : of.Code) (s : State) → length ps ≤ 0 → is_plain form ≡ true → new_at opens form n all (codes_of ps) body s ≡ (and_then (construction_at opens n all) (λ v. value_at opens body)) s
unfolding new_at
new_plain opens form n all [] body s l e = ap (λ b. if_so b (and_then (construction_at opens n all) (λ v. value_at opens body)) s) e
new_plain opens form n all (p ∷ ps) body s l e = absurd (omega arith)

pub new_with_parameters : (opens : Opens) (form : FunctionForm) (n : ℕ) (all : Codes) (ps : List Code) (body : of.Code) (s : State) → 0 < length ps → new_at opens form n all (codes_of ps) body s ≡ None
unfolding new_at
new_with_parameters opens form n all [] body s l = absurd (omega arith)
new_with_parameters opens form n all (p ∷ ps) body s l = refl

pub new_not_plain : (opens : Opens) (form : FunctionForm) (n : ℕ) (all : Codes) (ps : List Code) (body : of.Code) (s : State) → is_plain form ≡ false → new_at opens form n all (codes_of ps) body s ≡ None
unfolding new_at
new_not_plain opens form n all [] body s e = ap (λ b. if_so b (and_then (construction_at opens n all) (λ v. value_at opens body)) s) e
new_not_plain opens form n all (p ∷ ps) body s e = refl

pub forwarded : (opens : Opens) (form : FunctionForm) (ps : Codes) (body : of.Code) (s : State) → (is_plain form && all_arguments ps) ≡ true → forwarded_at opens form ps body s ≡ value_at opens body s
unfolding forwarded_at
forwarded opens form ps body s e = ap (λ b. if_so b (value_at opens body) s) e

pub not_forwarded : (opens : Opens) (form : FunctionForm) (ps : Codes) (body : of.Code) (s : State) → (is_plain form && all_arguments ps) ≡ false → forwarded_at opens form ps body s ≡ None
unfolding forwarded_at
not_forwarded opens form ps body s e = ap (λ b. if_so b (value_at opens body) s) e
