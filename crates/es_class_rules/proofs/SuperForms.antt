-- What is opened, and super(..), as the steps that they put together.
use Rattle.std.proofs.Common.{◌≡◌, refl, ℕ, Option, Some, None}
use Rattle.es_steps.specs.Code as of
use Rattle.es_steps.specs.Code.{Codes, Opened, InitializersOf, BodyOf}
use Rattle.es_steps.specs.Events.{SuperCall, SuperCallWithAll}
use Rattle.es_steps.specs.Values.{String, ThisOf}
use Rattle.es_evaluation.specs.Direct.{State, and_then, gives, emit, gives_this}
use Rattle.es_evaluation.specs.Flat.{single}
use Rattle.es_evaluator.specs.Steps.{Opens}
use Rattle.es_code_rules.specs.Steps.{form_at, all_at}
use Rattle.es_class_rules.specs.Steps.{opened_at, behind_at}

pub super_call_form : (opens : Opens) (m : ℕ) (n : ℕ) (o : Option Opened) (es : Codes) (s : State) → form_at opens (of.super_call m n o es) s ≡ (and_then (all_at opens es) (λ vs. and_then (emit (single (SuperCall m n vs)) (ThisOf n)) (λ v. behind_at opens n o))) s
unfolding form_at all_at behind_at
super_call_form opens m n o es s = refl

pub super_call_with_all_form : (opens : Opens) (n : ℕ) (s : State) → form_at opens (of.super_call_with_all n) s ≡ (and_then (emit (single (SuperCallWithAll n)) (ThisOf n)) (λ v. and_then (opened_at opens (InitializersOf n)) (λ w. gives (ThisOf n)))) s
unfolding form_at opened_at
super_call_with_all_form opens n s = refl

pub call_closure_form : (opens : Opens) (x : String) (es : Codes) (s : State) → form_at opens (of.call_closure x es) s ≡ (and_then (all_at opens es) (λ vs. opened_at opens (BodyOf x))) s
unfolding form_at all_at opened_at
call_closure_form opens x es s = refl

pub initializers_form : (opens : Opens) (n : ℕ) (s : State) → form_at opens (of.initializers n) s ≡ (opened_at opens (InitializersOf n)) s
unfolding form_at opened_at
initializers_form opens n s = refl

pub no_behind : (opens : Opens) (n : ℕ) (s : State) → behind_at opens n None s ≡ Some (ThisOf n, s)
unfolding behind_at
no_behind opens n s = refl

pub initializers_behind : (opens : Opens) (n : ℕ) (k : ℕ) (s : State) → behind_at opens n (Some (of.InitializersOf k)) s ≡ (and_then (opened_at opens (InitializersOf k)) (λ w. gives (ThisOf n))) s
unfolding opened_at behind_at
initializers_behind opens n k s = refl

pub body_behind : (opens : Opens) (n : ℕ) (x : String) (s : State) → behind_at opens n (Some (of.BodyOf x)) s ≡ (gives_this n (opened_at opens (of.BodyOf x))) s
unfolding opened_at behind_at
body_behind opens n x s = refl

pub called_behind : (opens : Opens) (n : ℕ) (x : String) (s : State) → behind_at opens n (Some (of.CalledBodyOf x)) s ≡ (gives_this n (opened_at opens (of.CalledBodyOf x))) s
unfolding opened_at behind_at
called_behind opens n x s = refl
