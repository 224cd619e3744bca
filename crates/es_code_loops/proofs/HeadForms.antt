-- Heads of loops over values, by the forms of codes.
use Rattle.std.proofs.Common.{◌≡◌, refl, sym, ap, ◌∙◌, ℕ, ◌+◌, ◌<◌, List, [], ◌∷◌, length, get_or, set, drop, Some, None, arith}
use Rattle.es_code_members.proofs.Moved.{moved}
use Rattle.es_steps.specs.Expressions as expressions
use Rattle.es_steps.specs.Statements as spec
use Rattle.es_code_loops.specs.Heads.{first_target, initialized_target, target_of_binding, uninitialized_target}
use Rattle.es_steps.specs.Code as of
use Rattle.es_codes.proofs.Forms.{code_out, assign_is, binding_is, steps_is}
use Rattle.es_codes.specs.CodeView.{code_of, target_of, callee_of, codes_of, code_step}
use Rattle.es_codes.specs.declared.code.Code.{Code}
use Rattle.es_codes.specs.declared.code.Target.{Target}
use Rattle.es_codes.specs.declared.code.Callee.{Callee}
use Rattle.es_codes.specs.declared.name.NameKind.{NameKind}
use Rattle.es_codes.specs.declared.code.Code.TheVariants as variants
use Rattle.es_codes.specs.declared.code.Callee.TheOpen.{Code-F}
use Rattle.es_codes.specs.declared.code.Callee.TheViews.{roll-Code, out-Code, roll-out-Code}
use Rattle.es_codes.specs.declared.code.Callee.TheFolds.{map-Code}

-- ---- one declarator

pub an_assignment : (e : Code) (to : Target) (right : Code) → e ≡ variants.Assign to right → initialized_target (code_of e) ≡ Some (target_of to)
an_assignment e to right is = ap (λ x. initialized_target (code_of x)) is ∙ ap (λ x. initialized_target x) (assign_is to right)

pub no_assignment : (e : Code) → ((to : Target) (right : Code) → e ≡ variants.Assign to right → ⊥) → initialized_target (code_of e) ≡ None
no_assignment e not_assign = ap (λ x. initialized_target x) (code_out e) ∙ by (out-Code e) (roll-out-Code e)
  where
    by : (y : Code-F Callee Code Target) → roll-Code y ≡ e → initialized_target (code_step (map-Code Callee Code Target of.Callee of.Code of.Target callee_of code_of target_of y)) ≡ None
    by (Code-F.Assign to right) is = absurd (not_assign to right (sym is ∙ variants.rolls-Assign to right))
    by y is = refl

pub a_binding : (e : Code) (node : ℕ) (spelling : List ℕ) (kind : NameKind) → e ≡ variants.Binding node spelling kind → expressions.target_of (code_of e) ≡ target_of_binding (code_of e)
a_binding e node spelling kind is = ap (λ x. expressions.target_of (code_of x)) is ∙ ap (λ x. expressions.target_of x) (binding_is node spelling kind) ∙ sym (ap (λ x. target_of_binding (code_of x)) is ∙ ap (λ x. target_of_binding x) (binding_is node spelling kind))

pub no_binding : (e : Code) → ((node : ℕ) (spelling : List ℕ) (kind : NameKind) → e ≡ variants.Binding node spelling kind → ⊥) → target_of_binding (code_of e) ≡ of.no_target
no_binding e not_binding = ap (λ x. target_of_binding x) (code_out e) ∙ by (out-Code e) (roll-out-Code e)
  where
    by : (y : Code-F Callee Code Target) → roll-Code y ≡ e → target_of_binding (code_step (map-Code Callee Code Target of.Callee of.Code of.Target callee_of code_of target_of y)) ≡ of.no_target
    by (Code-F.Binding node spelling kind) is = absurd (not_binding node spelling kind (sym is ∙ variants.rolls-Binding node spelling kind))
    by y is = refl

pub no_step : (steps : List Code) → length steps < 1 → of.no_target ≡ first_target (codes_of steps)
no_step [] h = refl
no_step (c ∷ cs) h = absurd (omega (arith, h))

pub an_undefined_let : (e : Code) (all : List Code) → e ≡ variants.Steps all → uninitialized_target (code_of e) ≡ first_target (codes_of all)
an_undefined_let e all is = ap (λ x. uninitialized_target (code_of x)) is ∙ ap (λ x. uninitialized_target x) (steps_is all)

pub no_undefined_let : (e : Code) → ((all : List Code) → e ≡ variants.Steps all → ⊥) → uninitialized_target (code_of e) ≡ expressions.target_of (code_of e)
no_undefined_let e not_steps = ap (λ x. uninitialized_target x) (code_out e) ∙ by (out-Code e) (roll-out-Code e) ∙ ap (λ x. expressions.target_of x) (sym (code_out e))
  where
    by : (y : Code-F Callee Code Target) → roll-Code y ≡ e → uninitialized_target (code_step (map-Code Callee Code Target of.Callee of.Code of.Target callee_of code_of target_of y)) ≡ expressions.target_of (code_step (map-Code Callee Code Target of.Callee of.Code of.Target callee_of code_of target_of y))
    by (Code-F.Steps all) is = absurd (not_steps all (sym is ∙ variants.rolls-Steps all))
    by y is = refl

pub initialized : (d : of.Code) (to : of.Target) → Some to ≡ initialized_target d → of.and d of.done ≡ spec.is_initialized d
initialized (of.assign to e) t h = refl
initialized d t h = cc

pub initialized_declared : (d : of.Code) (to : of.Target) → Some to ≡ initialized_target d → to ≡ spec.declared_target d
initialized_declared (of.assign to e) t h = cc
initialized_declared d t h = cc

pub uninitialized : (d : of.Code) → None ≡ initialized_target d → of.done ≡ spec.is_initialized d
uninitialized (of.assign to e) h = cc
uninitialized d h = refl

steps-declared : (cs : of.Codes) → first_target cs ≡ spec.declared_target (of.steps cs)
steps-declared (of.and (of.binding b s kind) cs) = refl
steps-declared (of.and c cs) = refl
steps-declared of.done = refl

pub uninitialized_declared : (d : of.Code) → None ≡ initialized_target d → uninitialized_target d ≡ spec.declared_target d
uninitialized_declared (of.assign to e) h = cc
uninitialized_declared (of.steps cs) h = steps-declared cs
uninitialized_declared d h = refl

-- ---- the declarators

pub initialized_step : (xs : List Code) (i : ℕ) (x y : Code) (old new all : of.Codes) → i < length xs → x ≡ get_or xs i x → new ≡ of.joined old (spec.is_initialized (code_of x)) → of.joined old (spec.initialized_first (codes_of (drop i xs))) ≡ all → of.joined new (spec.initialized_first (codes_of (drop (i + 1) (set xs i y)))) ≡ all
initialized_step = moved (λ xs. spec.initialized_first (codes_of xs)) (λ x. spec.is_initialized (code_of x)) (λ x xs. refl)

pub target_step : (m : ℕ) (xs : List Code) (i : ℕ) (x y : Code) (old new all : of.Codes) → i < length xs → x ≡ get_or xs i x → new ≡ of.joined old (of.and (of.gives_to m (spec.declared_target (code_of x))) of.done) → of.joined old (spec.given_targets m (codes_of (drop i xs))) ≡ all → of.joined new (spec.given_targets m (codes_of (drop (i + 1) (set xs i y)))) ≡ all
target_step m = moved (λ xs. spec.given_targets m (codes_of xs)) (λ x. of.and (of.gives_to m (spec.declared_target (code_of x))) of.done) (λ x xs. refl)

-- ---- the head

pub steps_initialized : (e : Code) (all : List Code) → e ≡ variants.Steps all → spec.head_initializers (code_of e) ≡ spec.initialized_first (codes_of all)
steps_initialized e all is = ap (λ x. spec.head_initializers (code_of x)) is ∙ ap (λ x. spec.head_initializers x) (steps_is all)

pub steps_given : (m : ℕ) (e : Code) (all : List Code) → e ≡ variants.Steps all → spec.head_targets m (code_of e) ≡ spec.given_targets m (codes_of all)
steps_given m e all is = ap (λ x. spec.head_targets m (code_of x)) is ∙ ap (λ x. spec.head_targets m x) (steps_is all)

pub other_initialized : (e : Code) → ((all : List Code) → e ≡ variants.Steps all → ⊥) → spec.head_initializers (code_of e) ≡ of.done
other_initialized e not_steps = ap (λ x. spec.head_initializers x) (code_out e) ∙ by (out-Code e) (roll-out-Code e)
  where
    by : (y : Code-F Callee Code Target) → roll-Code y ≡ e → spec.head_initializers (code_step (map-Code Callee Code Target of.Callee of.Code of.Target callee_of code_of target_of y)) ≡ of.done
    by (Code-F.Steps all) is = absurd (not_steps all (sym is ∙ variants.rolls-Steps all))
    by y is = refl

pub other_given : (m : ℕ) (e : Code) → ((all : List Code) → e ≡ variants.Steps all → ⊥) → spec.head_targets m (code_of e) ≡ of.one (of.gives_to m (expressions.target_of (code_of e)))
other_given m e not_steps = ap (λ x. spec.head_targets m x) (code_out e) ∙ by (out-Code e) (roll-out-Code e) ∙ ap (λ x. of.one (of.gives_to m (expressions.target_of x))) (sym (code_out e))
  where
    by : (y : Code-F Callee Code Target) → roll-Code y ≡ e → spec.head_targets m (code_step (map-Code Callee Code Target of.Callee of.Code of.Target callee_of code_of target_of y)) ≡ of.one (of.gives_to m (expressions.target_of (code_step (map-Code Callee Code Target of.Callee of.Code of.Target callee_of code_of target_of y))))
    by (Code-F.Steps all) is = absurd (not_steps all (sym is ∙ variants.rolls-Steps all))
    by y is = refl
