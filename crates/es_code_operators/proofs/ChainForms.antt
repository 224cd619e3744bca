-- Chains that a lowering made, by the forms of codes.
use Rattle.std.proofs.Common.{◌≡◌, refl, sym, ap, ◌∙◌, ℕ, List, cond}
use Rattle.es_steps.specs.Context.{Context, new_here}
use Rattle.es_steps.specs.Events as events
use Rattle.es_steps.specs.Expressions as spec
use Rattle.es_code_operators.specs.Chained.{deleted_operation}
use Rattle.es_steps.specs.Code as of
use Rattle.es_codes.proofs.Forms.{code_out, bound_is, chain_is, operation_is, tested_is}
use Rattle.es_codes.specs.CodeView.{code_of, target_of, callee_of, codes_of, code_step}
use Rattle.es_codes.specs.View.{operation_of}
use Rattle.es_codes.specs.declared.code.Code.{Code}
use Rattle.es_codes.specs.declared.code.Target.{Target}
use Rattle.es_codes.specs.declared.code.Callee.{Callee}
use Rattle.es_codes.specs.declared.event.Operation.{Operation}
use Rattle.es_codes.specs.declared.code.Code.TheVariants as variants
use Rattle.es_codes.specs.declared.code.Callee.TheOpen.{Code-F}
use Rattle.es_codes.specs.declared.code.Callee.TheViews.{roll-Code, out-Code, roll-out-Code}
use Rattle.es_codes.specs.declared.code.Callee.TheFolds.{map-Code}

pub chain_spliced : (c : Context) (e : Code) (node : ℕ) (expression : Code) → e ≡ variants.Chain node expression → spec.spliced c (code_of e) ≡ cond (new_here c node) (code_of expression) (of.chain node (code_of expression))
chain_spliced c e node expression is = ap (λ x. spec.spliced c (code_of x)) is ∙ ap (λ x. spec.spliced c x) (chain_is node expression)

pub no_chain_spliced : (c : Context) (e : Code) → ((node : ℕ) (expression : Code) → e ≡ variants.Chain node expression → ⊥) → spec.spliced c (code_of e) ≡ (code_of e)
no_chain_spliced c e not_chain = ap (λ x. spec.spliced c x) (code_out e) ∙ by (out-Code e) (roll-out-Code e) ∙ ap (λ x. x) (sym (code_out e))
  where
    by : (y : Code-F Callee Code Target) → roll-Code y ≡ e → spec.spliced c (code_step (map-Code Callee Code Target of.Callee of.Code of.Target callee_of code_of target_of y)) ≡ (code_step (map-Code Callee Code Target of.Callee of.Code of.Target callee_of code_of target_of y))
    by (Code-F.Chain node expression) is = absurd (not_chain node expression (sym is ∙ variants.rolls-Chain node expression))
    by y is = refl

pub bound_alone : (e : Code) (callee_function : Code) (object : Code) → e ≡ variants.Bound callee_function object → spec.ended_alone (code_of e) ≡ of.bound (code_of callee_function) (code_of object)
bound_alone e callee_function object is = ap (λ x. spec.ended_alone (code_of x)) is ∙ ap (λ x. spec.ended_alone x) (bound_is callee_function object)

pub tested_alone : (e : Code) (object : Code) (again : List Code) (rest_code : Code) → e ≡ variants.Tested object again rest_code → spec.ended_alone (code_of e) ≡ of.tested (code_of object) (codes_of again) (code_of rest_code)
tested_alone e object again rest_code is = ap (λ x. spec.ended_alone (code_of x)) is ∙ ap (λ x. spec.ended_alone x) (tested_is object again rest_code)

pub other_alone : (e : Code) → ((callee_function : Code) (object : Code) → e ≡ variants.Bound callee_function object → ⊥) → ((object : Code) (again : List Code) (rest_code : Code) → e ≡ variants.Tested object again rest_code → ⊥) → spec.ended_alone (code_of e) ≡ of.from_call (code_of e)
other_alone e not_bound not_tested = ap (λ x. spec.ended_alone x) (code_out e) ∙ by (out-Code e) (roll-out-Code e) ∙ ap (λ x. of.from_call x) (sym (code_out e))
  where
    by : (y : Code-F Callee Code Target) → roll-Code y ≡ e → spec.ended_alone (code_step (map-Code Callee Code Target of.Callee of.Code of.Target callee_of code_of target_of y)) ≡ of.from_call (code_step (map-Code Callee Code Target of.Callee of.Code of.Target callee_of code_of target_of y))
    by (Code-F.Bound callee_function object) is = absurd (not_bound callee_function object (sym is ∙ variants.rolls-Bound callee_function object))
    by (Code-F.Tested object again rest_code) is = absurd (not_tested object again rest_code (sym is ∙ variants.rolls-Tested object again rest_code))
    by y is = refl

deleted-by : (c : Context) (m k : ℕ) (op : events.Operation) (es held : of.Codes) → spec.deleted_as c m (of.operation k op es held) ≡ deleted_operation c m k op es held
deleted-by c m k events.Delete es held = refl
deleted-by c m k op es held = refl

pub operation_deleted : (c : Context) (m : ℕ) (e : Code) (node : ℕ) (operation : Operation) (operands : List Code) (held : List Code) → e ≡ variants.Operation node operation operands held → spec.deleted_as c m (code_of e) ≡ deleted_operation c m node (operation_of operation) (codes_of operands) (codes_of held)
operation_deleted c m e node operation operands held is = ap (λ x. spec.deleted_as c m (code_of x)) is ∙ ap (λ x. spec.deleted_as c m x) (operation_is node operation operands held) ∙ deleted-by c m node (operation_of operation) (codes_of operands) (codes_of held)

pub tested_deleted : (c : Context) (m : ℕ) (e : Code) (object : Code) (again : List Code) (rest_code : Code) → e ≡ variants.Tested object again rest_code → spec.deleted_as c m (code_of e) ≡ of.tested (code_of object) (codes_of again) (spec.deleted_as c m (code_of rest_code))
tested_deleted c m e object again rest_code is = ap (λ x. spec.deleted_as c m (code_of x)) is ∙ ap (λ x. spec.deleted_as c m x) (tested_is object again rest_code)

pub none_deleted : (c : Context) (m : ℕ) (e : Code) → ((node : ℕ) (operation : Operation) (operands : List Code) (held : List Code) → e ≡ variants.Operation node operation operands held → ⊥) → ((object : Code) (again : List Code) (rest_code : Code) → e ≡ variants.Tested object again rest_code → ⊥) → spec.deleted_as c m (code_of e) ≡ of.no_rule
none_deleted c m e not_operation not_tested = ap (λ x. spec.deleted_as c m x) (code_out e) ∙ by (out-Code e) (roll-out-Code e)
  where
    by : (y : Code-F Callee Code Target) → roll-Code y ≡ e → spec.deleted_as c m (code_step (map-Code Callee Code Target of.Callee of.Code of.Target callee_of code_of target_of y)) ≡ of.no_rule
    by (Code-F.Operation node operation operands held) is = absurd (not_operation node operation operands held (sym is ∙ variants.rolls-Operation node operation operands held))
    by (Code-F.Tested object again rest_code) is = absurd (not_tested object again rest_code (sym is ∙ variants.rolls-Tested object again rest_code))
    by y is = refl
