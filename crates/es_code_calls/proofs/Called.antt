-- What is called where a code stands as callee, form by form.
use Rattle.std.proofs.Common.{◌≡◌, refl, sym, ap, ◌∙◌, ℕ, List}
use Rattle.es_steps.specs.Expressions as spec
use Rattle.es_code_calls.specs.Called.{called_bound, called_member}
use Rattle.es_steps.specs.Code as of
use Rattle.es_codes.proofs.Forms.{code_out, bound_is, chain_is, from_member_is, member_is, private_member_is, super_member_is, tested_is}
use Rattle.es_codes.specs.CodeView.{code_of, target_of, callee_of, codes_of, code_step}
use Rattle.es_codes.specs.View.{reference_of, home_of}
use Rattle.es_codes.specs.declared.code.Code.{Code}
use Rattle.es_codes.specs.declared.event.Home.{Home}
use Rattle.es_codes.specs.declared.name.PrivateReference.{PrivateReference}
use Rattle.es_codes.specs.declared.code.Target.{Target}
use Rattle.es_codes.specs.declared.code.Callee.{Callee}
use Rattle.es_steps.specs.Values.{Value}
use Rattle.es_codes.specs.declared.code.Code.TheVariants as variants
use Rattle.es_codes.specs.declared.code.Callee.TheOpen.{Code-F}
use Rattle.es_codes.specs.declared.code.Callee.TheViews.{roll-Code, out-Code, roll-out-Code}
use Rattle.es_codes.specs.declared.code.Callee.TheFolds.{map-Code}

pub of_chain : (e : Code) (node : ℕ) (expression : Code) → e ≡ variants.Chain node expression → spec.callee_of (code_of e) ≡ of.on_chain node (spec.callee_of (code_of expression))
of_chain e node expression is = ap (λ x. spec.callee_of (code_of x)) is ∙ ap (λ x. spec.callee_of x) (chain_is node expression)

pub of_tested : (e : Code) (object : Code) (again : List Code) (rest_code : Code) → e ≡ variants.Tested object again rest_code → spec.callee_of (code_of e) ≡ of.behind_test (code_of object) (codes_of again) (spec.callee_of (code_of rest_code))
of_tested e object again rest_code is = ap (λ x. spec.callee_of (code_of x)) is ∙ ap (λ x. spec.callee_of x) (tested_is object again rest_code)

pub no_chain : (e : Code) → ((node : ℕ) (expression : Code) → e ≡ variants.Chain node expression → ⊥) → ((object : Code) (again : List Code) (rest_code : Code) → e ≡ variants.Tested object again rest_code → ⊥) → spec.callee_of (code_of e) ≡ called_member (code_of e)
no_chain e not_chain not_tested = ap (λ x. spec.callee_of x) (code_out e) ∙ by (out-Code e) (roll-out-Code e) ∙ ap (λ x. called_member x) (sym (code_out e))
  where
    by : (y : Code-F Callee Code Target) → roll-Code y ≡ e → spec.callee_of (code_step (map-Code Callee Code Target of.Callee of.Code of.Target callee_of code_of target_of y)) ≡ called_member (code_step (map-Code Callee Code Target of.Callee of.Code of.Target callee_of code_of target_of y))
    by (Code-F.Chain node expression) is = absurd (not_chain node expression (sym is ∙ variants.rolls-Chain node expression))
    by (Code-F.Tested object again rest_code) is = absurd (not_tested object again rest_code (sym is ∙ variants.rolls-Tested object again rest_code))
    by y is = refl

pub of_member : (e : Code) (node : ℕ) (object : Code) (key : Code) → e ≡ variants.Member node object key → called_member (code_of e) ≡ of.on_member node (code_of object) (code_of key)
of_member e node object key is = ap (λ x. called_member (code_of x)) is ∙ ap (λ x. called_member x) (member_is node object key)

pub of_private : (e : Code) (node : ℕ) (means : PrivateReference) (object : Code) → e ≡ variants.PrivateMember node means object → called_member (code_of e) ≡ of.on_private node (reference_of means) (code_of object)
of_private e node means object is = ap (λ x. called_member (code_of x)) is ∙ ap (λ x. called_member x) (private_member_is node means object)

pub of_super : (e : Code) (node : ℕ) (home : Home) (key : Code) (this_value : Value) → e ≡ variants.SuperMember node home key this_value → called_member (code_of e) ≡ of.on_super node (home_of home) (code_of key) this_value
of_super e node home key this_value is = ap (λ x. called_member (code_of x)) is ∙ ap (λ x. called_member x) (super_member_is node home key this_value)

pub no_member : (e : Code) → ((node : ℕ) (object : Code) (key : Code) → e ≡ variants.Member node object key → ⊥) → ((node : ℕ) (means : PrivateReference) (object : Code) → e ≡ variants.PrivateMember node means object → ⊥) → ((node : ℕ) (home : Home) (key : Code) (this_value : Value) → e ≡ variants.SuperMember node home key this_value → ⊥) → called_member (code_of e) ≡ called_bound (code_of e)
no_member e not_member not_private_member not_super_member = ap (λ x. called_member x) (code_out e) ∙ by (out-Code e) (roll-out-Code e) ∙ ap (λ x. called_bound x) (sym (code_out e))
  where
    by : (y : Code-F Callee Code Target) → roll-Code y ≡ e → called_member (code_step (map-Code Callee Code Target of.Callee of.Code of.Target callee_of code_of target_of y)) ≡ called_bound (code_step (map-Code Callee Code Target of.Callee of.Code of.Target callee_of code_of target_of y))
    by (Code-F.Member node object key) is = absurd (not_member node object key (sym is ∙ variants.rolls-Member node object key))
    by (Code-F.PrivateMember node means object) is = absurd (not_private_member node means object (sym is ∙ variants.rolls-PrivateMember node means object))
    by (Code-F.SuperMember node home key this_value) is = absurd (not_super_member node home key this_value (sym is ∙ variants.rolls-SuperMember node home key this_value))
    by y is = refl

pub of_bound : (e : Code) (callee_function : Code) (object : Code) → e ≡ variants.Bound callee_function object → called_bound (code_of e) ≡ of.with_receiver (code_of callee_function) (code_of object)
of_bound e callee_function object is = ap (λ x. called_bound (code_of x)) is ∙ ap (λ x. called_bound x) (bound_is callee_function object)

pub of_from_member : (e : Code) (expression : Code) → e ≡ variants.FromMember expression → called_bound (code_of e) ≡ of.plain of.no_rule
of_from_member e expression is = ap (λ x. called_bound (code_of x)) is ∙ ap (λ x. called_bound x) (from_member_is expression)

pub no_bound : (e : Code) → ((callee_function : Code) (object : Code) → e ≡ variants.Bound callee_function object → ⊥) → ((expression : Code) → e ≡ variants.FromMember expression → ⊥) → called_bound (code_of e) ≡ of.plain (code_of e)
no_bound e not_bound not_from_member = ap (λ x. called_bound x) (code_out e) ∙ by (out-Code e) (roll-out-Code e) ∙ ap (λ x. of.plain x) (sym (code_out e))
  where
    by : (y : Code-F Callee Code Target) → roll-Code y ≡ e → called_bound (code_step (map-Code Callee Code Target of.Callee of.Code of.Target callee_of code_of target_of y)) ≡ of.plain (code_step (map-Code Callee Code Target of.Callee of.Code of.Target callee_of code_of target_of y))
    by (Code-F.Bound callee_function object) is = absurd (not_bound callee_function object (sym is ∙ variants.rolls-Bound callee_function object))
    by (Code-F.FromMember expression) is = absurd (not_from_member expression (sym is ∙ variants.rolls-FromMember expression))
    by y is = refl
