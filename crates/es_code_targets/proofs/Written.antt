-- What is written where a code stands as target, form by form.
use Rattle.std.proofs.Common.{◌≡◌, refl, sym, ap, ◌∙◌, ℕ, List}
use Rattle.es_steps.specs.Expressions as spec
use Rattle.es_code_targets.specs.Written.{written_member, written_pattern}
use Rattle.es_steps.specs.Code as of
use Rattle.es_codes.proofs.Forms.{code_out, binding_is, from_member_is, member_is, name_is, pattern_is, private_member_is, setter_is, super_member_is}
use Rattle.es_codes.specs.CodeView.{code_of, target_of, callee_of, code_step}
use Rattle.es_codes.specs.View.{kind_of, reference_of, home_of}
use Rattle.es_codes.specs.declared.code.Code.{Code}
use Rattle.es_codes.specs.declared.event.Home.{Home}
use Rattle.es_codes.specs.declared.name.NameKind.{NameKind}
use Rattle.es_codes.specs.declared.name.PrivateReference.{PrivateReference}
use Rattle.es_codes.specs.declared.code.Target.{Target}
use Rattle.es_codes.specs.declared.code.Callee.{Callee}
use Rattle.es_steps.specs.Values.{Value}
use Rattle.es_codes.specs.declared.code.Code.TheVariants as variants
use Rattle.es_codes.specs.declared.code.Callee.TheOpen.{Code-F}
use Rattle.es_codes.specs.declared.code.Callee.TheViews.{roll-Code, out-Code, roll-out-Code}
use Rattle.es_codes.specs.declared.code.Callee.TheFolds.{map-Code}

pub of_name : (e : Code) (node : ℕ) (spelling : List ℕ) (kind : NameKind) → e ≡ variants.Name node spelling kind → spec.target_of (code_of e) ≡ of.to_name node spelling (kind_of kind)
of_name e node spelling kind is = ap (λ x. spec.target_of (code_of x)) is ∙ ap (λ x. spec.target_of x) (name_is node spelling kind)

pub of_binding : (e : Code) (node : ℕ) (spelling : List ℕ) (kind : NameKind) → e ≡ variants.Binding node spelling kind → spec.target_of (code_of e) ≡ of.to_name node spelling (kind_of kind)
of_binding e node spelling kind is = ap (λ x. spec.target_of (code_of x)) is ∙ ap (λ x. spec.target_of x) (binding_is node spelling kind)

pub of_from_member : (e : Code) (expression : Code) → e ≡ variants.FromMember expression → spec.target_of (code_of e) ≡ spec.target_of (code_of expression)
of_from_member e expression is = ap (λ x. spec.target_of (code_of x)) is ∙ ap (λ x. spec.target_of x) (from_member_is expression)

pub no_name : (e : Code) → ((node : ℕ) (spelling : List ℕ) (kind : NameKind) → e ≡ variants.Name node spelling kind → ⊥) → ((node : ℕ) (spelling : List ℕ) (kind : NameKind) → e ≡ variants.Binding node spelling kind → ⊥) → ((expression : Code) → e ≡ variants.FromMember expression → ⊥) → spec.target_of (code_of e) ≡ written_member (code_of e)
no_name e not_name not_binding not_from_member = ap (λ x. spec.target_of x) (code_out e) ∙ by (out-Code e) (roll-out-Code e) ∙ ap (λ x. written_member x) (sym (code_out e))
  where
    by : (y : Code-F Callee Code Target) → roll-Code y ≡ e → spec.target_of (code_step (map-Code Callee Code Target of.Callee of.Code of.Target callee_of code_of target_of y)) ≡ written_member (code_step (map-Code Callee Code Target of.Callee of.Code of.Target callee_of code_of target_of y))
    by (Code-F.Name node spelling kind) is = absurd (not_name node spelling kind (sym is ∙ variants.rolls-Name node spelling kind))
    by (Code-F.Binding node spelling kind) is = absurd (not_binding node spelling kind (sym is ∙ variants.rolls-Binding node spelling kind))
    by (Code-F.FromMember expression) is = absurd (not_from_member expression (sym is ∙ variants.rolls-FromMember expression))
    by y is = refl

pub of_member : (e : Code) (node : ℕ) (object : Code) (key : Code) → e ≡ variants.Member node object key → written_member (code_of e) ≡ of.to_member node (code_of object) (code_of key)
of_member e node object key is = ap (λ x. written_member (code_of x)) is ∙ ap (λ x. written_member x) (member_is node object key)

pub of_private : (e : Code) (node : ℕ) (means : PrivateReference) (object : Code) → e ≡ variants.PrivateMember node means object → written_member (code_of e) ≡ of.to_private node (reference_of means) (code_of object)
of_private e node means object is = ap (λ x. written_member (code_of x)) is ∙ ap (λ x. written_member x) (private_member_is node means object)

pub of_super : (e : Code) (node : ℕ) (home : Home) (key : Code) (this_value : Value) → e ≡ variants.SuperMember node home key this_value → written_member (code_of e) ≡ of.to_super node (home_of home) (code_of key) this_value
of_super e node home key this_value is = ap (λ x. written_member (code_of x)) is ∙ ap (λ x. written_member x) (super_member_is node home key this_value)

pub no_member : (e : Code) → ((node : ℕ) (object : Code) (key : Code) → e ≡ variants.Member node object key → ⊥) → ((node : ℕ) (means : PrivateReference) (object : Code) → e ≡ variants.PrivateMember node means object → ⊥) → ((node : ℕ) (home : Home) (key : Code) (this_value : Value) → e ≡ variants.SuperMember node home key this_value → ⊥) → written_member (code_of e) ≡ written_pattern (code_of e)
no_member e not_member not_private_member not_super_member = ap (λ x. written_member x) (code_out e) ∙ by (out-Code e) (roll-out-Code e) ∙ ap (λ x. written_pattern x) (sym (code_out e))
  where
    by : (y : Code-F Callee Code Target) → roll-Code y ≡ e → written_member (code_step (map-Code Callee Code Target of.Callee of.Code of.Target callee_of code_of target_of y)) ≡ written_pattern (code_step (map-Code Callee Code Target of.Callee of.Code of.Target callee_of code_of target_of y))
    by (Code-F.Member node object key) is = absurd (not_member node object key (sym is ∙ variants.rolls-Member node object key))
    by (Code-F.PrivateMember node means object) is = absurd (not_private_member node means object (sym is ∙ variants.rolls-PrivateMember node means object))
    by (Code-F.SuperMember node home key this_value) is = absurd (not_super_member node home key this_value (sym is ∙ variants.rolls-SuperMember node home key this_value))
    by y is = refl

pub of_setter : (e : Code) (node : ℕ) (key : ℕ) (object : Code) → e ≡ variants.Setter node key object → written_pattern (code_of e) ≡ of.to_setter node key (code_of object)
of_setter e node key object is = ap (λ x. written_pattern (code_of x)) is ∙ ap (λ x. written_pattern x) (setter_is node key object)

pub of_pattern : (e : Code) (node : ℕ) (to : Target) → e ≡ variants.Pattern node to → written_pattern (code_of e) ≡ target_of to
of_pattern e node to is = ap (λ x. written_pattern (code_of x)) is ∙ ap (λ x. written_pattern x) (pattern_is node to)

pub no_pattern : (e : Code) → ((node : ℕ) (key : ℕ) (object : Code) → e ≡ variants.Setter node key object → ⊥) → ((node : ℕ) (to : Target) → e ≡ variants.Pattern node to → ⊥) → written_pattern (code_of e) ≡ of.no_target
no_pattern e not_setter not_pattern = ap (λ x. written_pattern x) (code_out e) ∙ by (out-Code e) (roll-out-Code e)
  where
    by : (y : Code-F Callee Code Target) → roll-Code y ≡ e → written_pattern (code_step (map-Code Callee Code Target of.Callee of.Code of.Target callee_of code_of target_of y)) ≡ of.no_target
    by (Code-F.Setter node key object) is = absurd (not_setter node key object (sym is ∙ variants.rolls-Setter node key object))
    by (Code-F.Pattern node to) is = absurd (not_pattern node to (sym is ∙ variants.rolls-Pattern node to))
    by y is = refl
