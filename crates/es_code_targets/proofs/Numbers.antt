-- The number of a target, form by form.
use Rattle.std.proofs.Common.{◌≡◌, sym, ap, ◌∙◌, ℕ, List}
use Rattle.es_base.specs.declared.kind.Kind.{Kind}
use Rattle.es_steps.specs.Statements.{target_number}
use Rattle.es_steps.specs.Values as values
use Rattle.es_codes.proofs.Forms.{to_name_is, to_member_is, to_private_is, to_super_is, to_setter_is, to_pattern_is, to_default_is, no_target_is}
use Rattle.es_codes.specs.CodeView.{target_of}
use Rattle.es_codes.specs.declared.event.Home.{Home}
use Rattle.es_codes.specs.declared.name.NameKind.{NameKind}
use Rattle.es_codes.specs.declared.name.PrivateReference.{PrivateReference}
use Rattle.es_codes.specs.declared.code.Code.{Code}
use Rattle.es_codes.specs.declared.code.Target.{Target}
use Rattle.es_codes.specs.declared.code.Target.TheVariants as variants

pub of_name : (to : Target) (otherwise : ℕ) (node : ℕ) (spelling : List ℕ) (kind : NameKind) → to ≡ variants.ToName node spelling kind → node ≡ target_number (target_of to) otherwise
of_name to otherwise node spelling kind is = sym (ap (λ x. target_number (target_of x) otherwise) is ∙ ap (λ x. target_number x otherwise) (to_name_is node spelling kind))

pub of_member : (to : Target) (otherwise : ℕ) (node : ℕ) (object : Code) (key : Code) → to ≡ variants.ToMember node object key → node ≡ target_number (target_of to) otherwise
of_member to otherwise node object key is = sym (ap (λ x. target_number (target_of x) otherwise) is ∙ ap (λ x. target_number x otherwise) (to_member_is node object key))

pub of_private : (to : Target) (otherwise : ℕ) (node : ℕ) (means : PrivateReference) (object : Code) → to ≡ variants.ToPrivate node means object → node ≡ target_number (target_of to) otherwise
of_private to otherwise node means object is = sym (ap (λ x. target_number (target_of x) otherwise) is ∙ ap (λ x. target_number x otherwise) (to_private_is node means object))

pub of_super : (to : Target) (otherwise : ℕ) (node : ℕ) (home : Home) (key : Code) (this_value : values.Value) → to ≡ variants.ToSuper node home key this_value → node ≡ target_number (target_of to) otherwise
of_super to otherwise node home key this_value is = sym (ap (λ x. target_number (target_of x) otherwise) is ∙ ap (λ x. target_number x otherwise) (to_super_is node home key this_value))

pub of_setter : (to : Target) (otherwise : ℕ) (node : ℕ) (key : ℕ) (object : Code) → to ≡ variants.ToSetter node key object → node ≡ target_number (target_of to) otherwise
of_setter to otherwise node key object is = sym (ap (λ x. target_number (target_of x) otherwise) is ∙ ap (λ x. target_number x otherwise) (to_setter_is node key object))

pub of_pattern : (to : Target) (otherwise : ℕ) (node : ℕ) (kind : Kind) (members : List Code) → to ≡ variants.ToPattern node kind members → node ≡ target_number (target_of to) otherwise
of_pattern to otherwise node kind members is = sym (ap (λ x. target_number (target_of x) otherwise) is ∙ ap (λ x. target_number x otherwise) (to_pattern_is node kind members))

pub of_default : (to : Target) (otherwise : ℕ) (node : ℕ) (inner : Target) (fallback : Code) → to ≡ variants.ToDefault node inner fallback → node ≡ target_number (target_of to) otherwise
of_default to otherwise node inner fallback is = sym (ap (λ x. target_number (target_of x) otherwise) is ∙ ap (λ x. target_number x otherwise) (to_default_is node inner fallback))

pub of_none : (to : Target) (otherwise : ℕ) → to ≡ variants.NoTarget → otherwise ≡ target_number (target_of to) otherwise
of_none to otherwise is = sym (ap (λ x. target_number (target_of x) otherwise) is ∙ ap (λ x. target_number x otherwise) (no_target_is))
