use Rattle.std.proofs.Common.{◌≡◌, ◌∙◌, ap, ℕ}
use Rattle.es_binding_faults.proofs.Appending.{IfOk-map}
use Rattle.es_binding_faults.specs.Seen.{seen}
use Rattle.es_by_number.specs.Numbered.{pairs}
use Rattle.es_grouped.specs.Groups.{group, having}
use Rattle.es_lowered.specs.Definitions as spec
use Rattle.es_references.specs.References.{references_of}
use Rattle.es_seen_names.specs.PrivateMembers.{private_members_of}
use Rattle.es_owed_definitions.proofs.StaticClasses.{by_classes}
use Rattle.es_owed_definitions.specs.Views.{definition_views}
use Rattle.es_owed_definitions.proofs.statics.definitions_by_class.Goals as goal

pub returns : goal.returns
returns c =
    let ledger = c.args.terms.now.ledger.now in
    let members = private_members_of c.args.members.now in
    let references = references_of c.args.references.now.list.items in
    let ids = λ (n : ℕ). spec.class_identifiers c.args.terms.now.first n (seen c.args.nodes.now) in
    let ds = c.args.definitions.now in
    IfOk-map c.of.result
    (λ g. (n : ℕ) → group n g ≡ having n (pairs c.in_ok-items.items.items))
    (λ g. (n : ℕ) → definition_views (group n g) ≡ spec.statics_of (spec.is_static_of n ledger members references (ids n)) (definition_views ds))
    (λ g h n. ap definition_views (h n ∙ ap (having n) c.in_ok-items.ensures) ∙ by_classes ledger members references c.in_ok-declared.declared n (ids n) (λ b. c.in_ok-declared.ensures b n) ds)
    c.of.ensures
