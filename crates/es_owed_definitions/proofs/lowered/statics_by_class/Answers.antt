use Rattle.std.proofs.Common.{◌≡◌, ◌∙◌, ap, ℕ}
use Rattle.es_base.specs.Preorder.{preorder}
use Rattle.es_binding_faults.proofs.Appending.{IfOk-map}
use Rattle.es_binding_faults.specs.Seen.{seen}
use Rattle.es_grouped.specs.Groups.{group}
use Rattle.es_lowered.specs.Definitions as spec
use Rattle.es_references.specs.References.{references_of}
use Rattle.es_seen_names.specs.PrivateMembers.{private_members_of}
use Rattle.es_steps.specs.References.{resolve}
use Rattle.es_owed_definitions.proofs.StaticClasses.{same_statics}
use Rattle.es_owed_definitions.specs.Views.{definition_views}
use Rattle.es_owed_definitions.proofs.lowered.statics_by_class.Goals as goal

pub returns : goal.returns
returns c =
    let x = c.args.terms.now in
    let first = x.first in
    let ledger = x.ledger.now in
    let members = private_members_of c.args.members.now in
    let q = c.args.listed.now.program.now in
    let rs = references_of c.args.listed.now.references.list.items in
    let ts = seen c.as_slice-2.result.now in
    let ds = definition_views c.as_slice-3.result.now in
    let gone_over : seen c.as_slice.result.now ≡ preorder q = ap seen c.as_slice.ensures.value ∙ c.args.listed.now.in_preorder in
    let nodes : ts ≡ preorder q = ap seen c.as_slice-2.ensures.value ∙ c.args.listed.now.in_preorder in
    let definitions : ds ≡ spec.all_definitions first x.options.now ledger (preorder q) = ap definition_views c.as_slice-3.ensures.value ∙ c.in_ok-definitions.ensures ∙ ap (spec.all_definitions first x.options.now ledger) gone_over in
    IfOk-map c.definitions_by_class.result
    (λ g. (n : ℕ) → definition_views (group n g) ≡ spec.statics_of (spec.is_static_of n ledger members rs (spec.class_identifiers first n ts)) ds)
    (λ g. (n : ℕ) → definition_views (group n g) ≡ spec.static_definitions first x.options.now ledger members q n)
    (λ g h n. h n ∙ same_statics first n ledger members rs (resolve q) ts (preorder q) ds (spec.all_definitions first x.options.now ledger (preorder q)) c.args.listed.now.are_resolved nodes definitions)
    c.definitions_by_class.ensures
