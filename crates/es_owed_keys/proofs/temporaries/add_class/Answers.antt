use Rattle.std.proofs.Common.{◌≡◌, ap, ap₂, ◌∙◌, ◌++◌}
use Rattle.es_binding_faults.proofs.Appending.{OnOk-map}
use Rattle.es_lowered.specs.Definitions as spec
use Rattle.es_owed_definitions.specs.Views.{definition_views}
use Rattle.es_owed_initialized.specs.Keys.{keys_of}
use Rattle.es_owed_keys.proofs.Classed.{both_classed}
use Rattle.es_owed_keys.proofs.temporaries.add_class.Goals as goal
use Rattle.es_seen_names.specs.PrivateMembers.{private_members_of}

pub returns : goal.returns
returns c =
    let x = c.args.lowered.now in
    let n = c.args.class in
    let ledger = x.terms.ledger.now in
    let q = x.listed.now.program.now in
    let instance = definition_views c.in_ok-instance.instance.items in
    let statics = definition_views c.static_definitions.result.now in
    let old = keys_of c.args.found.now.items in
    let found = keys_of c.add_keys.new.found.items in
    let new = keys_of c.add_keys-2.new.found.items in
    let given = c.in_ok-add_keys.ensures ∙ ap (λ ds. old ++ spec.with_class n (spec.key_temporaries ledger (definition_views ds))) c.as_slice.ensures.value in
    OnOk-map c.add_keys-2.result
    (new ≡ found ++ spec.with_class n (spec.key_temporaries ledger statics))
    (new ≡ old ++ spec.with_class n (spec.class_temporaries x.terms.first x.terms.options.now ledger (private_members_of x.members.now) q n))
    (λ e. both_classed ledger n instance statics old found new given e ∙ ap (λ ds. old ++ spec.with_class n (spec.key_temporaries ledger ds)) (ap₂ (λ a b. a ++ b) c.in_ok-instance.ensures c.static_definitions.ensures))
    c.add_keys-2.ensures
