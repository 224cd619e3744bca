use Rattle.std.proofs.Common.{◌∙◌}
use Rattle.es_binding_faults.specs.Seen.{seen}
use Rattle.es_references.specs.References.{references_of}
use Rattle.es_owed_calls.proofs.KeyNames.{naming_at}
use Rattle.es_owed_calls.proofs.kept_keys.names_in_lowered.Goals as goal

pub returns : goal.returns
returns c =
    let x = c.args.lowering.now in
    let n = c.args.class in
    c.is_naming.ensures
    ∙ naming_at x.first c.args.number n x.ledger.now x.lowered.now.program.now (references_of x.lowered.now.references.list.items) c.get.result.now (seen c.numbered.result.now) (seen x.lowered.now.nodes.items) x.lowered.now.are_resolved (c.get.ensures ∙ x.lowered_identifiers_are n) c.numbered.ensures x.lowered.now.in_preorder
