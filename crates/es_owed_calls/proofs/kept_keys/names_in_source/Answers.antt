use Rattle.std.proofs.Common.{◌∙◌, ap, List}
use Rattle.es_base.specs.Preorder.{preorder}
use Rattle.es_base.specs.declared.ledger.LedgerEntry.{LedgerEntry}
use Rattle.es_binding_faults.specs.Seen.{seen}
use Rattle.es_lowered.specs.ClassNames.{naming}
use Rattle.es_lowered.specs.Definitions.{class_identifiers}
use Rattle.es_references.specs.References.{references_of}
use Rattle.es_steps.specs.References.{has_number, resolve}
use Rattle.es_owed_calls.proofs.KeyNames.{naming_at}
use Rattle.es_owed_calls.proofs.kept_keys.names_in_source.Goals as goal

pub returns : goal.returns
returns c =
    let x = c.args.lowering.now in
    let n = c.args.class in
    let m = c.args.number in
    let p = x.source.now.program.now in
    c.is_naming.ensures
    ∙ naming_at x.first m n x.source_ledger p (references_of x.source.now.references.list.items) c.get.result.now (seen c.numbered.result.now) (seen x.source.now.nodes.items) x.source.now.are_resolved (c.get.ensures ∙ x.source_identifiers_are n) c.numbered.ensures x.source.now.in_preorder
    ∙ ap (λ (es : List LedgerEntry). has_number m (naming n es (resolve p) (class_identifiers x.first n (preorder p)) (preorder p))) x.source_ledger_is
