use Rattle.std.proofs.Common.{sym, ◌∙◌}
use Rattle.es_references.specs.References.{references_of}
use Rattle.es_owed_calls.proofs.KeyNames.{naming_behind}
use Rattle.es_owed_calls.proofs.kept_keys.is_naming.Goals as goal

pub loop-node-preserved : goal.loop-node-preserved
loop-node-preserved c =
    let program = c.args.program in
    sym (naming_behind c.args.number c.args.class program.ledger.now (references_of program.references.now.list.items) program.identifiers.now c.args.nodes.now c.loop-node.node-index c.node-item.result c.loop-node-test.true c.node-item.is (sym c.is_name.ensures ∙ c.if-is_name.false)) ∙ c.loop-node.invariant
