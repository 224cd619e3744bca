use Rattle.std.proofs.Common.{ap, ◌∙◌}
use Rattle.es_base.specs.Tree.{trees}
use Rattle.es_binding_faults.proofs.Appending.{IfOk-map}
use Rattle.es_lowered.specs.HelperCalls.{naming_at}
use Rattle.es_owed_calls.specs.StaticKeys.{key_views}
use Rattle.es_owed_calls.proofs.NamingNodes.{sequence_named}
use Rattle.es_owed_calls.proofs.naming.+naming.Goals as goal

pub naming_in-returns-in-SequenceExpression : goal.naming_in-returns-in-SequenceExpression
naming_in-returns-in-SequenceExpression t c =
    let first = c.args.terms.now.first in
    let ledger = c.args.terms.now.ledger.now in
    let keys = key_views c.args.keys.now in
    IfOk-map c.naming_at.result _ _ (λ r is. is ∙ ap (naming_at first ledger keys) c.node_at.ensures.part ∙ sequence_named first ledger keys c.args.value.now _ _ (trees c.from_node-in-SequenceExpression.result.expressions.now) c.from_node-in-SequenceExpression.ensures) c.naming_at.ensures
