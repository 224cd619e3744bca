use Rattle.std.proofs.Common.{ap, ◌∙◌, ◌++◌, [], ◌∷◌, cond}
use Rattle.es_node.specs.View.{number_in}
use Rattle.es_validity.specs.Facts.{eval_calls_of_all}
use Rattle.es_binding_faults.proofs.Appending.{appended}
use Rattle.es_binding_faults.proofs.WholeNames.{calls_one}
use Rattle.es_binding_faults.specs.Evals.{is_eval_call}
use Rattle.es_binding_faults.specs.Repeats.{numbers}
use Rattle.es_binding_faults.specs.Seen.{seen}
use Rattle.es_binding_faults.proofs.facts.calls_of.Goals as goal

pub loop-node-preserved : goal.loop-node-preserved
loop-node-preserved c = appended (λ i xs. eval_calls_of_all c.args.evals.now (seen xs)) (λ i n. cond (is_eval_call c.args.evals.now n.now) (number_in n.now ∷ []) []) (λ i n ns. calls_one c.args.evals.now n.now (seen ns)) (numbers c.loop-node.found.items) (numbers c.push_if.new.nodes.items) _ c.args.nodes.now c.loop-node.node-index c.node-item.result c.loop-node-test.true c.node-item.is (c.in_ok-push_if.ensures ∙ ap (λ b. numbers c.loop-node.found.items ++ cond b (c.node_id.result.0 ∷ []) []) c.is_eval_call.ensures ∙ ap (λ m. numbers c.loop-node.found.items ++ cond (is_eval_call c.args.evals.now c.node-item.result.now) (m ∷ []) []) c.node_id.ensures) c.loop-node.invariant
