use Rattle.std.proofs.Common.{refl}
use Rattle.es_base.specs.Tree.{child, trees}
use Rattle.es_steps.specs.Scopes.{body_names}
use Rattle.es_binding_faults.proofs.Appending.{appended, appended_all}
use Rattle.es_binding_faults.proofs.ScopeNames.{body_one}
use Rattle.es_binding_faults.specs.Named.{named, plain}
use Rattle.es_binding_faults.specs.ScopeForms.{body_item}
use Rattle.es_binding_faults.proofs.scopes.add_body_list.Goals as goal

pub loop-node-preserved : goal.loop-node-preserved
loop-node-preserved c = appended (λ i xs. plain (body_names (trees xs))) (λ i u. body_item (child u)) (λ i x xs. body_one (child x) (trees xs)) (named c.loop-node.names.items) (named c.add_body_item.new.names.items) _ c.args.nodes.now c.loop-node.node-index c.node-item.result c.loop-node-test.true c.node-item.is c.in_ok-add_body_item.ensures c.loop-node.invariant

pub returns : goal.returns
returns c = appended_all (λ i xs. plain (body_names (trees xs))) (named c.loop-node.names.items) _ c.args.nodes.now c.loop-node.node-index (λ k. refl) c.loop-node-test.false c.loop-node.invariant
