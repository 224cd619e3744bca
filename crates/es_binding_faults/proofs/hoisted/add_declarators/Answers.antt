use Rattle.std.proofs.Common.{refl}
use Rattle.es_base.specs.Tree.{trees}
use Rattle.es_binding_faults.proofs.Appending.{appended, appended_all}
use Rattle.es_binding_faults.proofs.Hoisting.{declarators_one}
use Rattle.es_binding_faults.specs.Hoisted.{declarator, declarators}
use Rattle.es_binding_faults.specs.Named.{named}
use Rattle.es_binding_faults.proofs.hoisted.add_declarators.Goals as goal

pub loop-node-preserved : goal.loop-node-preserved
loop-node-preserved c = appended (λ i xs. declarators (trees xs)) (λ i u. declarator u) declarators_one (named c.loop-node.names.items) (named c.add_declarator.new.names.items) _ c.args.nodes.now c.loop-node.node-index c.node-item.result c.loop-node-test.true c.node-item.is c.in_ok-add_declarator.ensures c.loop-node.invariant

pub returns : goal.returns
returns c = appended_all (λ i xs. declarators (trees xs)) (named c.loop-node.names.items) _ c.args.nodes.now c.loop-node.node-index (λ k. refl) c.loop-node-test.false c.loop-node.invariant
