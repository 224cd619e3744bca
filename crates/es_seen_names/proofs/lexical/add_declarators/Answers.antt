use Rattle.std.proofs.Common.{refl}
use Rattle.es_base.specs.Tree.{child, trees}
use Rattle.es_steps.specs.Scopes.{declarator_names, declarators_names}
use Rattle.es_binding_faults.proofs.Appending.{appended, appended_all}
use Rattle.es_seen_names.specs.Declarations.{declarations}
use Rattle.es_seen_names.proofs.lexical.add_declarators.Goals as goal

pub loop-node-preserved : goal.loop-node-preserved
loop-node-preserved c = appended (λ i xs. declarators_names c.args.variables c.args.is_let (trees xs)) (λ i u. declarator_names c.args.variables c.args.is_let (child u)) (λ i x xs. refl) (declarations c.loop-node.names.items) (declarations c.add_declarator.new.names.items) _ c.args.nodes.now c.loop-node.node-index c.node-item.result c.loop-node-test.true c.node-item.is c.in_ok-add_declarator.ensures c.loop-node.invariant

pub returns : goal.returns
returns c = appended_all (λ i xs. declarators_names c.args.variables c.args.is_let (trees xs)) (declarations c.loop-node.names.items) _ c.args.nodes.now c.loop-node.node-index (λ k. refl) c.loop-node-test.false c.loop-node.invariant
