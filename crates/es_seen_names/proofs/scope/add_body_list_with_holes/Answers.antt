use Rattle.std.proofs.Common.{refl, ◌++◌}
use Rattle.es_base.specs.Tree.{nullable, nullable_trees}
use Rattle.es_steps.specs.Scopes.{body_names, lexical_part, var_part}
use Rattle.es_binding_faults.proofs.Appending.{appended, appended_all}
use Rattle.es_seen_names.specs.Declarations.{declarations}
use Rattle.es_seen_names.proofs.scope.add_body_list_with_holes.Goals as goal

pub loop-node-preserved : goal.loop-node-preserved
loop-node-preserved c = appended (λ i xs. body_names (nullable_trees xs)) (λ i u. lexical_part (nullable u) ++ var_part (nullable u)) (λ i x xs. refl) (declarations c.loop-node.names.items) (declarations c.add_body_hole.new.names.items) _ c.args.nodes.now c.loop-node.node-index c.node-item.result c.loop-node-test.true c.node-item.is c.in_ok-add_body_hole.ensures c.loop-node.invariant

pub returns : goal.returns
returns c = appended_all (λ i xs. body_names (nullable_trees xs)) (declarations c.loop-node.names.items) _ c.args.nodes.now c.loop-node.node-index (λ k. refl) c.loop-node-test.false c.loop-node.invariant
