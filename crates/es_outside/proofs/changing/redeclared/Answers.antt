use Rattle.std.proofs.Common.{◌∙◌}
use Rattle.es_steps.specs.References.{has_number}
use Rattle.es_outside.proofs.DeclaredNames.{next_node}
use Rattle.es_references.specs.Frames.{ids}
use Rattle.es_outside.proofs.changing.redeclared.Goals as goal

pub loop-node-preserved : goal.loop-node-preserved
loop-node-preserved c = λ n. next_node n (has_number n (ids c.loop-node.bindings.items)) (has_number n (ids c.add_redeclared.new.bindings.items)) c.args.nodes.now c.loop-node.node-index c.node-item.result c.loop-node-test.true c.node-item.is (c.in_ok-add_redeclared.ensures n) ∙ c.loop-node.invariant n
