use Rattle.std.proofs.Common.{◌∙◌}
use Rattle.es_steps.specs.References.{has_number}
use Rattle.es_outside.proofs.CaughtNames.{next_catch}
use Rattle.es_references.specs.Frames.{ids}
use Rattle.es_outside.proofs.changing.caught_again.Goals as goal

pub loop-node-preserved : goal.loop-node-preserved
loop-node-preserved c = λ n. next_catch n (has_number n (ids c.loop-node.bindings.items)) (has_number n (ids c.add_caught_again.new.bindings.items)) c.args.nodes.now c.loop-node.node-index c.node-item.result c.loop-node-test.true c.node-item.is (c.in_ok-add_caught_again.ensures n) ∙ c.loop-node.invariant n
