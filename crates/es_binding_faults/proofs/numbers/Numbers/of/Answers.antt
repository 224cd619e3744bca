use Rattle.std.proofs.Common.{◌∙◌}
use Rattle.es_steps.specs.References.{has_number}
use Rattle.es_binding_faults.proofs.HasNumbers.{next_number, all_numbers}
use Rattle.es_binding_faults.proofs.numbers.Numbers.of.Goals as goal

pub loop-node-preserved : goal.loop-node-preserved
loop-node-preserved c = λ n. next_number n (has_number n c.loop-node.numbers) (has_number n c.insert.new.self) c.args.nodes.now c.loop-node.node-index (record { 0 = 0 }) c.loop-node-test.true (c.in_ok-insert.ensures n) ∙ c.loop-node.invariant n

pub returns : goal.returns
returns c = λ n. all_numbers n (has_number n c.loop-node.numbers) _ c.args.nodes.now c.loop-node.node-index c.loop-node-test.false (c.loop-node.invariant n)
