use Rattle.std.proofs.Common.{◌≡◌, ◌++◌, drop}
use Rattle.es_binding_faults.specs.Seen.{seen}
use Rattle.es_steps.specs.KeptNodes.{block_numbers}
use Rattle.es_owed.proofs.homes.block_numbers.Given as goal

abbrev pub invariant-loop-node : goal.invariant-loop-node
invariant-loop-node l = l.blocks.items ++ block_numbers (seen (drop l.node-index l.nodes)) ≡ block_numbers (seen l.nodes)
