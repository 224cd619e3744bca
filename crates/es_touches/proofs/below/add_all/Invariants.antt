use Rattle.std.proofs.Common.{◌≡◌, ◌++◌, drop}
use Rattle.es_binding_faults.specs.Seen.{seen}
use Rattle.es_touches.proofs.below.add_all.Given as goal

abbrev pub invariant-loop-node : goal.invariant-loop-node
invariant-loop-node l = seen l.nodes.items ++ seen (drop l.node-index l.more) ≡ seen l.fn.nodes.items ++ seen l.more
