use Rattle.std.proofs.Common.{◌≡◌, ◌++◌, drop, map}
use Rattle.es_base.specs.Preorder.{number_of}
use Rattle.es_binding_faults.specs.Seen.{seen}
use Rattle.es_owed.proofs.numbers.numbers_of.Given as goal

abbrev pub invariant-loop-node : goal.invariant-loop-node
invariant-loop-node l = l.numbers.items ++ map number_of (seen (drop l.node-index l.nodes)) ≡ map number_of (seen l.nodes)
