use Rattle.std.proofs.Common.{◌≡◌, map, take}
use Rattle.es_duplicates.specs.Copies.{without_number}
use Rattle.es_duplicates.proofs.copy.copy_nodes.Given as goal

abbrev pub invariant-loop-node : goal.invariant-loop-node
invariant-loop-node l = l.copies ≡ map without_number (take l.node-index l.nodes)
