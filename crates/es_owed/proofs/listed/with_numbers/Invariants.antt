use Rattle.std.proofs.Common.{◌≡◌, ◌++◌, map, drop, Bor}
use Rattle.es_base.specs.Preorder.{number_of}
use Rattle.es_base.specs.Tree.{Tree}
use Rattle.es_by_number.specs.Numbered.{pairs}
use Rattle.es_owed.proofs.listed.with_numbers.Given as goal

abbrev pub invariant-loop-node : goal.invariant-loop-node
invariant-loop-node l = pairs l.items.items ++ map (λ (n : Bor Tree). (number_of n.now, n)) (drop l.node-index l.nodes) ≡ map (λ (n : Bor Tree). (number_of n.now, n)) l.nodes
