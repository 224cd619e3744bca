use Rattle.std.proofs.Common.{◌≡◌, ◌++◌, drop}
use Rattle.es_binding_faults.specs.Seen.{seen}
use Rattle.es_lowered.specs.Timely.{leading_lets}
use Rattle.es_marks_around.proofs.leading.leading_lets.Given as goal

abbrev pub invariant-loop-node : goal.invariant-loop-node
invariant-loop-node l = l.leading.items ++ leading_lets (seen (drop l.node-index l.nodes)) ≡ leading_lets (seen l.nodes)
