use Rattle.std.proofs.Common.{◌≡◌, ◌++◌, drop}
use Rattle.es_binding_faults.specs.Seen.{seen}
use Rattle.es_by_number.specs.Numbered.{pairs}
use Rattle.es_lowered.specs.Lowered.{all_behind}
use Rattle.es_owed_initialized.proofs.behind.all_behind.Given as goal

abbrev pub invariant-loop-node : goal.invariant-loop-node
invariant-loop-node l = pairs l.found.items ++ all_behind (seen (drop l.node-index l.nodes)) ≡ all_behind (seen l.nodes)
