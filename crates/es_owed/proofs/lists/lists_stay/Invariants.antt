use Rattle.std.proofs.Common.{◌≡◌, drop}
use Rattle.es_binding_faults.specs.Seen.{seen}
use Rattle.es_owed.specs.Lists.{lists_stay}
use Rattle.es_owed.proofs.lists.lists_stay.Given as goal

abbrev pub invariant-loop-node : goal.invariant-loop-node
invariant-loop-node l = lists_stay l.options (seen l.lowered.nodes.items) (seen (drop l.node-index l.source)) ≡ lists_stay l.options (seen l.lowered.nodes.items) (seen l.source)
