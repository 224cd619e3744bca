use Rattle.std.proofs.Common.{◌≡◌, drop}
use Rattle.es_binding_faults.specs.Seen.{seen}
use Rattle.es_lowered.specs.Definitions.{elements_kept}
use Rattle.es_owed.proofs.elements.elements_stay.Given as goal

abbrev pub invariant-loop-node : goal.invariant-loop-node
invariant-loop-node l = elements_kept l.options (seen (drop l.node-index l.source)) (seen l.lowered.nodes.items) ≡ elements_kept l.options (seen l.source) (seen l.lowered.nodes.items)
