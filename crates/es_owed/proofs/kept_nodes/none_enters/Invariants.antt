use Rattle.std.proofs.Common.{◌≡◌, drop}
use Rattle.es_binding_faults.specs.Seen.{seen}
use Rattle.es_steps.specs.KeptNodes.{none_enters}
use Rattle.es_owed.proofs.kept_nodes.none_enters.Given as goal

abbrev pub invariant-loop-node : goal.invariant-loop-node
invariant-loop-node l = none_enters l.first (seen l.source.nodes.items) (seen (drop l.node-index l.lowered)) ≡ none_enters l.first (seen l.source.nodes.items) (seen l.lowered)
