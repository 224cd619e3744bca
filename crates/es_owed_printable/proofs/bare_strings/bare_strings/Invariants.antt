use Rattle.std.proofs.Common.{◌≡◌, ◌++◌, drop, map}
use Rattle.es_base.specs.declared.ids.NodeId.{NodeId}
use Rattle.es_binding_faults.specs.Seen.{seen}
use Rattle.es_steps.specs.Printable.{bare_strings}
use Rattle.es_owed_printable.proofs.bare_strings.bare_strings.Given as goal

abbrev pub invariant-loop-node : goal.invariant-loop-node
invariant-loop-node l = map (λ (n : NodeId). n.0) l.found.items ++ bare_strings (seen (drop l.node-index l.nodes)) ≡ bare_strings (seen l.nodes)
