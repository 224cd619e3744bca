use Rattle.std.proofs.Common.{◌≡◌, drop, map}
use Rattle.es_base.specs.declared.ids.NodeId.{NodeId}
use Rattle.es_steps.specs.Printable.{all_among}
use Rattle.es_owed_printable.proofs.bare_strings.all_among.Given as goal

abbrev pub invariant-loop-node : goal.invariant-loop-node
invariant-loop-node l = all_among (map (λ (n : NodeId). n.0) (drop l.node-index l.nodes)) l.known ≡ all_among (map (λ (n : NodeId). n.0) l.nodes) l.known
