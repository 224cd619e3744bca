use Rattle.std.proofs.Common.{◌≡◌, drop}
use Rattle.es_binding_faults.specs.Seen.{seen}
use Rattle.es_node.specs.View.{parts_of}
use Rattle.es_lowered.specs.Texts.{is_literal_among}
use Rattle.es_owed_texts.proofs.literals.is_literal_among.Given as goal

abbrev pub invariant-loop-node : goal.invariant-loop-node
invariant-loop-node l = is_literal_among (parts_of l.parts) (seen (drop l.node-index l.nodes)) ≡ is_literal_among (parts_of l.parts) (seen l.nodes)
