use Rattle.std.proofs.Common.{◌≡◌, drop}
use Rattle.es_binding_faults.specs.Seen.{seen}
use Rattle.es_lowered.specs.Texts.{all_have_their_texts}
use Rattle.es_owed_texts.proofs.texts.all_have_their_texts.Given as goal

abbrev pub invariant-loop-node : goal.invariant-loop-node
invariant-loop-node l = all_have_their_texts l.first (seen l.source.listed.now.nodes.items) (seen (drop l.node-index l.nodes)) ≡ all_have_their_texts l.first (seen l.source.listed.now.nodes.items) (seen l.nodes)
