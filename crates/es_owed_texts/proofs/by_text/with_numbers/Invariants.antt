use Rattle.std.proofs.Common.{◌≡◌, ◌++◌, drop}
use Rattle.es_by_number.specs.Numbered.{pairs}
use Rattle.es_owed_texts.specs.TextNumbers.{numbered_texts}
use Rattle.es_owed_texts.proofs.by_text.with_numbers.Given as goal

abbrev pub invariant-loop-node : goal.invariant-loop-node
invariant-loop-node l = pairs l.items.items ++ numbered_texts l.texts (drop l.node-index l.nodes) ≡ numbered_texts l.texts l.nodes
