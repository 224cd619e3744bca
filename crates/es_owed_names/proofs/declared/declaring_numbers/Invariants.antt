use Rattle.std.proofs.Common.{◌≡◌, ◌++◌, drop}
use Rattle.std.specs.Str.{chars}
use Rattle.es_binding_faults.specs.Seen.{seen}
use Rattle.es_lowered.specs.Lowered.{declaring_numbers}
use Rattle.es_owed_names.proofs.declared.declaring_numbers.Given as goal

abbrev pub invariant-loop-node : goal.invariant-loop-node
invariant-loop-node l = l.numbers.items ++ declaring_numbers (chars l.name) (seen (drop l.node-index l.nodes)) ≡ declaring_numbers (chars l.name) (seen l.nodes)
