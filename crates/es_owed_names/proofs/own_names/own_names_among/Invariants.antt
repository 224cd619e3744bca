use Rattle.std.proofs.Common.{◌≡◌, ◌++◌, drop}
use Rattle.es_binding_faults.specs.Seen.{seen}
use Rattle.es_lowered.specs.OwnNames.{own_name_numbers}
use Rattle.es_references.specs.References.{references_of}
use Rattle.es_owed_names.proofs.own_names.own_names_among.Given as goal

abbrev pub invariant-loop-node : goal.invariant-loop-node
invariant-loop-node l = l.numbers.items ++ own_name_numbers l.source.program.now (references_of l.meant.references.now) (seen (drop l.node-index l.nodes)) ≡ own_name_numbers l.source.program.now (references_of l.meant.references.now) (seen l.nodes)
