use Rattle.std.proofs.Common.{◌≡◌, drop}
use Rattle.es_binding_faults.specs.Seen.{seen}
use Rattle.es_lowered.specs.OwnNames.{none_loses_name}
use Rattle.es_references.specs.References.{references_of}
use Rattle.es_owed_references.proofs.own_names.none_loses_name.Given as goal

abbrev pub invariant-loop-node : goal.invariant-loop-node
invariant-loop-node l = none_loses_name (seen l.source) (references_of l.references) (seen (drop l.node-index l.nodes)) ≡ none_loses_name (seen l.source) (references_of l.references) (seen l.nodes)
