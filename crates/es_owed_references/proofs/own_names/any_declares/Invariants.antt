use Rattle.std.proofs.Common.{◌≡◌, drop}
use Rattle.es_binding_faults.specs.Seen.{seen}
use Rattle.es_lowered.specs.OwnNames.{any_declares}
use Rattle.es_owed_references.proofs.own_names.any_declares.Given as goal

abbrev pub invariant-loop-node : goal.invariant-loop-node
invariant-loop-node l = any_declares l.declarator l.identifier (seen (drop l.node-index l.nodes)) ≡ any_declares l.declarator l.identifier (seen l.nodes)
