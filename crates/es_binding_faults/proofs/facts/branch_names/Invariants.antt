use Rattle.std.proofs.Common.{◌≡◌, ◌++◌, drop}
use Rattle.es_steps.specs.References.{numbers_of}
use Rattle.es_validity.specs.Facts.{branch_names}
use Rattle.es_binding_faults.specs.Named.{named}
use Rattle.es_binding_faults.specs.Seen.{seen}
use Rattle.es_binding_faults.proofs.facts.branch_names.Given as goal

abbrev pub invariant-loop-node : goal.invariant-loop-node
invariant-loop-node l = numbers_of (named l.names.items) ++ branch_names (seen (drop l.node-index l.nodes)) ≡ branch_names (seen l.nodes)
