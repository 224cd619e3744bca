use Rattle.std.proofs.Common.{◌≡◌, ◌++◌, drop}
use Rattle.es_steps.specs.References.{numbers_of}
use Rattle.es_validity.specs.Facts.{lexical_identifiers}
use Rattle.es_binding_faults.specs.Named.{named}
use Rattle.es_binding_faults.specs.Seen.{seen}
use Rattle.es_binding_faults.proofs.facts.lexical_identifiers.Given as goal

abbrev pub invariant-loop-node : goal.invariant-loop-node
invariant-loop-node l = numbers_of (named l.names.items) ++ lexical_identifiers (seen (drop l.node-index l.nodes)) ≡ lexical_identifiers (seen l.nodes)
