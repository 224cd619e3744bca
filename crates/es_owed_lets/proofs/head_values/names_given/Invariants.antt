use Rattle.std.proofs.Common.{◌≡◌, ◌++◌, drop}
use Rattle.es_owed_lets.specs.Heads.{names_given, spelled}
use Rattle.es_references.specs.References.{references_of}
use Rattle.es_owed_lets.proofs.head_values.names_given.Given as goal

abbrev pub invariant-loop-reference : goal.invariant-loop-reference
invariant-loop-reference l = spelled l.names.items ++ names_given l.ledger l.inside (references_of (drop l.reference-index l.references)) ≡ names_given l.ledger l.inside (references_of l.references)
