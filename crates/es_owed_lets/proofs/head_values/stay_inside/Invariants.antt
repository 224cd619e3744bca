use Rattle.std.proofs.Common.{◌≡◌, drop}
use Rattle.es_owed_lets.specs.Heads.{stay_inside}
use Rattle.es_references.specs.References.{references_of}
use Rattle.es_owed_lets.proofs.head_values.stay_inside.Given as goal

abbrev pub invariant-loop-reference : goal.invariant-loop-reference
invariant-loop-reference l = stay_inside l.names l.inside (references_of (drop l.reference-index l.references)) ≡ stay_inside l.names l.inside (references_of l.references)
