use Rattle.std.proofs.Common.{◌≡◌, drop}
use Rattle.es_referents.specs.Meanings.{any_writes}
use Rattle.es_referents.proofs.any_writes.Given as goal

abbrev pub invariant-loop-reference : goal.invariant-loop-reference
invariant-loop-reference l = any_writes (drop l.reference-index l.references) ≡ any_writes l.references
