use Rattle.std.proofs.Common.{◌≡◌, codes, drop}
use Rattle.es_references.specs.References.{references_of}
use Rattle.es_steps.specs.References.{writes_free}
use Rattle.es_outside.proofs.changing.write_arguments.Given as goal

abbrev pub invariant-loop-reference : goal.invariant-loop-reference
invariant-loop-reference l = writes_free (codes "arguments") (references_of (drop l.reference-index l.references)) ≡ writes_free (codes "arguments") (references_of l.references)
