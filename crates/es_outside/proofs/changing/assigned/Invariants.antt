use Rattle.std.proofs.Common.{◌≡◌, ◌++◌, drop}
use Rattle.es_references.specs.References.{references_of}
use Rattle.es_steps.specs.References.{assigned}
use Rattle.es_references.specs.Frames.{ids}
use Rattle.es_outside.proofs.changing.assigned.Given as goal

abbrev pub invariant-loop-reference : goal.invariant-loop-reference
invariant-loop-reference l = ids l.bindings.items ++ assigned (references_of (drop l.reference-index l.references)) ≡ assigned (references_of l.references)
