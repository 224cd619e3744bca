use Rattle.std.proofs.Common.{◌≡◌, ◌++◌, drop}
use Rattle.es_marks.specs.Around.{held_in}
use Rattle.es_references.specs.References.{references_of}
use Rattle.es_touches.specs.Touches.{kept_touches}
use Rattle.es_owed_dead_zones.specs.Walk.{reference_touches}
use Rattle.es_owed_dead_zones.proofs.own.add_those.Given as goal

abbrev pub invariant-loop-reference : goal.invariant-loop-reference
invariant-loop-reference l = kept_touches l.touches.items ++ reference_touches l.terms (held_in l.held) l.number (references_of (drop l.reference-index l.references)) ≡ kept_touches l.fn.touches.items ++ reference_touches l.terms (held_in l.held) l.number (references_of l.references)
