use Rattle.std.proofs.Common.{◌≡◌, ◌++◌, map, drop}
use Rattle.es_by_number.specs.Numbered.{pairs}
use Rattle.es_references.specs.declared.references.Reference.{Reference}
use Rattle.es_referents.proofs.with_numbers.Given as goal

abbrev pub invariant-loop-reference : goal.invariant-loop-reference
invariant-loop-reference l = pairs l.items.items ++ map (λ (r : Reference). (r.node.0, r)) (drop l.reference-index l.references) ≡ map (λ (r : Reference). (r.node.0, r)) l.references
