use Rattle.std.proofs.Common.{◌≡◌, ◌++◌, map}
use Rattle.es_by_number.specs.Numbered.{numbered}
use Rattle.es_lowered.specs.FunctionsAround.{PlacedReference}
use Rattle.es_owed_places.specs.Placed.{reference_of, references_of}
use Rattle.es_owed_class_names.proofs.placed.with_numbers.Given as goal

abbrev pub invariant-loop-reference : goal.invariant-loop-reference
invariant-loop-reference l = numbered reference_of l.items.items ++ map (λ (x : PlacedReference). (x.number, x)) (references_of l.reference-iterator.rest.items) ≡ map (λ (x : PlacedReference). (x.number, x)) (references_of l.fn.references.items)
