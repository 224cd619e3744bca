use Rattle.es_scopes.proofs.ReferenceLemmas.{AreAhead}
use Rattle.es_scopes.proofs.reference_set.ReferenceSet.has_write.Given as goal

abbrev pub invariant-loop-id : goal.invariant-loop-id
invariant-loop-id l =
    (goal.iterator-loop-id).can_next l.id-iterator ×
    (goal.iterator-loop-id).is_finite l.id-iterator ×
    AreAhead l.self l.references l.id-iterator
