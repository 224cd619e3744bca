use Rattle.es_touches.specs.Counts.{FoundTo}
use Rattle.es_touches.specs.Touches.{body_of}
use Rattle.es_touches.proofs.found.found_with.Given as goal

abbrev pub invariant-loop-i : goal.invariant-loop-i
invariant-loop-i l = FoundTo l.source (body_of l.body) l.pair.touches.now l.i l.all.items
