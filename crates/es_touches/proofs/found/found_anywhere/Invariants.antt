use Rattle.es_touches.specs.Counts.{FoundTo}
use Rattle.es_touches.specs.Touches.{body_of}
use Rattle.es_touches.proofs.found.found_anywhere.Given as goal

abbrev pub invariant-loop-i : goal.invariant-loop-i
invariant-loop-i l = FoundTo l.source (body_of l.body) l.touches l.i l.found.items
