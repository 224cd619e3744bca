use Rattle.std.proofs.Common.{◌≡◌, length, false}
use Rattle.std.specs.Str.{chars, IsUtf8}
use Rattle.es_steps.specs.Printable.{is_pattern_from}
use Rattle.es_lexical.proofs.literals.is_closed.Given as goal

abbrev pub invariant-loop-first : goal.invariant-loop-first
invariant-loop-first l = IsUtf8 l.rest × (is_pattern_from l.in_class l.escaped (chars l.rest) ≡ is_pattern_from false false (chars l.text))

abbrev pub decreases-loop-first : goal.decreases-loop-first
decreases-loop-first l = length l.rest
