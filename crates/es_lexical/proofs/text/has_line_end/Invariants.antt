use Rattle.std.proofs.Common.{◌≡◌, length}
use Rattle.std.specs.Str.{chars, IsUtf8}
use Rattle.es_steps.specs.Printable.{has_line_end}
use Rattle.es_lexical.proofs.text.has_line_end.Given as goal

abbrev pub invariant-loop-first : goal.invariant-loop-first
invariant-loop-first l = IsUtf8 l.rest × (has_line_end (chars l.rest) ≡ has_line_end (chars l.text))

abbrev pub decreases-loop-first : goal.decreases-loop-first
decreases-loop-first l = length l.rest
