use Rattle.std.proofs.Common.{◌≡◌, length}
use Rattle.std.specs.Str.{chars, IsUtf8}
use Rattle.es_steps.specs.Printable.{is_plain_directive}
use Rattle.es_lexical.proofs.literals.is_plain_directive.Given as goal

abbrev pub invariant-loop-first : goal.invariant-loop-first
invariant-loop-first l = IsUtf8 l.rest × (is_plain_directive (chars l.rest) ≡ is_plain_directive (chars l.text))

abbrev pub decreases-loop-first : goal.decreases-loop-first
decreases-loop-first l = length l.rest
