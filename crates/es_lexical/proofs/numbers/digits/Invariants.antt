use Rattle.std.proofs.Common.{◌≡◌, length, false}
use Rattle.std.specs.Str.{chars, IsUtf8}
use Rattle.es_steps.specs.Printable.{digits}
use Rattle.es_lexical.specs.Bases.{has_digit}
use Rattle.es_lexical.proofs.numbers.digits.Given as goal

abbrev pub invariant-loop-first : goal.invariant-loop-first
invariant-loop-first l = IsUtf8 l.rest × (digits (has_digit l.base) l.met (chars l.rest) ≡ digits (has_digit l.base) false (chars l.text))

abbrev pub decreases-loop-first : goal.decreases-loop-first
decreases-loop-first l = length l.rest
