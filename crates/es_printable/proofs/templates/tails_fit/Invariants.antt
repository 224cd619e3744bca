use Rattle.std.proofs.Common.{◌≡◌, length}
use Rattle.es_base.specs.Tree.{trees}
use Rattle.es_steps.specs.Printable.{tails_fit}
use Rattle.es_printable.proofs.templates.tails_fit.Given as goal

abbrev pub invariant-loop-first : goal.invariant-loop-first
invariant-loop-first l = tails_fit (trees l.rest) ≡ tails_fit (trees l.strings)

abbrev pub decreases-loop-first : goal.decreases-loop-first
decreases-loop-first l = length l.rest
