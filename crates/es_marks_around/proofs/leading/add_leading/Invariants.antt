use Rattle.std.proofs.Common.{◌≡◌, ◌++◌, drop}
use Rattle.es_base.specs.Tree.{trees}
use Rattle.es_lowered.specs.Timely.{leading_in}
use Rattle.es_marks_around.proofs.leading.add_leading.Given as goal

abbrev pub invariant-loop-statement : goal.invariant-loop-statement
invariant-loop-statement l = l.leading.items ++ leading_in (trees (drop l.statement-index l.statements)) ≡ l.fn.leading.items ++ leading_in (trees l.statements)
