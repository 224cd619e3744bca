use Rattle.std.proofs.Common.{◌≡◌, drop}
use Rattle.es_base.specs.Tree.{trees}
use Rattle.es_steps.specs.Strict.{has_use_strict}
use Rattle.es_strict.proofs.strict.has_use_strict.Given as goal

abbrev pub invariant-loop-statement : goal.invariant-loop-statement
invariant-loop-statement l = has_use_strict (trees (drop l.statement-index l.statements)) ≡ has_use_strict (trees l.statements)
