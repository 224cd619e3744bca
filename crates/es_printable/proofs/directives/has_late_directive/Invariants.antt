use Rattle.std.proofs.Common.{◌≡◌, drop, false}
use Rattle.es_base.specs.Tree.{trees}
use Rattle.es_steps.specs.Printable.{has_late_directive}
use Rattle.es_printable.proofs.directives.has_late_directive.Given as goal

abbrev pub invariant-loop-statement : goal.invariant-loop-statement
invariant-loop-statement l = has_late_directive l.late (trees (drop l.statement-index l.statements)) ≡ has_late_directive false (trees l.statements)
