use Rattle.std.proofs.Common.{◌≡◌, [], drop}
use Rattle.es_base.specs.Tree.{trees}
use Rattle.es_steps.specs.FirstForm.{statements_breaches}
use Rattle.class_properties.specs.Least.{least_with, number_in}
use Rattle.class_properties.proofs.not_yet.statements_breaches.Given as goal

abbrev pub invariant-loop-statement : goal.invariant-loop-statement
invariant-loop-statement l = least_with (number_in l.least) (statements_breaches l.earlier l.names (trees (drop l.statement-index l.statements))) ≡ least_with (number_in l.initial.least) (statements_breaches [] l.names (trees l.statements))
