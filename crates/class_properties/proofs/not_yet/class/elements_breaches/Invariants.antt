use Rattle.std.proofs.Common.{◌≡◌, drop}
use Rattle.es_base.specs.Tree.{trees}
use Rattle.es_steps.specs.FirstForm.{elements_breaches}
use Rattle.class_properties.specs.Least.{least_with, number_in}
use Rattle.class_properties.proofs.not_yet.class.elements_breaches.Given as goal

abbrev pub invariant-loop-element : goal.invariant-loop-element
invariant-loop-element l = least_with (number_in l.least) (elements_breaches l.names (trees (drop l.element-index l.elements))) ≡ least_with (number_in l.initial.least) (elements_breaches l.names (trees l.elements))
