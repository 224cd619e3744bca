use Rattle.std.proofs.Common.{◌≡◌, drop}
use Rattle.es_base.specs.Tree.{trees}
use Rattle.es_steps.specs.LoweredClasses.{constructor_function}
use Rattle.es_shapes.proofs.late_class.constructor_among.Given as goal

abbrev pub invariant-loop-element : goal.invariant-loop-element
invariant-loop-element l = constructor_function (trees (drop l.element-index l.elements)) ≡ constructor_function (trees l.elements)
