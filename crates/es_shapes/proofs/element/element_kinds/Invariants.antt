use Rattle.std.proofs.Common.{◌≡◌, drop}
use Rattle.es_base.specs.Tree.{trees}
use Rattle.es_steps.specs.LoweredClasses.{elements_in}
use Rattle.es_shapes.specs.Classes.{element_kinds, kinds_or}
use Rattle.es_shapes.proofs.element.element_kinds.Given as goal

abbrev pub invariant-loop-element : goal.invariant-loop-element
invariant-loop-element l = kinds_or l.kinds (element_kinds l.options (elements_in (trees (drop l.element-index l.elements)))) ≡ element_kinds l.options (elements_in (trees l.elements))
