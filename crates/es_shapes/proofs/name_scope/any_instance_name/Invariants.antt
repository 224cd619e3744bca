use Rattle.std.proofs.Common.{◌≡◌, drop}
use Rattle.es_base.specs.Tree.{trees}
use Rattle.es_steps.specs.LoweredClasses.{elements_in}
use Rattle.es_steps.specs.LoweredClasses.{any_element}
use Rattle.es_shapes.specs.NameScopes.{names_in_instance}
use Rattle.es_shapes.proofs.name_scope.any_instance_name.Given as goal

abbrev pub invariant-loop-element : goal.invariant-loop-element
invariant-loop-element l = any_element names_in_instance (elements_in (trees (drop l.element-index l.elements))) ≡ any_element names_in_instance (elements_in (trees l.elements))
