use Rattle.std.proofs.Common.{◌≡◌, drop}
use Rattle.es_base.specs.Tree.{trees}
use Rattle.es_lowered.specs.Definitions.{any_of, is_instance_method}
use Rattle.es_steps.specs.LoweredClasses.{elements_in}
use Rattle.es_owed_definitions.proofs.fields.has_instance_method.Given as goal

abbrev pub invariant-loop-element : goal.invariant-loop-element
invariant-loop-element l = any_of is_instance_method (elements_in (trees (drop l.element-index l.elements))) ≡ any_of is_instance_method (elements_in (trees l.elements))
