use Rattle.std.proofs.Common.{◌≡◌, ◌++◌, drop}
use Rattle.es_base.specs.Tree.{trees}
use Rattle.es_lowered.specs.Definitions.{defined_fields}
use Rattle.es_owed_definitions.specs.Fields.{element_views}
use Rattle.es_steps.specs.LoweredClasses.{elements_in}
use Rattle.es_owed_definitions.proofs.fields.defined_fields.Given as goal

abbrev pub invariant-loop-element : goal.invariant-loop-element
invariant-loop-element l = element_views l.fields.items ++ defined_fields l.options l.is_static (elements_in (trees (drop l.element-index l.elements))) ≡ defined_fields l.options l.is_static (elements_in (trees l.elements))
