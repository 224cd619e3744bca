use Rattle.std.proofs.Common.{◌≡◌, drop}
use Rattle.es_base.specs.Tree.{trees}
use Rattle.es_steps.specs.LoweredClasses.{elements_in}
use Rattle.es_steps.specs.NameScopes.{has_trailing_blocks}
use Rattle.es_shapes.specs.NameScopes.{trails_with}
use Rattle.es_shapes.proofs.name_scope.has_trailing_blocks.Given as goal

abbrev pub invariant-loop-element : goal.invariant-loop-element
invariant-loop-element l = trails_with l.blocks (elements_in (trees (drop l.element-index l.elements))) ≡ has_trailing_blocks (elements_in (trees l.elements))
