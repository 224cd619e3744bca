use Rattle.std.proofs.Common.{◌≡◌, drop}
use Rattle.es_base.specs.Tree.{trees}
use Rattle.es_steps.specs.LoweredClasses.{elements_in}
use Rattle.es_steps.specs.NameScopes.{ends_in_blocks}
use Rattle.es_shapes.specs.NameScopes.{ends_with}
use Rattle.es_shapes.proofs.name_scope.ends_in_blocks.Given as goal

abbrev pub invariant-loop-element : goal.invariant-loop-element
invariant-loop-element l = ends_with l.blocks (elements_in (trees (drop l.element-index l.elements))) ≡ ends_in_blocks (elements_in (trees l.elements))
