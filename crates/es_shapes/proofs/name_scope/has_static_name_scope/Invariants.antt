use Rattle.std.proofs.Common.{◌≡◌, drop}
use Rattle.es_base.specs.Tree.{trees}
use Rattle.es_steps.specs.LoweredClasses.{elements_in}
use Rattle.std.specs.Prelude.{false}
use Rattle.es_steps.specs.NameScopes.{has_static_name_scope}
use Rattle.es_shapes.proofs.name_scope.has_static_name_scope.Given as goal

abbrev pub invariant-loop-i : goal.invariant-loop-i
invariant-loop-i l = has_static_name_scope l.blocks (elements_in (trees (drop l.i l.elements))) ≡ has_static_name_scope false (elements_in (trees l.elements))
