use Rattle.std.proofs.Common.{◌≡◌, ◌++◌, drop}
use Rattle.es_base.specs.Tree.{trees}
use Rattle.es_lowered.specs.DeadZones as spec
use Rattle.es_steps.specs.LoweredClasses.{elements_in}
use Rattle.es_steps.specs.References.{resolve, written}
use Rattle.es_touches.proofs.class_parts.add_moving_keys.Given as goal

abbrev pub invariant-loop-element : goal.invariant-loop-element
invariant-loop-element g l = l.numbers.items ++ spec.moving_keys (written (g.F.NameFacts.program l.facts)) (resolve (g.F.NameFacts.program l.facts)) (elements_in (trees (drop l.element-index l.elements))) ≡ l.fn.numbers.items ++ spec.moving_keys (written (g.F.NameFacts.program l.facts)) (resolve (g.F.NameFacts.program l.facts)) (elements_in (trees l.elements))
