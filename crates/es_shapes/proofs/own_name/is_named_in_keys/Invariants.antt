use Rattle.std.proofs.Common.{◌≡◌, ◌∷◌, [], drop}
use Rattle.es_base.specs.Tree.{trees}
use Rattle.es_steps.specs.LoweredClasses.{elements_in}
use Rattle.es_steps.specs.References.{resolve}
use Rattle.es_steps.specs.Shapes.{named_in_keys}
use Rattle.es_shapes.proofs.own_name.is_named_in_keys.Given as goal

abbrev pub invariant-loop-element : goal.invariant-loop-element
invariant-loop-element g l = named_in_keys (l.name.0 ∷ []) (resolve (g.F.NameFacts.program l.facts)) (elements_in (trees (drop l.element-index l.elements))) ≡ named_in_keys (l.name.0 ∷ []) (resolve (g.F.NameFacts.program l.facts)) (elements_in (trees l.elements))
