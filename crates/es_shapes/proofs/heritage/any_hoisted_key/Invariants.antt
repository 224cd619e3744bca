use Rattle.std.proofs.Common.{◌≡◌, drop}
use Rattle.es_base.specs.Tree.{trees}
use Rattle.es_steps.specs.LoweredClasses.{any_element, elements_in, is_hoisted_key}
use Rattle.es_steps.specs.References.{resolve, written}
use Rattle.es_shapes.proofs.heritage.any_hoisted_key.Given as goal

abbrev pub invariant-loop-element : goal.invariant-loop-element
invariant-loop-element g l =
    let test = is_hoisted_key (written (g.F.NameFacts.program l.facts)) (resolve (g.F.NameFacts.program l.facts)) in
    any_element test (elements_in (trees (drop l.element-index l.elements))) ≡ any_element test (elements_in (trees l.elements))
