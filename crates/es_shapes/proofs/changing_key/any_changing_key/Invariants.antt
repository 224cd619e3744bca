use Rattle.std.proofs.Common.{◌≡◌, drop}
use Rattle.es_base.specs.Tree.{trees}
use Rattle.es_steps.specs.LoweredClasses.{any_element, elements_in}
use Rattle.es_steps.specs.References.{resolve, changed_otherwise}
use Rattle.es_steps.specs.Shapes.{is_changing_key}
use Rattle.es_shapes.proofs.changing_key.any_changing_key.Given as goal

abbrev pub invariant-loop-element : goal.invariant-loop-element
invariant-loop-element g l =
    let test = is_changing_key l.is_behind (changed_otherwise (g.F.NameFacts.program l.facts)) (resolve (g.F.NameFacts.program l.facts)) in
    any_element test (elements_in (trees (drop l.element-index l.elements))) ≡ any_element test (elements_in (trees l.elements))
