use Rattle.std.proofs.Common.{◌∙◌, ap, ◌+◌, drop}
use Rattle.std.specs.Prelude.{option_map}
use Rattle.es_base.specs.Tree.{trees}
use Rattle.es_steps.specs.LoweredClasses.{elements_in}
use Rattle.es_shapes.specs.Classes.{element_kinds, element_view, kinds_or}
use Rattle.es_shapes.proofs.Classes.{kinds_next}
use Rattle.es_shapes.proofs.element.element_kinds.Goals as goal

pub loop-element-preserved : goal.loop-element-preserved
loop-element-preserved c =
    let i = c.loop-element.element-index in
    let elements = c.args.elements.now in
    let options = c.args.options.now in
    ap (λ kinds. kinds_or kinds (element_kinds options (elements_in (trees (drop (i + 1) elements))))) c.kinds_with-kinds.ensures
    ∙ kinds_next options c.loop-element.kinds (option_map element_view c.element_of.result) elements i c.element-item.result c.loop-element-test.true c.element-item.is c.element_of.ensures
    ∙ c.loop-element.invariant
