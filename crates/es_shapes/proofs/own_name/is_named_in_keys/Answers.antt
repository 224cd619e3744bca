use Rattle.std.proofs.Common.{◌∙◌, ◌+◌, ◌||◌, ◌∷◌, [], ap, sym, drop}
use Rattle.es_base.specs.Tree.{trees}
use Rattle.es_steps.specs.LoweredClasses.{elements_in}
use Rattle.es_steps.specs.References.{resolve}
use Rattle.es_steps.specs.Shapes.{named_in_keys}
use Rattle.es_shapes.proofs.Names.{named_next}
use Rattle.es_shapes.proofs.own_name.is_named_in_keys.Goals as goal

pub returns-then-is_named_in_key : goal.returns-then-is_named_in_key
returns-then-is_named_in_key g c =
    let names = c.args.name.0 ∷ [] in
    let references = resolve (g.F.NameFacts.program c.args.facts.now) in
    let i = c.loop-element.element-index in
    sym (ap (λ b. b || named_in_keys names references (elements_in (trees (drop (i + 1) c.args.elements.now)))) c.if-is_named_in_key.true)
    ∙ sym (named_next names references c.args.elements.now i c.element-item.result c.loop-element-test.true c.element-item.is c.is_named_in_key.result c.is_named_in_key.ensures)
    ∙ c.loop-element.invariant

pub loop-element-preserved : goal.loop-element-preserved
loop-element-preserved g c =
    let names = c.args.name.0 ∷ [] in
    let references = resolve (g.F.NameFacts.program c.args.facts.now) in
    let i = c.loop-element.element-index in
    sym (ap (λ b. b || named_in_keys names references (elements_in (trees (drop (i + 1) c.args.elements.now)))) c.if-is_named_in_key.false)
    ∙ sym (named_next names references c.args.elements.now i c.element-item.result c.loop-element-test.true c.element-item.is c.is_named_in_key.result c.is_named_in_key.ensures)
    ∙ c.loop-element.invariant
