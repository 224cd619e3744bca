use Rattle.std.proofs.Common.{◌≡◌, ◌∙◌, sym, []}
use Rattle.std.proofs.lemmas.List.{nil_from_length}
use Rattle.es_grouped.proofs.SideBySide.{at_end, runs_apart, zipped}
use Rattle.es_grouped.proofs.runs.Runs.of.Goals as goal

pub invariant_of-result : goal.invariant_of-result
invariant_of-result g c =
    let rest = c.loop-item.item-iterator.rest in
    let none : rest.items ≡ [] = nil_from_length rest.items (sym rest.ok.0 ∙ c.in-None.ensures.steps.0) in
    let numbers = at_end (λ x. x.number) c.loop-item.numbers.items rest.items c.args.items.items c.loop-item.invariant.0 none in
    let values = at_end (λ x. x.value) c.loop-item.values.items rest.items c.args.items.items c.loop-item.invariant.1 none in
    runs_apart c.loop-item.numbers.items c.loop-item.values.items c.args.items.items c.args.runs numbers values c.requires

pub returns : goal.returns
returns g c =
    let rest = c.loop-item.item-iterator.rest in
    let none : rest.items ≡ [] = nil_from_length rest.items (sym rest.ok.0 ∙ c.in-None.ensures.steps.0) in
    zipped c.loop-item.numbers.items c.loop-item.values.items c.args.items.items
    (at_end (λ x. x.number) c.loop-item.numbers.items rest.items c.args.items.items c.loop-item.invariant.0 none)
    (at_end (λ x. x.value) c.loop-item.values.items rest.items c.args.items.items c.loop-item.invariant.1 none)
