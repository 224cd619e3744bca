use Rattle.std.proofs.Common.{◌≡◌, ◌++◌, ◌∙◌, ap, sym, [], List}
use Rattle.std.proofs.lemmas.List.{append-nil, nil_from_length}
use Rattle.es_by_number.specs.Numbered.{pairs}
use Rattle.es_by_number.specs.declared.numbered.Numbered.{Numbered}
use Rattle.es_grouped.specs.Groups.{having, list_at}
use Rattle.es_grouped.proofs.lists.Lists.of.Goals as goal

pub returns : goal.returns
returns g c =
    let rest = c.loop-item.item-iterator.rest in
    let none : rest.items ≡ [] = nil_from_length rest.items (sym rest.ok.0 ∙ c.in-None.ensures.steps.0) in
    λ m. sym (append-nil (list_at m c.loop-item.lists))
    ∙ ap (λ (items : List (Numbered g.row.T.Denot)). list_at m c.loop-item.lists ++ having m (pairs items)) (sym none)
    ∙ c.loop-item.invariant m
