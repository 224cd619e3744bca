use Rattle.std.proofs.Common.{◌∙◌, ap, sym, length, None, Some}
use Rattle.std.proofs.lemmas.List.{get_or_default}
use Rattle.number_map.specs.Entries.{value_at}
use Rattle.number_map.proofs.Entries.{placed_in, placed_within, value_at-near, value_at-far}
use Rattle.number_map.proofs.NumberMap.get.Goals as goal

pub returns-in-Some : goal.returns-in-Some
returns-in-Some g c =
    let near = c.self.inside.near in
    let placed = placed_in near c.args.number c.self.inside.first c.len.result c.place.result (Some c.in-Some.place) c.len.ensures c.place.ensures.place c.in-Some.is in
    c.as_ref.ensures.value
    ∙ c.index.ensures
    ∙ get_or_default near.items c.in-Some.place c.index.result.now None (placed_within c.args.number c.self.inside.first (length near.items) c.in-Some.place placed)
    ∙ sym (value_at-near c.args.number c.self.inside.first c.in-Some.place near.items c.self.inside.far.entries placed)
    ∙ ap (value_at c.args.number) c.self.view_is

pub returns-in-None : goal.returns-in-None
returns-in-None g c =
    let near = c.self.inside.near in
    let placed = placed_in near c.args.number c.self.inside.first c.len.result c.place.result None c.len.ensures c.place.ensures.place c.in-None.is in
    c.get.ensures.value ∙ sym (value_at-far c.args.number c.self.inside.first near.items c.self.inside.far.entries placed) ∙ ap (value_at c.args.number) c.self.view_is
