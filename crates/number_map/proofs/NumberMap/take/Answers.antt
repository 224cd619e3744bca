use Rattle.std.proofs.Common.{◌∙◌, ap, sym, set, length, cond, nat_eq, None, Some}
use Rattle.std.proofs.lemmas.List.{get_or_default}
use Rattle.number_map.specs.Entries.{value_at, entries_of}
use Rattle.number_map.proofs.Entries.{placed_in, placed_within, value_at-near, value_at-far, value_at-set, value_at-updated}
use Rattle.number_map.proofs.NumberMap.take.Goals as goal

pub returns-in-Some-clause-value : goal.returns-in-Some-clause-value
returns-in-Some-clause-value g c =
    let near = c.self.inside.near in
    let placed = placed_in near c.args.number c.self.inside.first c.len.result c.place.result (Some c.in-Some.place) c.len.ensures c.place.ensures.place c.in-Some.is in
    c.take.ensures.value
    ∙ c.index_mut.ensures.value
    ∙ get_or_default near.items c.in-Some.place c.index_mut.result.now None (placed_within c.args.number c.self.inside.first (length near.items) c.in-Some.place placed)
    ∙ sym (value_at-near c.args.number c.self.inside.first c.in-Some.place near.items c.self.inside.far.entries placed)
    ∙ ap (value_at c.args.number) c.self.view_is

pub returns-in-Some-clause-others : goal.returns-in-Some-clause-others
returns-in-Some-clause-others g c =
    let near = c.self.inside.near in
    let placed = placed_in near c.args.number c.self.inside.first c.len.result c.place.result (Some c.in-Some.place) c.len.ensures c.place.ensures.place c.in-Some.is in
    λ n. ap (λ v. value_at n (entries_of c.self.inside.first (set near.items c.in-Some.place v) c.self.inside.far.entries)) c.take.ensures.after
    ∙ value_at-set c.args.number c.self.inside.first c.in-Some.place None near.items c.self.inside.far.entries placed n
    ∙ ap (λ m. cond (nat_eq n c.args.number) None (value_at n m)) c.self.view_is

pub returns-in-None-clause-value : goal.returns-in-None-clause-value
returns-in-None-clause-value g c =
    let near = c.self.inside.near in
    let placed = placed_in near c.args.number c.self.inside.first c.len.result c.place.result None c.len.ensures c.place.ensures.place c.in-None.is in
    c.swap_remove.ensures.value ∙ sym (value_at-far c.args.number c.self.inside.first near.items c.self.inside.far.entries placed) ∙ ap (value_at c.args.number) c.self.view_is

pub returns-in-None-clause-others : goal.returns-in-None-clause-others
returns-in-None-clause-others g c =
    let near = c.self.inside.near in
    let placed = placed_in near c.args.number c.self.inside.first c.len.result c.place.result None c.len.ensures c.place.ensures.place c.in-None.is in
    λ n. value_at-updated c.args.number c.self.inside.first None near.items c.self.inside.far.entries c.swap_remove.new.self.entries placed c.swap_remove.ensures.updates.0 n
    ∙ ap (λ m. cond (nat_eq n c.args.number) None (value_at n m)) c.self.view_is
