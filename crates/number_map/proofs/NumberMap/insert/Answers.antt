use Rattle.std.proofs.Common.{◌∙◌, ap, cond, nat_eq, None, Some}
use Rattle.number_map.specs.Entries.{value_at}
use Rattle.number_map.proofs.Entries.{placed_in, value_at-set, value_at-updated}
use Rattle.number_map.proofs.NumberMap.insert.Goals as goal

pub returns-in-Some : goal.returns-in-Some
returns-in-Some g c =
    let near = c.self.inside.near in
    let placed = placed_in near c.args.number c.self.inside.first c.len.result c.place.result (Some c.in-Some.place) c.len.ensures c.place.ensures.place c.in-Some.is in
    λ n. value_at-set c.args.number c.self.inside.first c.in-Some.place (Some c.args.value) near.items c.self.inside.far.entries placed n
    ∙ ap (λ m. cond (nat_eq n c.args.number) (Some c.args.value) (value_at n m)) c.self.view_is

pub returns-in_ok-insert-in-None : goal.returns-in_ok-insert-in-None
returns-in_ok-insert-in-None g c =
    let near = c.self.inside.near in
    let placed = placed_in near c.args.number c.self.inside.first c.len.result c.place.result None c.len.ensures c.place.ensures.place c.in-None.is in
    λ n. value_at-updated c.args.number c.self.inside.first (Some c.args.value) near.items c.self.inside.far.entries c.insert.new.self.entries placed c.in_ok-insert-in-None.ensures.updates.0 n
    ∙ ap (λ m. cond (nat_eq n c.args.number) (Some c.args.value) (value_at n m)) c.self.view_is
