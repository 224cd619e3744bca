use Rattle.std.proofs.Common.{ap, ◌∙◌}
use Rattle.number_map.specs.Entries.{entries_of, value_at}
use Rattle.number_map.proofs.Entries.{value_at-none}
use Rattle.number_map.proofs.NumberMap.with_places.Goals as goal

pub returns : goal.returns
returns g c = λ n. ap (λ far. value_at n (entries_of c.first.result c.in_ok-near.near.items far)) c.new.ensures.empty ∙ value_at-none n c.first.result c.in_ok-near.near.items c.in_ok-near.ensures
