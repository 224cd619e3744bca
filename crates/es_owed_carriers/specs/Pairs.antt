-- Pairs of numbers in code, as definitions see them.
use Rattle.std.specs.Prelude.{ℕ, List, map}
use Rattle.es_owed_carriers.specs.declared.pairs.Bound.{Bound}

abbrev pub pair_of : Bound → ℕ × ℕ
pair_of b = (b.node, b.around)

abbrev pub pairs_of : List Bound → List (ℕ × ℕ)
pairs_of bs = map pair_of bs
