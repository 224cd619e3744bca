-- What code refers to, as definitions see it.
use Rattle.std.specs.Prelude.{List, map}
use Rattle.std.proofs.Common.{Bor}
use Rattle.es_base.specs.Tree.{Tree}

-- the trees of these nodes
abbrev pub seen : List (Bor Tree) → List Tree
seen nodes = map (λ n. n.now) nodes
