-- Where searches go.
use Rattle.std.specs.Prelude.{Bool, true, false}
use Rattle.es_base.specs.Tree.{Tree}
use Rattle.es_visit.specs.Reading.{Hook}
use Rattle.es_visit.specs.Reading as hook

-- a search that stays out of functions, but for arrows
abbrev pub outside_functions : Hook → Tree → Bool
outside_functions hook.Function t = false
outside_functions h t = true
