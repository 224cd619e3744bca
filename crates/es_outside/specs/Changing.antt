-- Bindings by numbers.
use Rattle.std.specs.Prelude.{ℕ, List, [], ◌∷◌, Bool, true, Option, Some}
use Rattle.es_base.specs.declared.ids.NodeId.{NodeId}

abbrev pub if_written : Bool → Option NodeId → List ℕ
if_written true (Some b) = b.0 ∷ []
if_written writes b = []
