-- Values by the numbers that they belong to.
use Rattle.std.specs.Prelude.{ℕ, List, [], ◌∷◌, ◌++◌, cond, nat_eq, Option, Some, None}
use Rattle.std.specs.Global.{Vec}
use Rattle.number_map.specs.Entries.{value_at}
use Rattle.es_grouped.specs.declared.Grouped.{Grouped}
use Rattle.es_grouped.specs.declared.Table.{Table}
use Rattle.es_grouped.specs.declared.lists.Lists.{Lists}

module _ {T : Type 0} where
  abbrev pub if_any : Option (Vec T) → List T
  if_any None = []
  if_any (Some v) = v.items

  -- those of a number among pairs
  abbrev pub having : ℕ → List (ℕ × T) → List T
  having m [] = []
  having m (p ∷ ps) = cond (nat_eq m p.0) (p.1 ∷ []) [] ++ having m ps

  -- the list of a number
  abbrev pub list_at : ℕ → Lists T → List T
  list_at m l = if_any (value_at m l.lists)

  abbrev pub in_table : ℕ → Table T → List T
  in_table m (Table.Runs r) = having m r
  in_table m (Table.Lists l) = list_at m l

  -- the values of a number
  abbrev pub group : ℕ → Grouped T → List T
  group m g = in_table m g.table
