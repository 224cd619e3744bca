-- What the calls of the reader say.
use Rattle.std.specs.Prelude.{◌≡◌, ◌+◌, ℕ, List, [], ◌∷◌, ◌++◌, map, true, false, Result, Ok, Err, Option, Some, None}
use Rattle.serde_json.specs.Data.{Data, null, boolean as json_boolean, number, string as json_string, array, object, Items, no_items, item, Members, no_members, member}
use Rattle.serde_json.specs.Find.{get}
use Rattle.es_base.specs.Table.{Field, members_of}
use Rattle.es_base.specs.declared.table.Sort.{Sort}
use Rattle.es_base.specs.declared.ids.NodeId.{NodeId}
use Rattle.es_reading.specs.Fault.{Fault, not_a_tree, float_at, Read}
use Rattle.es_base.specs.Tree.{Part, Parts}
use Rattle.es_reading.specs.Reading.{reader_of, slot, is_last, finds, members_in, member_of, read_by}
use Rattle.es_reading.specs.declared.fault.ReadError.{ReadError}
use Rattle.es_reading.specs.declared.numbers.Numbers.{Numbers}
use Rattle.es_reading.specs.declared.spot.Parent.{Parent}
use Rattle.es_reading.specs.declared.spot.Slots.{Slots}
use Rattle.es_reading.specs.declared.spot.Spot.{Spot}
use Rattle.borrowed_json.specs.View.{view}
use Rattle.borrowed_json.specs.declared.value.Value.{Value}

-- an error is the fault, unless allocation failed
abbrev pub Tells : {T : Type 0} → ReadError → Result T Fault → Type 0
Tells ReadError.NoMemory r = Unit
Tells (ReadError.NotATree at what) r = r ≡ Err (not_a_tree at what)
Tells (ReadError.Float at) r = r ≡ Err (float_at at)

abbrev pub ids : List NodeId → List ℕ
ids = map (λ i. i.0)

-- what was read, and the numbers that came to those of before
pub record Gives {T : Type 0} (r : Result (Read T) Fault) (x : T) (before after : List ℕ) : Type 0 where
  pub added : List ℕ
  pub reads : r ≡ Ok (record { value = x; foreign = added })
  pub adds : after ≡ before ++ added

-- an item of a list, with those that follow it
abbrev pub item_in : Numbers → Slots → Value → List Value → ℕ → Result (Read Part) Fault
item_in numbers slots v rest = (reader_of numbers (view v)).item slots.holes (slot slots (is_last rest))

-- what stands at the members of a node, at one of them, and at one that holds a node, a node or none, or a list
abbrev pub row_in : Numbers → Data → Parent → ℕ → Result (Read Parts) Fault
row_in numbers d parent n = members_in (finds numbers d) d parent (members_of parent.kind) n

abbrev pub member_in : Numbers → Data → Parent → List ℕ → Sort → ℕ → Result (Read Part) Fault
member_in numbers d parent name sort n = member_of (finds numbers d) d parent name sort n

abbrev pub child_in : Numbers → Data → List ℕ → Spot → ℕ → Result (Read Part) Fault
child_in numbers d name spot n = read_by (finds numbers d name) (λ r. r.item false spot n)

abbrev pub nullable_in : Numbers → Data → List ℕ → Spot → ℕ → Result (Read Part) Fault
nullable_in numbers d name spot n = read_by (finds numbers d name) (λ r. r.item true spot n)

abbrev pub list_in : Numbers → Data → List ℕ → Slots → ℕ → Result (Read Part) Fault
list_in numbers d name slots n = read_by (finds numbers d name) (λ r. r.items slots n)

-- how many values there are, itself and those below (JSON, RFC 8259)
abbrev mutual
  pub values : Data → ℕ
  values null = 1
  values (json_boolean b) = 1
  values (number n) = 1
  values (json_string s) = 1
  values (array ds) = 1 + values_of_items ds
  values (object ms) = 1 + values_of_members ms

  pub values_of_items : Items → ℕ
  values_of_items no_items = 0
  values_of_items (item d ds) = values d + values_of_items ds

  pub values_of_members : Members → ℕ
  values_of_members no_members = 0
  values_of_members (member k d ms) = values d + values_of_members ms

abbrev pub values_there : Option Data → ℕ
values_there None = 0
values_there (Some d) = values d

abbrev pub values_at : Data → List Field → ℕ
values_at d [] = 0
values_at d (f ∷ fs) = values_there (get f.name d) + values_at d fs
