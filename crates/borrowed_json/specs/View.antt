-- The data that a borrowed value stands for (JSON, RFC 8259).
use Rattle.std.specs.Borrow.{Bor}
use Rattle.std.specs.Prelude.{ℕ, List, [], ◌∷◌, map}
use Rattle.serde_json.specs.Data.{Data, null, boolean, number, string, array, object, Items, Members, no_members, member}
use Rattle.serde_json.specs.View.{items_of, number_view}
use Rattle.borrowed_json.specs.declared.value.Value.{Value, fold-Value}
use Rattle.borrowed_json.specs.declared.value.Value.TheOpen.{Value-F}

-- a member: its key and its value
abbrev pub Keyed : Type 0 → Type 0
Keyed X = Bor (List ℕ) × X

abbrev pub members_of : List (Keyed Data) → Members
members_of [] = no_members
members_of (m ∷ ms) = member m.0.now m.1 (members_of ms)

-- one level, with each value inside already seen as its data
abbrev pub view_step : Value-F Data → Data
view_step Value-F.Null = null
view_step (Value-F.Bool b) = boolean b
view_step (Value-F.Number n) = number (number_view n)
view_step (Value-F.String s) = string s.now
view_step (Value-F.Array v) = array (items_of v.items)
view_step (Value-F.Object v) = object (members_of v.items)

abbrev pub view : Value → Data
view = fold-Value Data view_step

abbrev pub items_view : List Value → Items
items_view vs = items_of (map view vs)

abbrev pub members_view : List (Keyed Value) → Members
members_view ms = members_of (map (λ m. (m.0, view m.1)) ms)
