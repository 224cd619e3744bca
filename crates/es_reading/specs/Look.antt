-- What stands at the members of an object. A string of JSON is a list of bytes, a string of a tree one of
-- characters.
use Rattle.std.specs.Prelude.{ℕ, ◌^◌, nat_lt, List, Bool, true, false, is_some, Option, Some, None, option_map, option_and_then, if◌then◌else◌, bytes_eq, codes}
use Rattle.std.specs.Str.{chars}
use Rattle.serde_json.specs.Data.{Data, null, Items}
use Rattle.serde_json.specs.Find.{get, as_str, as_bool, as_array, as_null, as_number, as_u64}

abbrev pub string_at : List ℕ → Data → Option (List ℕ)
string_at key d = option_and_then as_str (get key d)

abbrev pub chars_at : List ℕ → Data → Option (List ℕ)
chars_at key d = option_map chars (string_at key d)

abbrev pub boolean_at : List ℕ → Data → Option Bool
boolean_at key d = option_and_then as_bool (get key d)

abbrev pub array_at : List ℕ → Data → Option Items
array_at key d = option_and_then as_array (get key d)

-- the member is there and true
abbrev pub is_true : Option Bool → Bool
is_true None = false
is_true (Some b) = b

abbrev pub is_true_at : List ℕ → Data → Bool
is_true_at key d = is_true (boolean_at key d)

-- the member is this string
abbrev pub is_this : List ℕ → Option (List ℕ) → Bool
is_this word None = false
is_this word (Some s) = bytes_eq word s

abbrev pub is_string_at : List ℕ → List ℕ → Data → Bool
is_string_at key word d = is_this word (string_at key d)

-- the member is a node with this `type`
abbrev pub type_at : List ℕ → Data → Option (List ℕ)
type_at key d = option_and_then (string_at (codes "type")) (get key d)

abbrev pub is_node_at : List ℕ → List ℕ → Data → Bool
is_node_at key name d = is_this name (type_at key d)

abbrev pub is_null : Data → Bool
is_null d = is_some (as_null d)

-- the member is neither absent nor null
abbrev pub is_there : Option Data → Bool
is_there None = false
is_there (Some null) = false
is_there (Some _) = true

abbrev pub below_2_32 : ℕ → Option ℕ
below_2_32 n = if nat_lt n (2 ^ 32) then Some n else None

-- a whole number of u32
abbrev pub u32_at : List ℕ → Data → Option ℕ
u32_at key d = option_and_then below_2_32 (option_and_then as_u64 (option_and_then as_number (get key d)))

abbrev pub pair : Option ℕ → Option ℕ → Option (ℕ × ℕ)
pair (Some a) (Some b) = Some (a, b)
pair (Some a) None = None
pair None b = None

-- where a node stands in its source (ESTree's `start` and `end`)
abbrev pub span_at : Data → Option (ℕ × ℕ)
span_at d = pair (u32_at (codes "start") d) (u32_at (codes "end") d)
