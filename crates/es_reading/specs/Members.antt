-- Whether the members of a value are those of its kind, but for the nodes below.
use Rattle.std.specs.Prelude.{ℕ, ◌+◌, nat_eq, List, [], ◌∷◌, Bool, true, false, not, ◌&&◌, ◌||◌, is_some, Option, Some, None, option_and_then, bytes_eq, codes}
use Rattle.std.specs.Str.{chars}
use Rattle.serde_json.specs.Data.{Data, null, string as json_string, Items, no_items, item}
use Rattle.serde_json.specs.Find.{get}
use Rattle.es_base.specs.Conforms.{is_among}
use Rattle.es_base.specs.Table.{Field, members_of, words_of}
use Rattle.es_base.specs.declared.kind.Kind.{Kind}
use Rattle.es_base.specs.declared.table.Sort.{Sort}
use Rattle.es_reading.specs.Literals.{form_in}
use Rattle.es_reading.specs.Look.{string_at, boolean_at, array_at}

abbrev pub item_count : Items → ℕ
item_count no_items = 0
item_count (item d ds) = item_count ds + 1

abbrev pub count_at : List ℕ → Data → Option ℕ
count_at key d = option_and_then (λ ds. Some (item_count ds)) (array_at key d)

abbrev pub is_empty : Option Items → Bool
is_empty None = false
is_empty (Some no_items) = true
is_empty (Some (item d ds)) = false

-- a string with a character
abbrev pub is_name : Option (List ℕ) → Bool
is_name None = false
is_name (Some s) = not (bytes_eq (chars s) [])

abbrev pub is_word : List (List ℕ) → Option (List ℕ) → Bool
is_word words None = false
is_word words (Some s) = is_among s words

abbrev pub is_false : Option Bool → Bool
is_false None = false
is_false (Some b) = not b

-- a string, or null
abbrev pub is_cooked : Option Data → Bool
is_cooked (Some null) = true
is_cooked (Some (json_string s)) = true
is_cooked _ = false

-- whether what stands at a member of this name is of this sort
abbrev pub is_of_sort : Data → List ℕ → Sort → Bool
is_of_sort d name (Sort.Child place) = is_some (get name d)
is_of_sort d name (Sort.Key place) = is_some (get name d)
is_of_sort d name (Sort.Nullable place) = true
is_of_sort d name (Sort.List place) = is_some (array_at name d)
is_of_sort d name (Sort.NonEmptyList place) = is_some (array_at name d) && not (is_empty (array_at name d))
is_of_sort d name (Sort.ListWithHoles place) = is_some (array_at name d)
is_of_sort d name Sort.Name = is_name (string_at name d)
is_of_sort d name Sort.NullableString = not (is_some (get name d)) || is_some (string_at name d)
is_of_sort d name Sort.Boolean = not (is_some (get name d)) || is_some (boolean_at name d)
is_of_sort d name Sort.False = not (is_some (get name d)) || is_false (boolean_at name d)
is_of_sort d name (Sort.Word words) = is_word (words_of words) (string_at name d)
is_of_sort d name Sort.Literal = is_some (form_in d)
is_of_sort d name Sort.Raw = is_some (option_and_then (string_at (codes "raw")) (get (codes "value") d))
is_of_sort d name Sort.Cooked = is_cooked (option_and_then (get (codes "cooked")) (get (codes "value") d))
is_of_sort d name Sort.Type = is_some (string_at name d)

abbrev pub are_of_sorts : Data → List Field → Bool
are_of_sorts d [] = true
are_of_sorts d (f ∷ fs) = is_of_sort d f.name f.sort && are_of_sorts d fs

abbrev pub is_one_more : Option ℕ → Option ℕ → Bool
is_one_more (Some m) (Some n) = nat_eq m (n + 1)
is_one_more m n = true

-- a template has one string more than expressions
abbrev pub counts_agree : Kind → Data → Bool
counts_agree Kind.TemplateLiteral d = is_one_more (count_at (codes "quasis") d) (count_at (codes "expressions") d)
counts_agree kind d = true

abbrev pub are_good : Kind → Data → Bool
are_good kind d = are_of_sorts d (members_of kind) && counts_agree kind d
