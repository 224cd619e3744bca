-- JSON over tokens, with each value as its data: what the grammar of `json` and the conversion of `serde_json` say together.
use Rattle.std.specs.Prelude.{ℕ, zero, suc, List, [], ◌∷◌, ◌++◌, length, Option, Some, None, option_map, option_and_then}
use Rattle.json.specs.Token.{Token}
use Rattle.json.specs.Json.{Parse, after_end_array, read_key}
use Rattle.serde_json.specs.Data.{Data, null, boolean, number, string, array, object, Members, no_members, put}
use Rattle.serde_json.specs.Read.{number_of}
use Rattle.serde_json.specs.View.{items_of}

-- a token that is a value by itself
abbrev pub scalar : Token → Option Data
scalar (Token.string s) = Some (string s)
scalar (Token.number s) = option_map number (number_of s)
scalar (Token.boolean b) = Some (boolean b)
scalar Token.null = Some null
scalar Token.begin_array = None
scalar Token.end_array = None
scalar Token.begin_object = None
scalar Token.end_object = None
scalar (Token.key s) = None
scalar Token.bad = None

-- the rest of a list, of which these items were read. The number bounds the turns
abbrev pub list_step : Parse Data → (List Data → Parse Data) → List Data → List Token → Option (List Token) → Option (Data × List Token)
list_step value more done ts (Some rest) = Some (array (items_of done), rest)
list_step value more done ts None = option_and_then (λ p. more (done ++ p.0 ∷ []) p.1) (value ts)

unfoldable pub list_from : Parse Data → ℕ → List Data → Parse Data
list_from value zero done ts = None
list_from value (suc n) done ts = list_step value (list_from value n) done ts (after_end_array ts)

-- the rest of an object, of which these members were read
abbrev pub object_step : Parse Data → (Members → Parse Data) → Members → Option (List ℕ) → Parse Data
object_step value more done None ts = Some (object done, ts)
object_step value more done (Some k) ts = option_and_then (λ p. more (put k p.0 done) p.1) (value ts)

unfoldable pub object_from : Parse Data → ℕ → Members → Parse Data
object_from value zero done ts = None
object_from value (suc n) done ts = option_and_then (λ p. object_step value (object_from value n) done p.0 p.1) (read_key ts)

-- one value, by what stands behind a bracket and behind a brace
abbrev pub value_by : Parse Data → Parse Data → Parse Data
value_by in_bracket in_brace [] = None
value_by in_bracket in_brace (Token.begin_array ∷ ts) = in_bracket ts
value_by in_bracket in_brace (Token.begin_object ∷ ts) = in_brace ts
value_by in_bracket in_brace (t ∷ ts) = option_map (λ d. (d, ts)) (scalar t)

-- one value, in which lists and objects nest at most as deep as the number
unfoldable pub value_in : ℕ → Parse Data
unfolding list_from object_from
value_in zero = value_by (λ ts. None) (λ ts. None)
value_in (suc depth) = value_by (λ ts. list_from (value_in depth) (length ts) [] ts) (λ ts. object_from (value_in depth) (length ts) no_members ts)

-- the same, behind its bracket
abbrev pub list_in : ℕ → Parse Data
list_in zero ts = None
list_in (suc depth) ts = list_from (value_in depth) (length ts) [] ts

-- the same, behind its brace
abbrev pub object_in : ℕ → Parse Data
object_in zero ts = None
object_in (suc depth) ts = object_from (value_in depth) (length ts) no_members ts

-- a value with no token behind it
abbrev pub alone : Option (Data × List Token) → Option Data
alone None = None
alone (Some (d, [])) = Some d
alone (Some (d, t ∷ ts)) = None
