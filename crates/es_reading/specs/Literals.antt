-- The value of a literal (ESTree's `Literal`, `RegExpLiteral` and `BigIntLiteral`): the first form that fits.
use Rattle.std.specs.Prelude.{ℕ, List, Bool, true, false, ◌&&◌, Option, Some, None, option_map, option_and_then, if◌then◌else◌, bytes_eq, codes, decimal, is_some}
use Rattle.std.specs.Str.{chars}
use Rattle.serde_json.specs.Data.{Data, null, number, unsigned, negative}
use Rattle.serde_json.specs.Find.{get}
use Rattle.es_base.specs.Conforms.{is_number_string}
use Rattle.es_base.specs.declared.literal.LiteralValue.{LiteralValue}
use Rattle.es_base.specs.declared.literal.LiteralValue.TheVariants as value
use Rattle.es_reading.specs.Look.{string_at, boolean_at}

-- the forms, whose strings are bytes
pub data Form : Type 0 where
  regexp : (pattern flags : List ℕ) → Form
  bigint : (digits : List ℕ) → Form
  string : (s : List ℕ) (raw : Option (List ℕ)) → Form
  boolean : (b : Bool) → Form
  null_form : Form
  numeral : (raw : List ℕ) → Form
  whole : (n : ℕ) → Form

abbrev pub or_else : Option Form → Option Form → Option Form
or_else (Some f) other = Some f
or_else None other = other

-- `regex` is an object with strings `pattern` and `flags`
abbrev pub regexp_of : Option (List ℕ) → Option (List ℕ) → Option Form
regexp_of (Some pattern) (Some flags) = Some (regexp pattern flags)
regexp_of (Some pattern) None = None
regexp_of None flags = None

abbrev pub regexp_in : Data → Option Form
regexp_in d = option_and_then (λ r. regexp_of (string_at (codes "pattern") r) (string_at (codes "flags") r)) (get (codes "regex") d)

-- `bigint` is a string
abbrev pub bigint_in : Data → Option Form
bigint_in d = option_map bigint (string_at (codes "bigint") d)

-- `value` is a string; a string `raw` is kept
abbrev pub string_in : Data → Option Form
string_in d = option_map (λ s. string s (string_at (codes "raw") d)) (string_at (codes "value") d)

-- `value` is a boolean
abbrev pub boolean_in : Data → Option Form
boolean_in d = option_map boolean (boolean_at (codes "value") d)

-- absent, null or a whole number
abbrev pub is_whole_or_absent : Option Data → Bool
is_whole_or_absent None = true
is_whole_or_absent (Some null) = true
is_whole_or_absent (Some (number (unsigned n))) = true
is_whole_or_absent (Some (number (negative z))) = true
is_whole_or_absent (Some _) = false

-- `raw` is the string `null`, or the source text of a number whose `value` is no other value
abbrev pub by_raw : Option (List ℕ) → Option Data → Option Form
by_raw None v = None
by_raw (Some raw) v = if bytes_eq (codes "null") raw then Some null_form else (if is_number_string (chars raw) && is_whole_or_absent v then Some (numeral raw) else None)

-- without `raw`: `value` is null, or a whole number that is not negative
abbrev pub by_value : Option Data → Option Form
by_value (Some null) = Some null_form
by_value (Some (number (unsigned n))) = Some (whole n)
by_value _ = None

abbrev pub null_or_number_in : Data → Option Form
null_or_number_in d = if is_some (get (codes "raw") d) then by_raw (string_at (codes "raw") d) (get (codes "value") d) else by_value (get (codes "value") d)

abbrev pub form_in : Data → Option Form
form_in d = or_else (regexp_in d) (or_else (bigint_in d) (or_else (string_in d) (or_else (boolean_in d) (null_or_number_in d))))

-- what the forms stand for; a whole number is known by its decimal digits
abbrev pub value_of : Form → LiteralValue
value_of (regexp pattern flags) = value.RegExp (chars pattern) (chars flags)
value_of (bigint digits) = value.BigInt (chars digits)
value_of (string s raw) = value.String (chars s) (option_map chars raw)
value_of (boolean b) = value.Boolean b
value_of null_form = value.Null
value_of (numeral raw) = value.Number (chars raw)
value_of (whole n) = value.Number (chars (decimal n))

abbrev pub literal_of : Data → Option LiteralValue
literal_of d = option_map value_of (form_in d)

-- a literal that may be a key which is not computed: a string, a number, a bigint
abbrev pub is_key_form : Form → Bool
is_key_form (string s raw) = true
is_key_form (numeral raw) = true
is_key_form (whole n) = true
is_key_form (bigint digits) = true
is_key_form _ = false

-- a value that is no literal is no wrong key
abbrev pub may_be_key : Option Form → Bool
may_be_key None = true
may_be_key (Some f) = is_key_form f
