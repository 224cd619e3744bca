-- What JSON keeps of a tree: all but its semantic ids, of a tree whose numbers and strings JSON can hold (our own).
use Rattle.std.specs.Prelude.{◌≡◌, ◌^◌, ◌<◌, ℕ, List, Option, Some, None}
use Rattle.std.specs.Str.{chars, encode_utf8_all}
use Rattle.es_base.specs.Tree.{Tree, Part, Parts, Node, end, more, child, absent, list, string, no_string, boolean, literal}
use Rattle.es_base.specs.declared.literal.LiteralValue.{LiteralValue}
use Rattle.es_base.specs.declared.literal.LiteralValue.TheVariants as value

-- a list of characters is one that UTF-8 keeps
abbrev pub IsString : List ℕ → Type 0
IsString s = chars (encode_utf8_all s) ≡ s

abbrev pub IsNullableString : Option (List ℕ) → Type 0
IsNullableString None = Unit
IsNullableString (Some s) = IsString s

abbrev pub AreStrings : LiteralValue → Type 0
AreStrings (value.String s raw) = IsString s × IsNullableString raw
AreStrings (value.Number raw) = IsString raw
AreStrings (value.BigInt s) = IsString s
AreStrings (value.RegExp pattern flags) = IsString pattern × IsString flags
AreStrings (value.Boolean b) = Unit
AreStrings value.Null = Unit

abbrev pub SpanFits : Option (ℕ × ℕ) → Type 0
SpanFits None = Unit
SpanFits (Some s) = (s.0 < 2 ^ 32) × (s.1 < 2 ^ 32)

-- the numbers and strings of a tree are such as code holds
abbrev mutual
  pub IsKept : Tree → Type 0
  IsKept (Node kind id span semantic_id ps) = (id < 2 ^ 32) × SpanFits span × AreKept ps

  pub PartIsKept : Part → Type 0
  PartIsKept (child t) = IsKept t
  PartIsKept absent = Unit
  PartIsKept (list ps) = AreKept ps
  PartIsKept (string s) = IsString s
  PartIsKept no_string = Unit
  PartIsKept (boolean b) = Unit
  PartIsKept (literal v) = AreStrings v

  pub AreKept : Parts → Type 0
  AreKept end = Unit
  AreKept (more p ps) = PartIsKept p × AreKept ps
