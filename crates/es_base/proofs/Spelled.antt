-- The bytes of a string are those of its characters.
use Rattle.std.proofs.Common.{◌≡◌, ap, sym, ◌∙◌, ℕ, List}
use Rattle.std.specs.Str.{chars, encode_utf8_all}
use Rattle.std.specs.String.{string_bytes}
use Rattle.std.specs.declared.string.String.{String}
use Rattle.std.proofs.lemmas.Str.{encodes-chars, IsUtf8-string_bytes}

pub encode_utf8_all-chars : {A : Type 0} (s : String A) (cs : List ℕ) → chars (string_bytes s) ≡ cs → encode_utf8_all cs ≡ string_bytes s
encode_utf8_all-chars s cs is = ap encode_utf8_all (sym is) ∙ encodes-chars (string_bytes s) (IsUtf8-string_bytes s)
