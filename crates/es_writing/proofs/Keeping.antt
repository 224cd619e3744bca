-- Strings that code holds are UTF-8, and its numbers are below 2^32.
use Rattle.std.proofs.Common.{◌≡◌, sym, ap, ◌∙◌, ◌^◌, ◌<◌, ℕ, List}
use Rattle.std.specs.Str.{chars, encode_utf8_all, IsUtf8}
use Rattle.std.proofs.lemmas.Str.{encodes-chars}
use Rattle.es_base.proofs.WordLemmas.{chars-word_string}
use Rattle.es_base.specs.Tree.{Tree, Node}
use Rattle.es_base.specs.Words.{word_string}
use Rattle.es_base.specs.declared.operator.Word.{Word}
use Rattle.es_node.specs.View.{number_in, span_in, parts_in}
use Rattle.es_writing.specs.Kept.{IsString, IsKept, AreKept, SpanFits}

-- the bytes of a string are those of its characters
pub encodes : (bytes string : List ℕ) → IsUtf8 bytes → chars bytes ≡ string → encode_utf8_all string ≡ bytes
encodes bytes string utf8 is = ap encode_utf8_all (sym is) ∙ encodes-chars bytes utf8

pub string_kept : (bytes string : List ℕ) → IsUtf8 bytes → chars bytes ≡ string → IsString string
string_kept bytes string utf8 is = ap chars (encodes bytes string utf8 is) ∙ is

-- the characters of a word are its bytes
word_chars : (w : Word) (bytes : List ℕ) → bytes ≡ word_string w → chars bytes ≡ word_string w
word_chars w bytes is = ap chars is ∙ chars-word_string w

pub word_encodes : (w : Word) (bytes : List ℕ) → IsUtf8 bytes → bytes ≡ word_string w → encode_utf8_all (word_string w) ≡ bytes
word_encodes w bytes utf8 is = encodes bytes (word_string w) utf8 (word_chars w bytes is)

pub word_kept : (w : Word) (bytes : List ℕ) → IsUtf8 bytes → bytes ≡ word_string w → IsString (word_string w)
word_kept w bytes utf8 is = string_kept bytes (word_string w) utf8 (word_chars w bytes is)

-- a tree, by what its node has
pub tree_kept : (t : Tree) → number_in t < 2 ^ 32 → SpanFits (span_in t) → AreKept (parts_in t) → IsKept t
tree_kept (Node kind id span semantic_id ps) number fits all = (number, fits, all)
