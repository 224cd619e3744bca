-- Texts of literals and of strings of templates, with the numbers by which copies are looked up.
use Rattle.std.proofs.Common.{Bor}
use Rattle.std.specs.Prelude.{ℕ, List, [], ◌∷◌, ◌++◌, Bool, true, false, cond, Some}
use Rattle.es_base.specs.Tree.{Tree, Part, string, literal}
use Rattle.es_base.specs.declared.kind.Kind.{Kind}
use Rattle.es_base.specs.declared.literal.LiteralValue.{LiteralValue}
use Rattle.es_base.specs.declared.literal.LiteralValue.TheVariants as literal_value
use Rattle.es_binding_faults.specs.Leasts.{Numbers}
use Rattle.es_node.specs.View.{kind_of, parts_in}
use Rattle.es_generated.specs.Spellings.{spelling_number}
use Rattle.es_steps.specs.Parts.{at}
use Rattle.es_steps.specs.Values.{String}

abbrev pub literal_text : LiteralValue → String
literal_text (literal_value.String s (Some raw)) = raw
literal_text (literal_value.Number raw) = raw
literal_text (literal_value.BigInt digits) = digits
literal_text (literal_value.RegExp source flags) = source
literal_text v = []

abbrev pub text_of : Part → String
text_of (literal v) = literal_text v
text_of (string s) = s
text_of p = []

abbrev pub has_text : Kind → Bool
has_text Kind.Literal = true
has_text Kind.TemplateElement = true
has_text kind = false

abbrev pub numbered_texts : Numbers → List (Bor Tree) → List (ℕ × Bor Tree)
numbered_texts ns [] = []
numbered_texts ns (t ∷ ts) = cond (has_text (kind_of t.now)) ((spelling_number ns (text_of (at 0 (parts_in t.now))), t) ∷ []) [] ++ numbered_texts ns ts
