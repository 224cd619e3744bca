-- Literals, strings of templates, directives and private names are written as they were: a printer may write the source text that one has. (Our own.)
use Rattle.std.specs.Prelude.{ℕ, List, [], ◌∷◌, Bool, true, false, cond, not, nat_eq, nat_le, ◌&&◌, ◌||◌, Some}
use Rattle.es_base.specs.Numbered.{is_new}
use Rattle.es_base.specs.Preorder.{preorder}
use Rattle.es_base.specs.Tree.{Tree, Part, Parts, Node, end, more, string, literal}
use Rattle.es_base.specs.declared.kind.Kind.{Kind}
use Rattle.es_base.specs.declared.literal.LiteralValue.TheVariants as literal_value
use Rattle.es_steps.specs.KeptNodes.{stands_equal}
use Rattle.es_steps.specs.Parts.{at, string_of}
use Rattle.es_steps.specs.Printable.{is_digit}
use Rattle.es_steps.specs.References.{has_number}
use Rattle.es_steps.specs.SameTrees.{same_parts}

-- a string of a template that is copied
abbrev pub is_string_among : Parts → List Tree → Bool
is_string_among qs [] = false
is_string_among qs (Node Kind.TemplateElement n span semantic_id ps ∷ ts) = same_parts qs ps || is_string_among qs ts
is_string_among qs (t ∷ ts) = is_string_among qs ts

abbrev pub is_literal_among : Parts → List Tree → Bool
is_literal_among qs [] = false
is_literal_among qs (Node Kind.Literal n span semantic_id ps ∷ ts) = same_parts qs ps || is_literal_among qs ts
is_literal_among qs (t ∷ ts) = is_literal_among qs ts

-- a literal that a lowering makes: a number of one digit, a string without a text, a boolean, null
abbrev pub is_plain : Part → Bool
is_plain (literal (literal_value.String s (Some raw))) = false
is_plain (literal (literal_value.Number (c ∷ []))) = true
is_plain (literal (literal_value.Number raw)) = false
is_plain (literal (literal_value.BigInt s)) = false
is_plain (literal (literal_value.RegExp source flags)) = false
is_plain p = true

-- or a copy of one, but of no number or text that strict code has not, `010` and `"\10"` (12.8.3.1, 12.8.4.1), and of no regular
-- expression, which would be another object (13.2.7)
abbrev pub is_not_copied : Part → Bool
is_not_copied (literal (literal_value.Number (c ∷ d ∷ cs))) = nat_eq c 48 && is_digit d
is_not_copied (literal (literal_value.String s (Some raw))) = has_number 92 raw
is_not_copied (literal (literal_value.RegExp source flags)) = true
is_not_copied p = false

-- a new name has letters, digits, `_` and `$` of ASCII, and other characters where names of the source have them
abbrev pub has_name : Kind → Bool
has_name Kind.IdentifierReference = true
has_name Kind.BindingIdentifier = true
has_name Kind.IdentifierName = true
has_name Kind.PrivateIdentifier = true
has_name kind = false

abbrev pub is_character_among : ℕ → List Tree → Bool
is_character_among c [] = false
is_character_among c (Node kind n span semantic_id ps ∷ ts) = (has_name kind && has_number c (string_of (at 0 ps))) || is_character_among c ts

abbrev pub are_characters : List Tree → List ℕ → Bool
are_characters ts [] = true
are_characters ts (c ∷ cs) = (nat_le c 127 || is_character_among c ts) && are_characters ts cs

-- and begins as one of these does
abbrev pub begins_with : ℕ → List ℕ → Bool
begins_with c [] = false
begins_with c (d ∷ ds) = nat_eq c d

abbrev pub is_beginning_among : ℕ → List Tree → Bool
is_beginning_among c [] = false
is_beginning_among c (Node kind n span semantic_id ps ∷ ts) = (has_name kind && begins_with c (string_of (at 0 ps))) || is_beginning_among c ts

abbrev pub is_beginning : List Tree → List ℕ → Bool
is_beginning ts [] = true
is_beginning ts (c ∷ cs) = nat_le c 127 || is_beginning_among c ts

abbrev pub is_new_name : List Tree → List ℕ → Bool
is_new_name ts s = are_characters ts s && is_beginning ts s

-- a name is as it was, or such as a new one
abbrev pub has_characters : Bool → List Tree → Tree → List ℕ → Bool
has_characters is_name ts t s = not is_name || (stands_equal t ts || is_new_name ts s)

-- ps are the nodes of the source
abbrev pub has_its_text : ℕ → List Tree → Tree → Bool
has_its_text first ps (Node Kind.Literal n span semantic_id qs) = cond (is_new first n) (is_plain (at 0 qs) || (is_literal_among qs ps && not (is_not_copied (at 0 qs)))) (stands_equal (Node Kind.Literal n span semantic_id qs) ps)
has_its_text first ps (Node Kind.TemplateElement n span semantic_id qs) = cond (is_new first n) (is_string_among qs ps) (stands_equal (Node Kind.TemplateElement n span semantic_id qs) ps)
has_its_text first ps (Node Kind.ExpressionStatement n span semantic_id (more e (more (string s) end))) = is_new first n || stands_equal (Node Kind.ExpressionStatement n span semantic_id (more e (more (string s) end))) ps
has_its_text first ps (Node Kind.PrivateIdentifier n span semantic_id qs) = cond (is_new first n) (is_new_name ps (string_of (at 0 qs))) (stands_equal (Node Kind.PrivateIdentifier n span semantic_id qs) ps)
has_its_text first ps (Node kind n span semantic_id qs) = has_characters (has_name kind) ps (Node kind n span semantic_id qs) (string_of (at 0 qs))

abbrev pub all_have_their_texts : ℕ → List Tree → List Tree → Bool
all_have_their_texts first ps [] = true
all_have_their_texts first ps (t ∷ ts) = has_its_text first ps t && all_have_their_texts first ps ts

abbrev pub texts_stay : ℕ → Tree → Tree → Bool
texts_stay first p q = all_have_their_texts first (preorder p) (preorder q)
