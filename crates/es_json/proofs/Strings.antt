-- Strings as characters and as bytes.
use Rattle.std.proofs.Common.{◌≡◌, refl, sym, ap, ◌∙◌, ℕ, List, [], ◌∷◌, map, Bool, true, false, not, Some}
use Rattle.std.specs.Prelude.{◌||◌, bytes_eq}
use Rattle.std.specs.Char.{encode_utf8}
use Rattle.std.specs.Str.{chars, encode_utf8_all}
use Rattle.std.proofs.lemmas.Bool.{or_left, or_right}
use Rattle.es_base.specs.Conforms.{is_among, is_foreign_name}
use Rattle.es_base.specs.Table.{words_of, name_of}
use Rattle.es_base.specs.declared.kind.Kind.{Kind}
use Rattle.es_base.specs.declared.table.Words.{Words}
use Rattle.es_reading.specs.Members.{is_name, is_word}
use Rattle.es_writing.specs.Kept.{IsString}
use Rattle.es_json.proofs.Found.{bytes_same, bytes_true, bytes_apart}

abbrev AllSpelled : List (List ℕ) → Type 0
AllSpelled [] = Unit
AllSpelled (w ∷ ws) = (encode_utf8_all w ≡ w) × AllSpelled ws

spelled : (ws : List (List ℕ)) → map encode_utf8_all ws ≡ ws → AllSpelled ws
spelled [] e = tt
spelled (w ∷ ws) e =
    let here : encode_utf8_all w ≡ w = cc in
    let rest : map encode_utf8_all ws ≡ ws = cc in
    (here, spelled ws rest)

-- the words of the table are ASCII
words_spelled : (of : Words) → map encode_utf8_all (words_of of) ≡ words_of of
unfolding encode_utf8
words_spelled Words.SourceType = refl
words_spelled _ = refl

among_by : (b : Bool) (s w : List ℕ) (ws : List (List ℕ)) → bytes_eq w s ≡ b → encode_utf8_all w ≡ w → is_among s (w ∷ ws) ≡ true → (is_among s ws ≡ true → is_among (encode_utf8_all s) ws ≡ true) → is_among (encode_utf8_all s) (w ∷ ws) ≡ true
among_by true s w ws same own among rest =
    let is : w ≡ s = bytes_true w s same in
    or_left _ _ (ap (bytes_eq w) (ap encode_utf8_all (sym is) ∙ own) ∙ bytes_same w)
among_by false s w ws other own among rest = or_right _ _ (rest (sym (ap (λ b. b || is_among s ws) other) ∙ among))

among_spelled : (s : List ℕ) (ws : List (List ℕ)) → AllSpelled ws → is_among s ws ≡ true → is_among (encode_utf8_all s) ws ≡ true
among_spelled s [] own among = among
among_spelled s (w ∷ ws) own among = among_by (bytes_eq w s) s w ws refl own.0 among (among_spelled s ws own.1)

-- a word is tested by its bytes
pub word_kept : (of : Words) (s : List ℕ) → is_among s (words_of of) ≡ true → is_word (words_of of) (Some (encode_utf8_all s)) ≡ true
word_kept of s among = among_spelled s (words_of of) (spelled (words_of of) (words_spelled of)) among

-- a name is not empty
pub name_kept : (s : List ℕ) → IsString s → not (bytes_eq s []) ≡ true → is_name (Some (encode_utf8_all s)) ≡ true
name_kept s kept some = ap (λ cs. not (bytes_eq cs [])) kept ∙ some

-- ---- the names of nodes outside the table

abbrev pub is_foreign : Kind → Bool
is_foreign Kind.Foreign = true
is_foreign kind = false

name_spelled : (k : Kind) → chars (name_of k) ≡ name_of k
unfolding chars
name_spelled Kind.Program = refl
name_spelled _ = refl

known_name : (k : Kind) → is_foreign_name (name_of k) ≡ false
known_name Kind.Program = refl
known_name _ = refl

pub foreign_apart : (k : Kind) (s : List ℕ) → IsString s → is_foreign_name s ≡ true → bytes_eq (name_of k) (encode_utf8_all s) ≡ false
foreign_apart k s kept foreign = bytes_apart (name_of k) (encode_utf8_all s) (λ is. let same : name_of k ≡ s = sym (name_spelled k) ∙ ap chars is ∙ kept in let no : is_foreign_name s ≡ false = sym (ap is_foreign_name same) ∙ known_name k in cc)
