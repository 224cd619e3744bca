-- Tests of strings by their bytes.
use Rattle.std.proofs.Common.{◌≡◌, refl, sym, ap, ◌∙◌, ℕ, ◌<◌, List, [], ◌∷◌, ◌++◌, append_assoc, map, length, drop, Bool, true, false, nat_eq, eqb, encode_utf8, Bor, arith}
use Rattle.std.specs.Prelude.{codes, bytes_eq}
use Rattle.std.specs.Str.{chars, encode_utf8_all, IsUtf8}
use Rattle.std.specs.List.{starts_with, list_all}
use Rattle.std.proofs.lemmas.Str.{encodes-chars, cons_from_encodes, encodes-append, chars-nil}
use Rattle.std.proofs.lemmas.Bool.{and_parts, and_from}
use Rattle.std.proofs.lemmas.Slice.Eq.{bytes_eq-Decides, starts_is}
use Rattle.std.proofs.lemmas.Bool.Decides.{same_from_decides, Decides-eqb, nat_tests}
use Rattle.es_base.specs.Conforms.{begins_with}
use Rattle.es_base.specs.Table.{words_of}
use Rattle.es_base.specs.Words.{all_of_set, is_of_set, word_string}
use Rattle.es_base.specs.declared.operator.Word.{Word}
use Rattle.es_base.proofs.WordLemmas.{chars-word_string}
use Rattle.es_base.specs.declared.table.Words.{Words}

-- two strings are the same bytes where they are the same characters
pub bytes_eq_chars : (xs ys : List ℕ) → IsUtf8 xs → IsUtf8 ys → bytes_eq xs ys ≡ bytes_eq (chars xs) (chars ys)
bytes_eq_chars xs ys u v =
    let same = bytes_eq-Decides (chars xs) (chars ys) in
    let one = bytes_eq-Decides xs ys in
    same_from_decides _ _ one (
      (λ t. sym (encodes-chars xs u) ∙ ap encode_utf8_all (same.0 t) ∙ encodes-chars ys v),
      (λ e. same.1 (ap chars e)),
    )

pub assign_word : (s : List ℕ) → bytes_eq (chars (codes "=")) s ≡ bytes_eq s (codes "=")
unfolding chars
assign_word s =
    let one = bytes_eq-Decides (codes "=") s in
    let other = bytes_eq-Decides s (codes "=") in
    same_from_decides _ _ one (λ t. sym (other.0 t), λ e. other.1 (sym e))

-- a string begins with another, by characters and by bytes
begins_with-more : (ws cs : List ℕ) → begins_with ws cs ≡ true → (rest : List ℕ) × (cs ≡ ws ++ rest)
begins_with-more [] cs t = (cs, refl)
begins_with-more (w ∷ ws) [] t = cc
begins_with-more (w ∷ ws) (c ∷ cs) t =
    let both = and_parts (nat_eq w c) (begins_with ws cs) t in
    let more = begins_with-more ws cs both.1 in
    let same : w ≡ c = (Decides-eqb w c).0 both.0 in
    (more.0, cc)

begins_with-encodes : (ws cs rest : List ℕ) → encode_utf8_all cs ≡ encode_utf8_all ws ++ rest → begins_with ws cs ≡ true
begins_with-encodes [] cs rest e = refl
begins_with-encodes (w ∷ ws) cs rest e =
    let parts = cons_from_encodes cs (encode_utf8_all ws ++ rest) w (e ∙ append_assoc (encode_utf8 w) (encode_utf8_all ws) rest) in
    ap (begins_with (w ∷ ws)) parts.1 ∙ and_from _ _ ((Decides-eqb w w).1 refl) (begins_with-encodes ws parts.0 rest parts.2)

pub begins_with_chars : (start bs : List ℕ) (r : Bool) → IsUtf8 start → IsUtf8 bs → r ≡ starts_with eqb bs start → r ≡ begins_with (chars start) (chars bs)
begins_with_chars start bs r u v is =
    let by_bytes = starts_is Decides-eqb bs start r is in
    let by_chars = begins_with-more (chars start) (chars bs) in
    same_from_decides {P = begins_with (chars start) (chars bs) ≡ true} _ _ (
      (λ t. begins_with-encodes _ _ _ (encodes-chars bs v ∙ by_bytes.0 t ∙ ap (λ ds. ds ++ drop (length start) bs) (sym (encodes-chars start u)))),
      (λ t. by_bytes.1 (encode_utf8_all (by_chars t).0) (sym (encodes-chars bs v) ∙ ap encode_utf8_all (by_chars t).1 ∙ encodes-append (chars start) (by_chars t).0 ∙ ap (λ ds. ds ++ encode_utf8_all (by_chars t).0) (encodes-chars start u))),
    ) (λ t. t, λ t. t)

pub map_chars : (ws : List (Bor (List ℕ))) → map (λ (w : Bor (List ℕ)). chars w.now) ws ≡ map chars (map (λ (w : Bor (List ℕ)). w.now) ws)
map_chars [] = refl
map_chars (w ∷ ws) = ap (λ cs. chars w.now ∷ cs) (map_chars ws)

-- the words of the table are ASCII
pub words_of_chars : (of : Words) → map chars (words_of of) ≡ words_of of
unfolding chars
words_of_chars Words.SourceType = refl
words_of_chars _ = refl

no_zero : (n : ℕ) → 0 < n → nat_eq n 0 ≡ false
no_zero n some = grind (arith, nat_tests)

-- a string is empty where its bytes are
pub empty_name : (bs s : List ℕ) (e : Bool) → IsUtf8 bs → chars bs ≡ s → e ≡ nat_eq (length bs) 0 → e ≡ bytes_eq s []
empty_name [] s e u is empty = empty ∙ ap (λ t. bytes_eq t []) (sym chars-nil ∙ is)
empty_name (b ∷ bs) [] e u is empty = let none : b ∷ bs ≡ [] = sym (encodes-chars (b ∷ bs) u) ∙ ap encode_utf8_all is in cc
empty_name (b ∷ bs) (c ∷ cs) e u is empty = empty ∙ no_zero (length (b ∷ bs)) (omega arith)

-- the words of a set are of it
pub each_of_set : (set : Words) → list_all (is_of_set set) (all_of_set set) ≡ true
each_of_set Words.SourceType = refl
each_of_set _ = refl

-- a string that a word is written as has its bytes for its characters
pub chars_of_word : (w : Word) (s : List ℕ) → word_string w ≡ s → word_string w ≡ chars s
chars_of_word w s is = sym (chars-word_string w) ∙ ap chars is
