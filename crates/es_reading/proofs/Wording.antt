-- The strings and literals that are read are what their sorts ask for.
use Rattle.std.proofs.Common.{◌≡◌, refl, sym, ap, ◌∙◌, subst, ℕ, zero, suc, ◌-◌, ◌/◌, ◌%◌, ◌<◌, nat_le, nat_lt, nat_eq, ◌==◌, cond, List, [], ◌∷◌, map, Bool, true, false, ◌&&◌, ◌||◌, Option, Some, None, option_map, option_and_then, if◌then◌else◌, decimal, arith}
use Rattle.std.specs.Prelude.{codes, bytes_eq, is_some}
use Rattle.std.specs.Str.{chars, chars_after, continuation_len, lead_bits}
use Rattle.std.specs.Fmt.{digits, digits_onto, digit_glyph}
use Rattle.std.proofs.lemmas.Bool.{or_left, or_right}
use Rattle.std.proofs.lemmas.Bool.Decides.{nat_tests}
use Rattle.std.proofs.lemmas.Slice.Eq.{bytes_eq-Decides}
use Rattle.serde_json.specs.Data.{Data, null, number, unsigned}
use Rattle.serde_json.specs.Find.{get}
use Rattle.es_base.specs.Conforms.{is_among, is_number_string, literal_conforms, is_key_literal}
use Rattle.es_base.specs.Tree.{Parts, more, literal}
use Rattle.es_base.specs.Table.{words_of}
use Rattle.es_base.specs.declared.table.Words.{Words}
use Rattle.es_base.proofs.Spelling.{words_of_chars}
use Rattle.es_reading.proofs.And.{left_of, right_of}
use Rattle.es_reading.specs.Literals.{Form, bigint, boolean, numeral, whole, string as string_form, or_else, regexp_of, regexp_in, bigint_in, string_in, boolean_in, by_raw, by_value, is_whole_or_absent, form_in, value_of, is_key_form}
use Rattle.es_reading.specs.Look.{string_at, boolean_at}

-- ---- words

by_word : (b : Bool) (s w : List ℕ) (ws : List (List ℕ)) → bytes_eq w s ≡ b → chars w ≡ w → (b || is_among s ws) ≡ true → (is_among s ws ≡ true → is_among (chars s) ws ≡ true) → is_among (chars s) (w ∷ ws) ≡ true
by_word true s w ws same plain h next =
    let is : w ≡ s = (bytes_eq-Decides w s).0 same in
    or_left (bytes_eq w (chars s)) (is_among (chars s) ws) ((bytes_eq-Decides w (chars s)).1 (sym plain ∙ ap chars is))
by_word false s w ws same plain h next = or_right (bytes_eq w (chars s)) (is_among (chars s) ws) (next h)

is_among_words : (s : List ℕ) (ws : List (List ℕ)) → map chars ws ≡ ws → is_among s ws ≡ true → is_among (chars s) ws ≡ true
is_among_words s [] plain h = h
is_among_words s (w ∷ ws) plain h =
    let first : chars w ≡ w = cc in
    let rest : map chars ws ≡ ws = cc in
    by_word (bytes_eq w s) s w ws refl first h (λ g. is_among_words s ws rest g)

pub word_chars : (s : List ℕ) (words : Words) → is_among s (words_of words) ≡ true → is_among (chars s) (words_of words) ≡ true
word_chars s words h = is_among_words s (words_of words) (words_of_chars words) h

pub assigned : (s : List ℕ) → bytes_eq (codes "=") s ≡ true → bytes_eq (chars s) (codes "=") ≡ true
unfolding chars
assigned s h =
    let is : codes "=" ≡ s = (bytes_eq-Decides (codes "=") s).0 h in
    subst (λ (z : List ℕ). bytes_eq (chars z) (codes "=") ≡ true) is refl

-- ---- numbers

abbrev begins_digit : List ℕ → Bool
begins_digit [] = false
begins_digit (c ∷ cs) = nat_le 48 c && nat_le c 57

glyph : (d : ℕ) (acc : List ℕ) → d < 10 → begins_digit (digit_glyph false d ∷ acc) ≡ true
glyph d acc h = grind (arith, nat_tests)

by_test : (b : Bool) (xs ys : List ℕ) → begins_digit xs ≡ true → begins_digit ys ≡ true → begins_digit (if b then xs else ys) ≡ true
by_test true xs ys f g = f
by_test false xs ys f g = g

onto : (k n : ℕ) (acc : List ℕ) → begins_digit acc ≡ true → begins_digit (digits_onto k 10 false n acc) ≡ true
onto zero n acc h = h
onto (suc k) n acc h =
    let here = glyph (n % 10) acc (omega arith) in
    by_test (n / 10 == 0) _ _ here (onto k (n / 10) (digit_glyph false (n % 10) ∷ acc) here)

decimal_digit : (n : ℕ) → begins_digit (decimal n) ≡ true
unfolding digits
decimal_digit n =
    let here = glyph (n % 10) [] (omega arith) in
    by_test (n / 10 == 0) (digit_glyph false (n % 10) ∷ []) (digits_onto 63 10 false (n / 10) (digit_glyph false (n % 10) ∷ [])) here (onto 63 (n / 10) (digit_glyph false (n % 10) ∷ []) here)

first_char : (n c : ℕ) (bs : List ℕ) → n ≡ 0 → (nat_le 48 c && nat_le c 57) ≡ true → is_number_string (chars_after n c bs) ≡ true
first_char zero c [] z h = or_right (nat_eq c 46) _ h
first_char zero c (b ∷ bs) z h = or_right (nat_eq c 46) _ h
first_char (suc n) c bs z h = absurd (omega arith)

one_byte : (b : ℕ) → (nat_le 48 b && nat_le b 57) ≡ true → nat_lt b 128 ≡ true
one_byte b h = let small = right_of (nat_le 48 b) (nat_le b 57) h in grind (arith, nat_tests)

digit_string : (bs : List ℕ) → begins_digit bs ≡ true → is_number_string (chars bs) ≡ true
unfolding chars
digit_string [] h = cc
digit_string (b ∷ bs) h =
    let small = one_byte b h in
    let bits : lead_bits b ≡ b = ap (λ z. cond z b (cond (nat_lt b 224) (b - 192) (cond (nat_lt b 240) (b - 224) (b - 240)))) small in
    first_char (continuation_len b) (lead_bits b) bs (ap (λ z. cond z 0 (cond (nat_lt b 224) 1 (cond (nat_lt b 240) 2 3))) small) (subst (λ z. (nat_le 48 z && nat_le z 57) ≡ true) (sym bits) h)

whole_text : (n : ℕ) → is_number_string (chars (decimal n)) ≡ true
whole_text n = digit_string (decimal n) (decimal_digit n)

-- ---- literals

abbrev good_form : Form → Bool
good_form (numeral raw) = is_number_string (chars raw)
good_form _ = true

abbrev good : Option Form → Bool
good None = true
good (Some f) = good_form f

good_else : (o p : Option Form) → good o ≡ true → good p ≡ true → good (or_else o p) ≡ true
good_else (Some f) p g h = g
good_else None p g h = h

good_if : (b : Bool) (o p : Option Form) → (b ≡ true → good o ≡ true) → (b ≡ false → good p ≡ true) → good (if b then o else p) ≡ true
good_if true o p f g = f refl
good_if false o p f g = g refl

good_regexp : (o : Option Data) → good (option_and_then (λ r. regexp_of (string_at (codes "pattern") r) (string_at (codes "flags") r)) o) ≡ true
good_regexp None = refl
good_regexp (Some d) = by_parts (string_at (codes "pattern") d) (string_at (codes "flags") d) where
  by_parts : (p f : Option (List ℕ)) → good (regexp_of p f) ≡ true
  by_parts (Some p) (Some f) = refl
  by_parts (Some p) None = refl
  by_parts None f = refl

good_bigint : (o : Option (List ℕ)) → good (option_map bigint o) ≡ true
good_bigint None = refl
good_bigint (Some s) = refl

good_string : (o raw : Option (List ℕ)) → good (option_map (λ s. string_form s raw) o) ≡ true
good_string None raw = refl
good_string (Some s) raw = refl

good_boolean : (o : Option Bool) → good (option_map boolean o) ≡ true
good_boolean None = refl
good_boolean (Some b) = refl

good_raw : (o : Option (List ℕ)) (v : Option Data) → good (by_raw o v) ≡ true
good_raw None v = refl
good_raw (Some raw) v = good_if (bytes_eq (codes "null") raw) _ _ (λ t. refl)
    (λ f. good_if (is_number_string (chars raw) && is_whole_or_absent v) _ _ (λ t. left_of _ _ t) (λ g. refl))

good_value : (v : Option Data) → good (by_value v) ≡ true
good_value (Some null) = refl
good_value (Some (number (unsigned n))) = refl
good_value _ = refl

good_in : (d : Data) → good (form_in d) ≡ true
good_in d =
    good_else (regexp_in d) _ (good_regexp (get (codes "regex") d))
    (good_else (bigint_in d) _ (good_bigint (string_at (codes "bigint") d))
    (good_else (string_in d) _ (good_string (string_at (codes "value") d) (string_at (codes "raw") d))
    (good_else (boolean_in d) _ (good_boolean (boolean_at (codes "value") d))
    (good_if (is_some (get (codes "raw") d)) _ _ (λ t. good_raw (string_at (codes "raw") d) (get (codes "value") d)) (λ f. good_value (get (codes "value") d))))))

value_good : (f : Form) → good_form f ≡ true → literal_conforms (value_of f) ≡ true
value_good (numeral raw) h = h
value_good (whole n) h = whole_text n
value_good _ h = refl

pub literal_good : (d : Data) (f : Form) → form_in d ≡ Some f → literal_conforms (value_of f) ≡ true
literal_good d f is = value_good f (sym (ap good is) ∙ good_in d)

pub key_good : (f : Form) (rest : Parts) → is_key_form f ≡ true → is_key_literal (more (literal (value_of f)) rest) ≡ true
key_good (string_form s raw) rest h = refl
key_good (numeral raw) rest h = refl
key_good (whole n) rest h = refl
key_good (bigint ds) rest h = refl
key_good _ rest h = absurd (cc)
