-- A text has at least one byte for each of its tokens.
use Rattle.std.proofs.Common.{ℕ, suc, ◌+◌, ◌≤◌, Bool, true, false, List, [], ◌∷◌, length, arith}
use Rattle.json.specs.Token.{Token}
use Rattle.json.specs.Lex.{Lexeme, token, comma, colon, Class, quote, backslash, operator, space, other, class, Mode, between, in_word, in_string, in_escape, lex_byte, lex, Place, fresh, after_value, after_comma, after_key, begins_colon, if_allowed, place_token, punctuate, tokens}

-- ---- a byte begins at most one lexeme

one_byte : (m : Mode) (c : Class) (x : ℕ) (xs : List ℕ) (k : Mode → List Lexeme) (n : ℕ) → ((next : Mode) → length (k next) ≤ n) → length (lex_byte m c x xs k) ≤ suc n
one_byte between quote x xs k n h = omega (arith, h in_string)
one_byte between backslash x xs k n h = omega (arith, h in_word)
one_byte between operator x xs k n h = omega (arith, h between)
one_byte between space x xs k n h = omega (arith, h between)
one_byte between other x xs k n h = omega (arith, h in_word)
one_byte in_word quote x xs k n h = omega (arith, h in_word)
one_byte in_word backslash x xs k n h = omega (arith, h in_word)
one_byte in_word operator x xs k n h = omega (arith, h between)
one_byte in_word space x xs k n h = omega (arith, h between)
one_byte in_word other x xs k n h = omega (arith, h in_word)
one_byte in_string quote x xs k n h = omega (arith, h between)
one_byte in_string backslash x xs k n h = omega (arith, h in_escape)
one_byte in_string operator x xs k n h = omega (arith, h in_string)
one_byte in_string space x xs k n h = omega (arith, h in_string)
one_byte in_string other x xs k n h = omega (arith, h in_string)
one_byte in_escape c x xs k n h = omega (arith, h in_string)

lexemes_fit : (m : Mode) (string : List ℕ) → length (lex m string) ≤ length string
unfolding lex
lexemes_fit m [] = omega arith
lexemes_fit m (x ∷ xs) = one_byte m (class x) x xs (λ next. lex next xs) (length xs) (λ next. lexemes_fit next xs)

-- ---- a lexeme is at most one token

-- a text that ends too soon has one token more, `bad`; where a colon follows it does not end there
abbrev spare : Place → Bool → ℕ
spare fresh b = 0
spare after_value b = 0
spare after_comma b = 1
spare after_key true = 0
spare after_key false = 1

if_allowed_fits : (b : Bool) (t : Token) (k : Place → List Token) (next : Place) (n : ℕ) → length (k next) ≤ n → length (if_allowed b t k next) ≤ suc n
if_allowed_fits true t k next n h = omega arith
if_allowed_fits false t k next n h = omega arith

placed : (p : Place) (t : Token) (b : Bool) (k : Place → List Token) (n : ℕ) → ((next : Place) → length (k next) ≤ spare next b + n) → length (place_token p t b k) ≤ suc n
placed p Token.begin_object b k n h = if_allowed_fits _ Token.begin_object k fresh n (omega (arith, h fresh))
placed p Token.end_object b k n h = if_allowed_fits _ Token.end_object k after_value n (omega (arith, h after_value))
placed p Token.begin_array b k n h = if_allowed_fits _ Token.begin_array k fresh n (omega (arith, h fresh))
placed p Token.end_array b k n h = if_allowed_fits _ Token.end_array k after_value n (omega (arith, h after_value))
placed p (Token.key s) b k n h = omega arith
placed p (Token.string s) true k n h = if_allowed_fits _ (Token.key s) k after_key n (omega (arith, h after_key))
placed p (Token.string s) false k n h = if_allowed_fits _ (Token.string s) k after_value n (omega (arith, h after_value))
placed p (Token.number s) b k n h = if_allowed_fits _ (Token.number s) k after_value n (omega (arith, h after_value))
placed p (Token.boolean t) b k n h = if_allowed_fits _ (Token.boolean t) k after_value n (omega (arith, h after_value))
placed p Token.null b k n h = if_allowed_fits _ Token.null k after_value n (omega (arith, h after_value))
placed p Token.bad b k n h = omega arith

punctuate_fits : (p : Place) (ls : List Lexeme) → length (punctuate p ls) ≤ spare p (begins_colon ls) + length ls
unfolding punctuate
punctuate_fits fresh [] = omega arith
punctuate_fits after_value [] = omega arith
punctuate_fits after_comma [] = omega arith
punctuate_fits after_key [] = omega arith
punctuate_fits fresh (token t ∷ ls) = omega (arith, placed fresh t (begins_colon ls) (λ next. punctuate next ls) (length ls) (λ next. punctuate_fits next ls))
punctuate_fits after_value (token t ∷ ls) = omega (arith, placed after_value t (begins_colon ls) (λ next. punctuate next ls) (length ls) (λ next. punctuate_fits next ls))
punctuate_fits after_comma (token t ∷ ls) = omega (arith, placed after_comma t (begins_colon ls) (λ next. punctuate next ls) (length ls) (λ next. punctuate_fits next ls))
punctuate_fits after_key (token t ∷ ls) = omega (arith, placed after_key t (begins_colon ls) (λ next. punctuate next ls) (length ls) (λ next. punctuate_fits next ls))
punctuate_fits fresh (comma ∷ ls) = omega arith
punctuate_fits after_value (comma ∷ ls) = omega (arith, punctuate_fits after_comma ls)
punctuate_fits after_comma (comma ∷ ls) = omega arith
punctuate_fits after_key (comma ∷ ls) = omega arith
punctuate_fits fresh (colon ∷ ls) = omega arith
punctuate_fits after_value (colon ∷ ls) = omega arith
punctuate_fits after_comma (colon ∷ ls) = omega arith
punctuate_fits after_key (colon ∷ ls) = omega (arith, punctuate_fits fresh ls)

pub tokens_fit : (string : List ℕ) → length (tokens string) ≤ length string
tokens_fit string = omega (arith, punctuate_fits fresh (lex between string), lexemes_fit between string)
