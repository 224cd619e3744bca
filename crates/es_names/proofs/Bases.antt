-- Strings without their first or last characters, and candidates, by their bytes.
use Rattle.std.proofs.Common.{◌≡◌, ◌≢◌, refl, sym, ap, subst, ◌∙◌, ℕ, zero, suc, ◌-◌, ◌<◌, ◌≤◌, ◌^◌, List, [], ◌∷◌, ◌++◌, append-nil, length, take, Bool, true, false, cond, Option, Some, None, encode_utf8, ◌⊎◌, inl, inr, arith}
use Rattle.std.specs.Prelude.{codes, decimal, nat_le, nat_eq, IfSome}
use Rattle.std.specs.Char.{is_ascii_digit, IsScalar}
use Rattle.std.specs.Str.{chars, IsUtf8, encode_utf8_all, IsAscii}
use Rattle.std.specs.Str.Pattern.{HasCharAt, FindsCharPrefix, FindsSuffixBy, CutsPrefixes, CutsSuffixes, IsTrimStartMatches, IsTrimEndMatches}
use Rattle.std.proofs.lemmas.Bool.{and_parts}
use Rattle.std.proofs.lemmas.Bool.Decides.{nat_tests}
use Rattle.std.proofs.lemmas.Str.{chars_past_char, chars-append, chars-nil, chars-IsAscii, encodes-chars, encodes-append, encode_ascii, scalars-chars, IsUtf8-past_char, IsUtf8-take, IsUtf8-from_ascii, IsCharBoundary-before_ascii, len_utf8_bounds}
use Rattle.std.proofs.lemmas.List.{take-append-drop}
use Rattle.std.proofs.Math.Seq.{drop-length}
use lib.Utf8.{scalars}
use Rattle.std.proofs.lemmas.Fmt.{IsAscii-decimal}
use Rattle.es_names.specs.Candidates.{without_underscores, before_digits, without_digits, or_temp, candidate}

-- ---- without underscores

cut_start : (s : List ℕ) → IsUtf8 s → (ns r : List ℕ) → CutsPrefixes (FindsCharPrefix 95) s ns r → IsUtf8 r × (without_underscores (chars s) ≡ without_underscores (chars r))
cut_start s u [] r h = (subst IsUtf8 (sym h) u, ap (λ t. without_underscores (chars t)) (sym h))
cut_start s u (n ∷ ns) r h =
    let before = cut_start s u ns h.0 h.1 in
    let split : h.0 ≡ encode_utf8 95 ++ r = h.2.split ∙ ap (λ t. encode_utf8 95 ++ t) (sym h.3) in
    (IsUtf8-past_char h.0 r 95 before.0 split, before.1 ∙ ap without_underscores (chars_past_char h.0 r 95 before.0 split))

begins : (cs : List ℕ) → ((rest : List ℕ) → encode_utf8_all cs ≢ encode_utf8 95 ++ rest) → without_underscores cs ≡ cs
begins [] none = refl
begins (c ∷ cs) none = elim (nat_eq c 95) as (λ b. nat_eq c 95 ≡ b → cond b (without_underscores cs) (c ∷ cs) ≡ c ∷ cs) [
  | true ↦ λ t. let is : c ≡ 95 = grind (arith, nat_tests, t) in absurd (none (encode_utf8_all cs) (ap (λ d. encode_utf8 d ++ encode_utf8_all cs) is))
  | false ↦ λ _. refl
] refl

pub trimmed_start : (s : List ℕ) → IsUtf8 s → (r : List ℕ) → IsTrimStartMatches (FindsCharPrefix 95) s r → chars r ≡ without_underscores (chars s)
trimmed_start s u r h =
    let cut = cut_start s u h.0.0 r h.0.1 in
    sym (cut.1 ∙ left h.1.0 h.1.1 h.1.2 cut.0)
  where
    left : (o : Option ℕ) → FindsCharPrefix 95 r o → IfSome o (λ n. n ≡ 0) → IsUtf8 r → without_underscores (chars r) ≡ chars r
    left None none empty v = begins (chars r) (λ rest e. none rest (sym (encodes-chars r v) ∙ e))
    left (Some n) at empty v = absurd (omega (arith, at.ends, empty, len_utf8_bounds 95))

-- ---- without digits

pub without_digits-last : (cs : List ℕ) (c : ℕ) → without_digits (cs ++ c ∷ []) ≡ cond (is_ascii_digit c) (without_digits cs) (cs ++ c ∷ [])
without_digits-last [] c = refl
without_digits-last (d ∷ cs) c = rw (without_digits-last cs c) (elim (is_ascii_digit c) as (λ b. before_digits d (cond b (without_digits cs) (cs ++ c ∷ [])) ≡ cond b (before_digits d (without_digits cs)) (d ∷ (cs ++ c ∷ []))) [
  | true ↦ refl
  | false ↦ kept cs
])
  where
    kept : (ds : List ℕ) → before_digits d (ds ++ c ∷ []) ≡ d ∷ (ds ++ c ∷ [])
    kept [] = refl
    kept (e ∷ ds) = refl

digit_chars : (c : ℕ) → is_ascii_digit c ≡ true → (c < 128) × (chars (encode_utf8 c) ≡ c ∷ [])
digit_chars c t =
    let small : c < 128 = let two = and_parts (nat_le 48 c) (nat_le c 57) t in grind (arith, nat_tests, two.1) in
    (small, chars_past_char (encode_utf8 c) [] c (subst IsUtf8 (sym (encode_ascii c small)) (IsUtf8-from_ascii (c ∷ []) (one c small))) (sym (append-nil (encode_utf8 c))) ∙ ap (λ t. c ∷ t) chars-nil)
  where
    one : (c : ℕ) → c < 128 → IsAscii (c ∷ [])
    one c small zero = omega arith
    one c small (suc i) = omega arith

-- s begins with r, and a character c follows it to its end
last-of : (s r : List ℕ) (c n : ℕ) → HasCharAt c s (length s - n) (length s) → r ≡ take (length s - n) s → s ≡ r ++ encode_utf8 c
last-of s r c n at is =
    sym (take-append-drop (length s - n) s) ∙ ap (λ t. take (length s - n) s ++ t) (at.split ∙ ap (λ t. encode_utf8 c ++ t) (drop-length s) ∙ append-nil (encode_utf8 c)) ∙ ap (λ t. t ++ encode_utf8 c) (sym is)

module _ (R : List ℕ → Option ℕ → Type 0) (gives : (s : List ℕ) (o : Option ℕ) → R s o → FindsSuffixBy is_ascii_digit s o) where
  cut_end : (s : List ℕ) → IsUtf8 s → (ns r : List ℕ) → CutsSuffixes R s ns r → IsUtf8 r × (without_digits (chars s) ≡ without_digits (chars r))
  cut_end s u [] r h = (subst IsUtf8 (sym h) u, ap (λ t. without_digits (chars t)) (sym h))
  cut_end s u (n ∷ ns) r h =
      let before = cut_end s u ns h.0 h.1 in
      let found = gives h.0 (Some n) h.2 in
      let c = found.0 in
      let small = digit_chars c found.1 in
      let within : length h.0 - n < length h.0 = omega (arith, found.2.ends, len_utf8_bounds c) in
      let text : IsUtf8 r = subst IsUtf8 (sym h.3) (IsUtf8-take h.0 (length h.0 - n) before.0 (IsCharBoundary-before_ascii h.0 (length h.0 - n) within (omega (arith, found.2.byte small.0, small.0)))) in (
        text,
        before.1 ∙ ap without_digits (ap chars (last-of h.0 r c n found.2 h.3) ∙ chars-append r (encode_utf8 c) text ∙ ap (λ t. chars r ++ t) small.1)
            ∙ without_digits-last (chars r) c ∙ ap (λ b. cond b (without_digits (chars r)) (chars r ++ c ∷ [])) found.1,
      )

-- a list is empty, or has a last item
abbrev Snoc : List ℕ → Type 0
Snoc cs = (cs ≡ []) ⊎ ((front : List ℕ) × (c : ℕ) × (cs ≡ front ++ c ∷ []))

snoc : (cs : List ℕ) → Snoc cs
snoc [] = inl refl
snoc (c ∷ cs) = longer (snoc cs)
  where
    longer : Snoc cs → Snoc (c ∷ cs)
    longer (inl e) = inr ([], c, ap (λ t. c ∷ t) e)
    longer (inr p) = inr (c ∷ p.0, p.1, ap (λ t. c ∷ t) p.2)

scalar-last : (cs : List ℕ) (c : ℕ) → scalars (cs ++ c ∷ []) ≡ true → IsScalar c
scalar-last [] c t = (and_parts _ _ t).0
scalar-last (d ∷ cs) c t = scalar-last cs c (and_parts _ _ t).1

ends : (cs : List ℕ) → scalars cs ≡ true → ((c : ℕ) (front : List ℕ) → IsScalar c → encode_utf8_all cs ≡ front ++ encode_utf8 c → is_ascii_digit c ≡ false) → without_digits cs ≡ cs
ends cs all none = by (snoc cs) all none
  where
    by : Snoc cs → scalars cs ≡ true → ((c : ℕ) (front : List ℕ) → IsScalar c → encode_utf8_all cs ≡ front ++ encode_utf8 c → is_ascii_digit c ≡ false) → without_digits cs ≡ cs
    by (inl e) all none = ap without_digits e ∙ sym e
    by (inr p) all none =
        let c = p.1 in
        let last = none c (encode_utf8_all p.0) (scalar-last p.0 c (ap scalars (sym p.2) ∙ all)) (ap encode_utf8_all p.2 ∙ encodes-append p.0 (c ∷ []) ∙ ap (λ t. encode_utf8_all p.0 ++ t) (append-nil (encode_utf8 c))) in
        ap without_digits p.2 ∙ without_digits-last p.0 c ∙ ap (λ b. cond b (without_digits p.0) (p.0 ++ c ∷ [])) last ∙ sym p.2

module _ (M : (ℕ → Bool) → Type 0) where
  abbrev pub AsTold : List ℕ → Option ℕ → Type 0
  AsTold s o = (k : ℕ → Bool) → M k → FindsSuffixBy k s o

  pub trimmed_end : (s : List ℕ) → IsUtf8 s → (r : List ℕ) → IsTrimEndMatches AsTold s r → M is_ascii_digit → chars r ≡ without_digits (chars s)
  trimmed_end s u r h own =
      let cut = cut_end AsTold (λ t o told. told is_ascii_digit own) s u h.0.0 r h.0.1 in
      sym (cut.1 ∙ left h.1.0 (h.1.1 is_ascii_digit own) h.1.2 cut.0)
    where
      left : (o : Option ℕ) → FindsSuffixBy is_ascii_digit r o → IfSome o (λ n. n ≡ 0) → IsUtf8 r → without_digits (chars r) ≡ chars r
      left None none empty v = ends (chars r) (scalars-chars r v) (λ c front one e. none c front one (sym (encodes-chars r v) ∙ e))
      left (Some n) at empty v = absurd (omega (arith, at.2.ends, empty, len_utf8_bounds at.0))

-- ---- an empty rest

pub temp_chars : chars (codes "temp") ≡ codes "temp"
unfolding chars
temp_chars = refl

pub or_temp-empty : (bs : List ℕ) → IsUtf8 bs → length bs ≡ 0 → codes "temp" ≡ or_temp (chars bs)
or_temp-empty [] u h = sym (ap or_temp chars-nil)
or_temp-empty (b ∷ bs) u h = absurd (omega arith)

pub or_temp-kept : (bs : List ℕ) → IsUtf8 bs → ¬ (length bs ≡ 0) → chars bs ≡ or_temp (chars bs)
or_temp-kept bs u some = by (chars bs) refl
  where
    by : (cs : List ℕ) → chars bs ≡ cs → cs ≡ or_temp cs
    by [] e = absurd (some (ap length (sym (encodes-chars bs u) ∙ ap encode_utf8_all e)))
    by (c ∷ cs) e = refl

-- ---- candidates

numeral_chars : (n : ℕ) → n < 2 ^ 64 → chars (decimal n) ≡ decimal n
numeral_chars n high = chars-IsAscii (decimal n) (IsAscii-decimal n high)

one : IsAscii (95 ∷ [])
one zero = omega arith
one (suc i) = omega arith

under : IsUtf8 (95 ∷ [])
under = IsUtf8-from_ascii (95 ∷ []) one

under_chars : (base : List ℕ) → chars (95 ∷ base) ≡ 95 ∷ chars base
under_chars base = chars-append (95 ∷ []) base under ∙ ap (λ t. t ++ chars base) (chars-IsAscii (95 ∷ []) one)

pub candidate-first : (bs name base : List ℕ) (n : ℕ) → name ≡ bs ++ base → bs ≡ 95 ∷ [] → n ≤ 1 → chars name ≡ candidate (chars base) n
candidate-first bs name base n is front low =
    ap chars (is ∙ ap (λ t. t ++ base) front) ∙ under_chars base
    ∙ ap (λ t. 95 ∷ t) (sym (append-nil (chars base)) ∙ ap (λ b. chars base ++ cond b [] (decimal n)) (sym test))
  where
    test : nat_le n 1 ≡ true
    test = grind (arith, nat_tests, low)

pub candidate-next : (bs body name base digits : List ℕ) (n : ℕ) → IsUtf8 base → name ≡ body ++ digits → body ≡ bs ++ base → bs ≡ 95 ∷ [] → digits ≡ decimal n → 1 < n → n < 2 ^ 64 → chars name ≡ candidate (chars base) n
candidate-next bs body name base digits n u is middle front text low high =
    ap chars (is ∙ (λ i. ((middle ∙ ap (λ t. t ++ base) front) i) ++ text i)) ∙ under_chars (base ++ decimal n)
    ∙ ap (λ t. 95 ∷ t) (chars-append base (decimal n) u ∙ ap (λ t. chars base ++ t) (numeral_chars n high) ∙ ap (λ b. chars base ++ cond b [] (decimal n)) (sym test))
  where
    test : nat_le n 1 ≡ false
    test = grind (arith, nat_tests, low)
