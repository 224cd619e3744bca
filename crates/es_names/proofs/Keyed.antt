-- Sets and maps of strings, by the characters of these.
use Rattle.std.proofs.Common.{◌≡◌, refl, sym, ap, ◌∙◌, ℕ, List, [], ◌∷◌, ◌++◌, Bool, true, false, cond, Option, Some, None}
use Rattle.std.specs.Prelude.{bytes_eq}
use Rattle.std.specs.List.{list_any}
use Rattle.std.specs.Str.{chars, IsUtf8}
use Rattle.std.specs.String.{string_bytes, string_eq}
use Rattle.std.specs.declared.string.String.{String}
use Rattle.std.specs.Map as entries
use Rattle.std.proofs.lemmas.Str.{IsUtf8-string_bytes}
use Rattle.std.proofs.lemmas.Slice.Eq.{bytes_eq-Decides}
use Rattle.std.proofs.lemmas.Bool.Decides.{same_from_decides}
use Rattle.indexmap.specs.IndexMap.{insert_entry}
use Rattle.indexmap.specs.IndexSet.{insert_key}
use Rattle.es_base.specs.Conforms.{is_among}
use Rattle.es_base.proofs.Spelling.{bytes_eq_chars}
use Rattle.es_names.specs.Taken.{strings_of, with_string, numbers_of, number_of}

pub bytes_eq-flip : (a b : List ℕ) → bytes_eq a b ≡ bytes_eq b a
bytes_eq-flip a b = same_from_decides {P = a ≡ b} _ _ (bytes_eq-Decides a b) (λ t. sym ((bytes_eq-Decides b a).0 t), λ e. (bytes_eq-Decides b a).1 (sym e))

module _ {A : Type 0} (bs : List ℕ) (u : IsUtf8 bs) where
  same_chars : (k : String A) → bytes_eq bs (string_bytes k) ≡ bytes_eq (chars (string_bytes k)) (chars bs)
  same_chars k = bytes_eq_chars bs (string_bytes k) u (IsUtf8-string_bytes k) ∙ bytes_eq-flip (chars bs) (chars (string_bytes k))

  pub among-strings_of : (ks : List (String A)) → list_any (λ k. bytes_eq bs (string_bytes k)) ks ≡ is_among (chars bs) (strings_of ks)
  among-strings_of [] = refl
  among-strings_of (k ∷ ks) = rw (same_chars k, among-strings_of ks) refl

  pub number-numbers_of : (es : List (String A × ℕ)) → entries.lookup (λ k. bytes_eq bs (string_bytes k)) es ≡ number_of (chars bs) (numbers_of es)
  number-numbers_of [] = refl
  number-numbers_of (e ∷ es) = rw (bytes_eq_chars bs (string_bytes e.0) u (IsUtf8-string_bytes e.0), number-numbers_of es) refl

strings_of-append : {A : Type 0} (ks ls : List (String A)) → strings_of (ks ++ ls) ≡ strings_of ks ++ strings_of ls
strings_of-append [] ls = refl
strings_of-append (k ∷ ks) ls = ap (λ l. chars (string_bytes k) ∷ l) (strings_of-append ks ls)

pub strings_of-insert : {A : Type 0} (ks : List (String A)) (k : String A) → strings_of (insert_key string_eq ks k) ≡ with_string (strings_of ks) (chars (string_bytes k))
strings_of-insert ks k =
    rw (sym (among-strings_of (string_bytes k) (IsUtf8-string_bytes k) ks))
    (elim (list_any (λ l. bytes_eq (string_bytes k) (string_bytes l)) ks) as (λ b. strings_of (cond b ks (ks ++ k ∷ [])) ≡ cond b (strings_of ks) (strings_of ks ++ chars (string_bytes k) ∷ [])) [
      | true ↦ refl
      | false ↦ strings_of-append ks (k ∷ [])
    ])

-- ---- the number of each base, once one is given

abbrev either : Bool → ℕ → Option ℕ → Option ℕ
either b n o = cond b (Some n) o

again : (b : Bool) (n m : ℕ) (o : Option ℕ) → either b n o ≡ either b n (either b m o)
again true n m o = refl
again false n m o = refl

pub number-insert : {A : Type 0} (bs : List ℕ) → IsUtf8 bs → (es : List (String A × ℕ)) (k : String A) (n : ℕ) → string_bytes k ≡ bs → (other : List ℕ)
    → number_of other (numbers_of (insert_entry string_eq es k n)) ≡ either (bytes_eq other (chars bs)) n (number_of other (numbers_of es))
number-insert bs u [] k n is other = ap (λ b. either (bytes_eq other (chars b)) n None) is
number-insert bs u (e ∷ es) k n is other = elim (string_eq k e.0) as (λ b. string_eq k e.0 ≡ b → number_of other (numbers_of (cond b ((e.0, n) ∷ es) (e ∷ insert_entry string_eq es k n))) ≡ either (bytes_eq other (chars bs)) n (number_of other (numbers_of (e ∷ es)))) [
  | true ↦ λ t.
      let same : chars (string_bytes e.0) ≡ chars bs = ap chars (sym ((bytes_eq-Decides (string_bytes k) (string_bytes e.0)).0 t) ∙ is) in
      rw same (again (bytes_eq other (chars bs)) n e.1 (number_of other (numbers_of es)))
  | false ↦ λ f.
      let apart : bytes_eq (chars bs) (chars (string_bytes e.0)) ≡ false = sym (bytes_eq_chars bs (string_bytes e.0) u (IsUtf8-string_bytes e.0)) ∙ ap (λ b. bytes_eq b (string_bytes e.0)) (sym is) ∙ f in
      rw (number-insert bs u es k n is other) (swap (bytes_eq other (chars (string_bytes e.0))) refl apart)
] refl
  where
    swap : (b : Bool) → bytes_eq other (chars (string_bytes e.0)) ≡ b → bytes_eq (chars bs) (chars (string_bytes e.0)) ≡ false
        → either b e.1 (either (bytes_eq other (chars bs)) n (number_of other (numbers_of es))) ≡ either (bytes_eq other (chars bs)) n (either b e.1 (number_of other (numbers_of es)))
    swap false t apart = refl
    swap true t apart =
        let not_it : bytes_eq other (chars bs) ≡ false = ap (λ o. bytes_eq o (chars bs)) ((bytes_eq-Decides other (chars (string_bytes e.0))).0 t) ∙ bytes_eq-flip (chars (string_bytes e.0)) (chars bs) ∙ apart in
        rw not_it refl
