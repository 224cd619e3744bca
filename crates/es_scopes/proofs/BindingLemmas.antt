-- The names of a scope, by their characters, against the map of their strings.
use Rattle.std.proofs.Common.{◌≡◌, refl, sym, ap, ◌∙◌, ℕ, zero, suc, ◌+◌, ◌-◌, ◌<◌, List, [], ◌∷◌, ◌++◌, length, take, set, get_or, Bool, true, false, cond, Option, Some, None, nat_lt, arith}
use Rattle.std.specs.Prelude.{bytes_eq, not}
use Rattle.std.specs.Str.{chars, IsUtf8}
use Rattle.std.specs.String.{string_bytes, string_eq}
use Rattle.std.specs.declared.string.String.{String}
use Rattle.std.specs.List.{AllByRecursion, IsDistinct, prefix_len, swap_remove, position, position_or_len}
use Rattle.std.specs.Map as entries
use Rattle.std.proofs.lemmas.Str.{IsUtf8-string_bytes}
use Rattle.std.proofs.lemmas.List.{length-append, length-map}
use Rattle.std.proofs.lemmas.Slice.Eq.{bytes_eq-Decides}
use Rattle.std.proofs.lemmas.Bool.Decides.{nat_tests}
use Rattle.std.proofs.Math.Seq.{get_or-append_seam}
use Rattle.indexmap.specs.IndexMap.{IndexMap, get, swap_remove_entry}
use Rattle.es_base.specs.declared.ids.SymbolId.{SymbolId}
use Rattle.es_base.proofs.Spelling.{bytes_eq_chars}
use Rattle.es_scopes.specs.Table.{or_else}
use Rattle.es_scopes.specs.Bindings.{Names, lookup, renamed, names_of}

-- a name is found by its characters where it is found by its bytes
pub lookup-names_of : {A : Type 0} (bs : List ℕ) → IsUtf8 bs → (es : List (String A × SymbolId)) → entries.lookup (λ k. bytes_eq bs (string_bytes k)) es ≡ lookup (chars bs) (names_of es)
lookup-names_of bs u [] = refl
lookup-names_of bs u (e ∷ es) = rw (bytes_eq_chars bs (string_bytes e.0) u (IsUtf8-string_bytes e.0), lookup-names_of bs u es) refl

-- and so it is by a string of the same bytes
pub get-names_of : {A S : Type 0} (bs : List ℕ) → IsUtf8 bs → (m : IndexMap (String A) SymbolId S) (key : String A) (names : Names) → string_bytes key ≡ bs → names_of m.entries ≡ names → (r : Option SymbolId) → lookup (chars bs) names ≡ r → get string_eq m key ≡ r
get-names_of bs u m key names is view r h =
    ap (λ b. entries.lookup (λ k. bytes_eq b (string_bytes k)) m.entries) is ∙ lookup-names_of bs u m.entries ∙ ap (lookup (chars bs)) view ∙ h

pub names_of-append : {A : Type 0} (es fs : List (String A × SymbolId)) → names_of (es ++ fs) ≡ names_of es ++ names_of fs
names_of-append [] fs = refl
names_of-append (e ∷ es) fs = ap (λ l. (chars (string_bytes e.0), e.1) ∷ l) (names_of-append es fs)

module _ {K X : Type 0} (test : K → Bool) (n : K × X) where
  -- the entries, with n in the place of the first that passes
  abbrev pub replaced : List (K × X) → List (K × X)
  replaced [] = []
  replaced (e ∷ es) = cond (test e.0) (n ∷ es) (e ∷ replaced es)

  take-set : (es : List (K × X)) (k : ℕ) (v : K × X) → k < length es → take (length es) (set (es ++ n ∷ []) k v) ≡ set es k v
  take-set [] k v h = absurd (omega arith)
  take-set (e ∷ es) zero v h = ap (λ l. v ∷ l) (take_front es)
    where
      take_front : (es : List (K × X)) → take (length es) (es ++ n ∷ []) ≡ es
      take_front [] = refl
      take_front (e ∷ es) = ap (λ l. e ∷ l) (take_front es)
  take-set (e ∷ es) (suc k) v h = ap (λ l. e ∷ l) (take-set es k v (omega arith))

  -- the last of a list takes the place of the k-th
  swap_last : (es : List (K × X)) (k : ℕ) (d : K × X) → k < length es → swap_remove (es ++ n ∷ []) k d ≡ set es k n
  swap_last es k d h =
      let size : length (es ++ n ∷ []) - 1 ≡ length es = omega (arith, length-append es (n ∷ [])) in
      (λ i. take (size i) (set (es ++ n ∷ []) k (get_or (es ++ n ∷ []) (size i) d)))
      ∙ ap (λ v. take (length es) (set (es ++ n ∷ []) k v)) (get_or-append_seam es n [] d)
      ∙ take-set es k n h

  record Found (es : List (K × X)) (k : ℕ) : Type 0 where
    pub at : prefix_len (λ x. not (test x)) (entries.keys_of (es ++ n ∷ [])) ≡ k
    pub within : k < length es
    pub is : set es k n ≡ replaced es

  abbrev Found_somewhere : List (K × X) → Type 0
  Found_somewhere es = (k : ℕ) × Found es k

  found : (es : List (K × X)) (x : X) → entries.lookup test es ≡ Some x → Found_somewhere es
  found [] x h = cc
  found (e ∷ es) x h =
      elim (test e.0) as (λ b. test e.0 ≡ b → Found_somewhere (e ∷ es)) [
        | true ↦ λ t. (0, record { at = rw t refl; within = omega arith; is = rw t refl })
        | false ↦ λ t.
            let next = found es x (rw t at h) in
            (suc next.0, record { at = rw t (omega (arith, next.1.at)); within = omega (arith, next.1.within); is = rw t (ap (λ l. e ∷ l) next.1.is) })
      ] refl

  -- once n is added, taking out the first that passes leaves n in its place
  pub swap_remove_entry-push : (es : List (K × X)) (x : X) → entries.lookup test es ≡ Some x → swap_remove_entry test (es ++ n ∷ []) ≡ replaced es
  swap_remove_entry-push [] x h = cc
  swap_remove_entry-push (e ∷ es) x h =
      let place = found (e ∷ es) x h in
      let at : position_or_len test (entries.keys_of (e ∷ (es ++ n ∷ []))) ≡ place.0 = place.1.at in
      let keys : length (entries.keys_of (e ∷ (es ++ n ∷ []))) ≡ length es + 2 = simp (length-map, length-append) (omega arith) in
      let within : nat_lt (position_or_len test (entries.keys_of (e ∷ (es ++ n ∷ [])))) (length (entries.keys_of (e ∷ (es ++ n ∷ [])))) ≡ true =
      rw (at, keys) (grind (arith, nat_tests, place.1.within)) in
      let where_is : position test (entries.keys_of (e ∷ (es ++ n ∷ []))) ≡ Some place.0 = rw (within, at) refl in
      rw where_is (swap_last (e ∷ es) place.0 e place.1.within ∙ place.1.is)

module _ {A : Type 0} (bs : List ℕ) (u : IsUtf8 bs) (n : String A × SymbolId) where
  abbrev is_old : String A → Bool
  is_old k = bytes_eq bs (string_bytes k)

  same_chars : (k : String A) → bytes_eq (chars bs) (chars (string_bytes k)) ≡ is_old k
  same_chars k = sym (bytes_eq_chars bs (string_bytes k) u (IsUtf8-string_bytes k))

  -- where no key is the old one, no name is changed
  renamed-absent : (new : List ℕ) (es : List (String A × SymbolId)) (x : String A) → is_old x ≡ true → AllByRecursion (λ k. string_eq x k ≡ false) (entries.keys_of (es ++ n ∷ []))
      → renamed (chars bs) new (names_of es) ≡ names_of es
  renamed-absent new [] x old apart = refl
  renamed-absent new (e ∷ es) x old apart =
      let other : is_old e.0 ≡ false = ap (λ b. bytes_eq b (string_bytes e.0)) ((bytes_eq-Decides bs (string_bytes x)).0 old) ∙ apart.0 in
      (λ i. (cond ((same_chars e.0 ∙ other) i) new (chars (string_bytes e.0)), e.1) ∷ renamed-absent new es x old apart.1 i)

  -- a map has the old key once, so its name is changed where n takes its place
  pub names_of-replaced : (es : List (String A × SymbolId)) → IsDistinct string_eq (entries.keys_of (es ++ n ∷ [])) → lookup (chars bs) (names_of es) ≡ Some n.1
      → names_of (replaced is_old n es) ≡ renamed (chars bs) (chars (string_bytes n.0)) (names_of es)
  unfolding IsDistinct
  names_of-replaced [] unique h = refl
  names_of-replaced (e ∷ es) unique h =
      let new = chars (string_bytes n.0) in
      let Goal = λ (old : Bool). names_of (cond old (n ∷ es) (e ∷ replaced is_old n es)) ≡ (cond (bytes_eq (chars bs) (chars (string_bytes e.0))) new (chars (string_bytes e.0)), e.1) ∷ renamed (chars bs) new (names_of es) in
      elim (is_old e.0) as (λ b. is_old e.0 ≡ b → Goal b) [
        | true ↦ λ t. rw (same_chars e.0 ∙ t) (
            let is : e.1 ≡ n.1 = cc (rw (same_chars e.0 ∙ t) at h) in
            (λ i. (new, sym is i) ∷ sym (renamed-absent new es e.0 t unique.0) i))
        | false ↦ λ t. rw (same_chars e.0 ∙ t) (ap (λ l. (chars (string_bytes e.0), e.1) ∷ l) (names_of-replaced es unique.1 (rw (same_chars e.0 ∙ t) at h)))
      ] refl

none_parts : (b : Bool) (y : SymbolId) (o : Option SymbolId) → cond b (Some y) o ≡ None → (b ≡ false) × (o ≡ None)
none_parts true y o h = cc
none_parts false y o h = (refl, h)

pub bytes_eq-apart : (a b c : List ℕ) → bytes_eq a b ≡ true → bytes_eq c b ≡ false → bytes_eq a c ≡ false
bytes_eq-apart a b c same other = elim (bytes_eq a c) as (λ r. bytes_eq a c ≡ r → r ≡ false) [
  | true ↦ λ t. sym ((bytes_eq-Decides c b).1 (sym ((bytes_eq-Decides a c).0 t) ∙ (bytes_eq-Decides a b).0 same)) ∙ other
  | false ↦ λ _. refl
] refl

bytes_eq-same : (a b c : List ℕ) → bytes_eq b c ≡ true → bytes_eq a c ≡ bytes_eq a b
bytes_eq-same a b c same = ap (bytes_eq a) (sym ((bytes_eq-Decides b c).0 same))

abbrev no_symbol : Option SymbolId
no_symbol = None

nones : (a b : Bool) → cond a no_symbol (cond b no_symbol no_symbol) ≡ no_symbol
nones true b = refl
nones false true = refl
nones false false = refl

-- what a name means once another has been renamed to one that was free
pub lookup-renamed : (old new n : List ℕ) (names : Names) → lookup new names ≡ None → lookup n (renamed old new names) ≡ cond (bytes_eq n new) (lookup old names) (cond (bytes_eq n old) None (lookup n names))
lookup-renamed old new n [] free = sym (nones (bytes_eq n new) (bytes_eq n old))
lookup-renamed old new n (e ∷ names) free =
    let parts = none_parts (bytes_eq new e.0) e.1 (lookup new names) free in
    let rest = lookup-renamed old new n names parts.1 in
    let Goal = λ (o : Bool). cond (bytes_eq n (cond o new e.0)) (Some e.1) (lookup n (renamed old new names)) ≡ cond (bytes_eq n new) (cond o (Some e.1) (lookup old names)) (cond (bytes_eq n old) None (cond (bytes_eq n e.0) (Some e.1) (lookup n names))) in
    elim (bytes_eq old e.0) as (λ o. bytes_eq old e.0 ≡ o → Goal o) [
      | true ↦ λ is_old.
          rw (bytes_eq-same n old e.0 is_old, rest)
          (elim (bytes_eq n new) as (λ a. cond a (Some e.1) (cond a (lookup old names) (cond (bytes_eq n old) None (lookup n names))) ≡ cond a (Some e.1) (cond (bytes_eq n old) None (cond (bytes_eq n old) (Some e.1) (lookup n names)))) [
            | true ↦ refl
            | false ↦ elim (bytes_eq n old) as (λ b. cond b None (lookup n names) ≡ cond b None (cond b (Some e.1) (lookup n names))) [ true ↦ refl | false ↦ refl ]
          ])
      | false ↦ λ not_old.
          rw rest
          (elim (bytes_eq n e.0) as (λ c. bytes_eq n e.0 ≡ c → cond c (Some e.1) (cond (bytes_eq n new) (lookup old names) (cond (bytes_eq n old) None (lookup n names))) ≡ cond (bytes_eq n new) (lookup old names) (cond (bytes_eq n old) None (cond c (Some e.1) (lookup n names)))) [
            | true ↦ λ is. rw (bytes_eq-apart n e.0 new is parts.0, bytes_eq-apart n e.0 old is not_old) refl
            | false ↦ λ _. refl
          ] refl)
    ] refl

pub lookup-push : (n name : List ℕ) (y : SymbolId) (names : Names) → lookup n (names ++ (name, y) ∷ []) ≡ or_else (lookup n names) (cond (bytes_eq n name) (Some y) None)
lookup-push n name y [] = refl
lookup-push n name y (e ∷ names) = elim (bytes_eq n e.0) as (λ b. cond b (Some e.1) (lookup n (names ++ (name, y) ∷ [])) ≡ or_else (cond b (Some e.1) (lookup n names)) (cond (bytes_eq n name) (Some y) None)) [
  | true ↦ refl
  | false ↦ lookup-push n name y names
]
