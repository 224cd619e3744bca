-- A set of names holds what was inserted, by characters.
use Rattle.std.proofs.Common.{◌≡◌, refl, sym, ap, ◌∙◌, ℕ, List, [], ◌∷◌, ◌++◌, map, Bool, true, false, ◌||◌, Bor}
use Rattle.std.specs.Prelude.{bytes_eq}
use Rattle.std.specs.BTreeMap.{is_at}
use Rattle.std.specs.BTreeSet.{insert_key}
use Rattle.std.specs.Cmp.Lexicographic.{slice_cmp}
use Rattle.std.specs.List.{All, list_any}
use Rattle.std.specs.Ordering.{nat_cmp, is_eq, match_ordering}
use Rattle.std.specs.Str.{chars, IsUtf8}
use Rattle.std.specs.declared.cmp.Ordering.{Ordering}
use Rattle.std.proofs.lemmas.Bool.Decides.{same_from_decides}
use Rattle.std.proofs.lemmas.List.Elements.{All-head, All-tail}
use Rattle.std.proofs.lemmas.Map.Text.{is_eq-slice_cmp}
use Rattle.std.proofs.lemmas.Map.Views.{All-insert_key}
use Rattle.std.proofs.lemmas.Slice.Eq.{bytes_eq-Decides}
use Rattle.es_base.specs.Conforms.{is_among}
use Rattle.es_base.proofs.Spelling.{bytes_eq_chars}
use Rattle.es_name_set.specs.Names.{HaveSame}

abbrev Keys : Type 0
Keys = List (Bor (List ℕ))

abbrev pub names_of : Keys → List (List ℕ)
names_of ks = map (λ (k : Bor (List ℕ)). chars k.now) ks

pub bytes_eq-flipped : (xs ys : List ℕ) → bytes_eq xs ys ≡ bytes_eq ys xs
bytes_eq-flipped xs ys = same_from_decides _ _ (bytes_eq-Decides xs ys) (λ t. sym ((bytes_eq-Decides ys xs).0 t), λ e. (bytes_eq-Decides ys xs).1 (sym e))

-- ---- a string is looked up by its bytes

same_key : (q k : List ℕ) → IsUtf8 q → IsUtf8 k → is_eq (slice_cmp nat_cmp q k) ≡ bytes_eq (chars k) (chars q)
same_key q k u v = is_eq-slice_cmp q k ∙ bytes_eq_chars q k u v ∙ bytes_eq-flipped (chars q) (chars k)

pub looked_up : (q : List ℕ) (ks : Keys) → IsUtf8 q → All (λ (k : Bor (List ℕ)). IsUtf8 k.now) ks → list_any (is_at (λ (k : Bor (List ℕ)). slice_cmp nat_cmp q k.now)) ks ≡ is_among (chars q) (names_of ks)
looked_up q [] u us = refl
looked_up q (k ∷ ks) u us =
    ap (λ b. b || list_any (is_at (λ (x : Bor (List ℕ)). slice_cmp nat_cmp q x.now)) ks) (same_key q k.now u (All-head (λ (x : Bor (List ℕ)). IsUtf8 x.now) k ks us))
    ∙ ap (λ b. bytes_eq (chars k.now) (chars q) || b) (looked_up q ks u (All-tail (λ (x : Bor (List ℕ)). IsUtf8 x.now) k ks us))

-- ---- what is inserted is there, and so is what was there

or_twice : (a b : Bool) → (a || b) ≡ (a || (a || b))
or_twice true b = refl
or_twice false b = refl

or_swapped : (a b c : Bool) → (a || (b || c)) ≡ (b || (a || c))
or_swapped true true c = refl
or_swapped true false c = refl
or_swapped false b c = refl

same_bytes : (k x : List ℕ) → slice_cmp nat_cmp k x ≡ Ordering.Equal → k ≡ x
same_bytes k x e = (bytes_eq-Decides k x).0 (sym (is_eq-slice_cmp k x) ∙ ap is_eq e)

abbrev order : Bor (List ℕ) → Bor (List ℕ) → Ordering
order x y = slice_cmp nat_cmp x.now y.now

insert_step : (o : Ordering) (k x : Bor (List ℕ)) (ks more : Keys) (s : List ℕ) → order k x ≡ o → is_among s (names_of more) ≡ (bytes_eq (chars k.now) s || is_among s (names_of ks)) → is_among s (names_of (match_ordering o (k ∷ x ∷ ks) (x ∷ ks) (x ∷ more))) ≡ (bytes_eq (chars k.now) s || is_among s (names_of (x ∷ ks)))
insert_step Ordering.Less k x ks more s is later = refl
insert_step Ordering.Equal k x ks more s is later = or_twice (bytes_eq (chars x.now) s) (is_among s (names_of ks)) ∙ ap (λ t. bytes_eq (chars t) s || (bytes_eq (chars x.now) s || is_among s (names_of ks))) (sym (same_bytes k.now x.now is))
insert_step Ordering.Greater k x ks more s is later = ap (λ b. bytes_eq (chars x.now) s || b) later ∙ or_swapped (bytes_eq (chars x.now) s) (bytes_eq (chars k.now) s) (is_among s (names_of ks))

pub inserted : (k : Bor (List ℕ)) (ks : Keys) (s : List ℕ) → is_among s (names_of (insert_key order ks k)) ≡ (bytes_eq (chars k.now) s || is_among s (names_of ks))
inserted k [] s = refl
inserted k (x ∷ ks) s = insert_step (order k x) k x ks (insert_key order ks k) s refl (inserted k ks s)

-- keys stay strings
pub all_strings : (k : Bor (List ℕ)) (ks : Keys) → All (λ (x : Bor (List ℕ)). IsUtf8 x.now) ks → IsUtf8 k.now → All (λ (x : Bor (List ℕ)). IsUtf8 x.now) (insert_key order ks k)
all_strings k ks us u = All-insert_key order k (λ x. IsUtf8 x.now) ks us u

-- ---- lists of names

or_regrouped : (a b c : Bool) → ((a || b) || c) ≡ (a || (b || c))
or_regrouped true b c = refl
or_regrouped false b c = refl

pub is_among-append : (s : List ℕ) (xs ys : List (List ℕ)) → is_among s (xs ++ ys) ≡ (is_among s xs || is_among s ys)
is_among-append s [] ys = refl
is_among-append s (x ∷ xs) ys = ap (λ b. bytes_eq x s || b) (is_among-append s xs ys) ∙ sym (or_regrouped (bytes_eq x s) (is_among s xs) (is_among s ys))

pub HaveSame-append : (front xs ys : List (List ℕ)) → HaveSame xs ys → HaveSame (front ++ xs) (front ++ ys)
HaveSame-append front xs ys same = λ s. is_among-append s front xs ∙ ap (λ b. is_among s front || b) (same s) ∙ sym (is_among-append s front ys)
