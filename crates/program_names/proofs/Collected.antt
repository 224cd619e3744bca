-- Spellings that are collected in preorder: node after node, and item after item of a list.
use Rattle.std.proofs.Common.{◌≡◌, refl, sym, ap, ◌∙◌, ℕ, ◌+◌, ◌<◌, ◌≤◌, List, [], ◌∷◌, ◌++◌, append_assoc, length, drop, drop-cons, get_or, add-one}
use Rattle.std.proofs.lemmas.List.{drop_all}
use Rattle.es_base.specs.Tree.{Tree}
use Rattle.program_names.specs.Spelled.{own_spelling, spellings_of}
use Rattle.es_names.specs.Taken.{Strings, with_string, with_strings}

with_strings-append : (z xs ys : Strings) → with_strings z (xs ++ ys) ≡ with_strings (with_strings z xs) ys
with_strings-append z [] ys = refl
with_strings-append z (x ∷ xs) ys = with_strings-append (with_string z x) xs ys

spellings-append : (ts us : List Tree) → spellings_of (ts ++ us) ≡ spellings_of ts ++ spellings_of us
spellings-append [] us = refl
spellings-append (t ∷ ts) us = ap (λ s. own_spelling t ++ s) (spellings-append ts us) ∙ sym (append_assoc (own_spelling t) (spellings_of ts) (spellings_of us))

pub collected : (z : Strings) (ts us : List Tree) → with_strings z (spellings_of (ts ++ us)) ≡ with_strings (with_strings z (spellings_of ts)) (spellings_of us)
collected z ts us = ap (with_strings z) (spellings-append ts us) ∙ with_strings-append z (spellings_of ts) (spellings_of us)

pub collected_own : (z : Strings) (t : Tree) (us : List Tree) → with_strings z (spellings_of (t ∷ us)) ≡ with_strings (with_strings z (own_spelling t)) (spellings_of us)
collected_own z t us = with_strings-append z (own_spelling t) (spellings_of us)

-- a walk over a list whose items have the trees f, and all together g
module _ {X : Type 0} (f : X → List Tree) (g : List X → List Tree) (cons : (x : X) (xs : List X) → g (x ∷ xs) ≡ f x ++ g xs) where
  pub walked : (xs : List X) (i : ℕ) (x : X) (z after all : Strings) → i < length xs → x ≡ get_or xs i x → with_strings z (spellings_of (g (drop i xs))) ≡ all
      → after ≡ with_strings z (spellings_of (f x)) → with_strings after (spellings_of (g (drop (i + 1) xs))) ≡ all
  walked xs i x z after all within is to_do done =
      let first : drop i xs ≡ x ∷ drop (i + 1) xs = drop-cons xs i x within ∙ (λ j. sym is j ∷ drop (sym (add-one i) j) xs) in
      ap (λ s. with_strings s (spellings_of (g (drop (i + 1) xs)))) done
      ∙ sym (collected z (f x) (g (drop (i + 1) xs)))
      ∙ ap (λ ts. with_strings z (spellings_of ts)) (sym (ap g first ∙ cons x (drop (i + 1) xs)))
      ∙ to_do

  pub walked_all : g [] ≡ [] → (xs : List X) (i : ℕ) (z all : Strings) → length xs ≤ i → with_strings z (spellings_of (g (drop i xs))) ≡ all → z ≡ all
  walked_all none xs i z all ended to_do = ap (λ ts. with_strings z (spellings_of ts)) (sym (ap g (drop_all i xs ended) ∙ none)) ∙ to_do
