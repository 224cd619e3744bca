-- The names of private members, one element after another.
use Rattle.std.proofs.Common.{◌≡◌, refl, sym, ap, ◌∙◌, ℕ, ◌+◌, ◌<◌, length, drop, get_or, List, [], ◌∷◌, ◌++◌, Bool, true, false, ◌||◌, ◌&&◌, bytes_eq}
use Rattle.std.proofs.lemmas.List.{at_drop_more}
use Rattle.es_base.specs.Conforms.{is_among}
use Rattle.es_base.specs.Tree.{Tree, child, trees}
use Rattle.es_steps.specs.PrivateNames.{PrivateMember, element_members, elements_members, is_written}
use Rattle.es_steps.specs.Values.{String}
use Rattle.es_outside.proofs.PrivateTargets.{declares_append, declares_written_append}
use Rattle.es_outside.specs.PrivateMembers.{declares, declares_written, spelled}

abbrev declares_in : String → List (String × Bool) → Bool
declares_in s [] = false
declares_in s (p ∷ ps) = bytes_eq s p.0 || declares_in s ps

abbrev declares_written_in : String → List (String × Bool) → Bool
declares_written_in s [] = false
declares_written_in s (p ∷ ps) = (p.1 && bytes_eq s p.0) || declares_written_in s ps

by_spelling : (s : String) (xs : List PrivateMember) → declares s xs ≡ declares_in s (spelled xs)
by_spelling s [] = refl
by_spelling s (x ∷ xs) = ap (λ b. bytes_eq s x.spelling || b) (by_spelling s xs)

written_by_spelling : (s : String) (xs : List PrivateMember) → declares_written s xs ≡ declares_written_in s (spelled xs)
written_by_spelling s [] = refl
written_by_spelling s (x ∷ xs) = ap (λ b. (is_written x.kind && bytes_eq s x.spelling) || b) (written_by_spelling s xs)

or_none : (a : Bool) → a ≡ (a || false)
or_none true = refl
or_none false = refl

-- ---- an element that is no private member, and one that is

pub one_written : (s name : String) (w : Bool) (old : List String) (xs : List PrivateMember) → spelled xs ≡ (name, w) ∷ [] → (is_among s old || (w && bytes_eq s name)) ≡ (is_among s old || declares_written s xs)
one_written s name w old xs e = ap (λ b. is_among s old || b) (or_none (w && bytes_eq s name) ∙ sym (written_by_spelling s xs ∙ ap (declares_written_in s) e))

-- ---- one element more

grouped : (a b c : Bool) → ((a || b) || c) ≡ (a || (b || c))
grouped true b c = refl
grouped false b c = refl

pub next_declared : (s : String) (a b : Bool) (ts : List Tree) (i : ℕ) (t : Tree) → i < length ts → t ≡ get_or ts i t → b ≡ (a || declares s (element_members 0 (child t)))
    → (b || declares s (elements_members 0 (trees (drop (i + 1) ts)))) ≡ (a || declares s (elements_members 0 (trees (drop i ts))))
next_declared s a b ts i t below is more =
    let rest = elements_members 0 (trees (drop (i + 1) ts)) in
    ap (λ c. c || declares s rest) more
    ∙ grouped a (declares s (element_members 0 (child t))) (declares s rest)
    ∙ ap (λ c. a || c) (sym (declares_append s (element_members 0 (child t)) rest))
    ∙ ap (λ (u : Tree). a || declares s (element_members 0 (child u) ++ rest)) is
    ∙ sym (at_drop_more (λ (xs : List Tree). a || declares s (elements_members 0 (trees xs))) ts i t below)

pub next_written : (s : String) (a b : Bool) (ts : List Tree) (i : ℕ) (t : Tree) → i < length ts → t ≡ get_or ts i t → b ≡ (a || declares_written s (element_members 0 (child t)))
    → (b || declares_written s (elements_members 0 (trees (drop (i + 1) ts)))) ≡ (a || declares_written s (elements_members 0 (trees (drop i ts))))
next_written s a b ts i t below is more =
    let rest = elements_members 0 (trees (drop (i + 1) ts)) in
    ap (λ c. c || declares_written s rest) more
    ∙ grouped a (declares_written s (element_members 0 (child t))) (declares_written s rest)
    ∙ ap (λ c. a || c) (sym (declares_written_append s (element_members 0 (child t)) rest))
    ∙ ap (λ (u : Tree). a || declares_written s (element_members 0 (child u) ++ rest)) is
    ∙ sym (at_drop_more (λ (xs : List Tree). a || declares_written s (elements_members 0 (trees xs))) ts i t below)
