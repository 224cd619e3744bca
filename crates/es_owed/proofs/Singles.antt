-- Numbers stand once each where there is one node of each at most.
use Rattle.std.proofs.Common.{◌≡◌, refl, sym, ap, ◌∙◌, true≢false, ℕ, suc, List, [], ◌∷◌, ◌++◌, map, length, Bool, true, false, cond, ◌&&◌, ◌||◌, arith, Bor}
use Rattle.std.specs.Prelude.{not, nat_eq, nat_lt}
use Rattle.std.proofs.lemmas.Bool.Decides.{nat_tests}
use Rattle.es_base.specs.Preorder.{number_of}
use Rattle.es_base.specs.Tree.{Tree}
use Rattle.es_binding_faults.specs.Seen.{seen}
use Rattle.es_steps.specs.References.{has_number}
use Rattle.es_owed.specs.Listed.{numbered}
use Rattle.es_owed.specs.Numbers.{are_distinct, are_several, are_single}

several : (n : ℕ) → nat_lt 1 (suc (suc n)) ≡ true
several n = grind (arith, nat_tests)

pub several_seen : (ns : List (Bor Tree)) → nat_lt 1 (length ns) ≡ are_several (seen ns)
several_seen [] = refl
several_seen (n ∷ []) = refl
several_seen (n ∷ m ∷ ns) = several (length ns)

reflexive : (n : ℕ) → nat_eq n n ≡ true
reflexive n = grind (arith, nat_tests)

apart : (m n : ℕ) → nat_eq m n ≡ false → nat_eq n m ≡ false
apart m n other = grind (arith, nat_tests, other)

neither : (a b : Bool) → (a || b) ≡ false → (a ≡ false) × (b ≡ false)
neither true b e = absurd (true≢false e)
neither false b e = (refl, e)

abbrev some : List Tree → Bool
some [] = false
some (t ∷ ts) = true

one_more : (t : Tree) (ts : List Tree) → are_several (t ∷ ts) ≡ some ts
one_more t [] = refl
one_more t (u ∷ us) = refl

some_numbered : (n : ℕ) (ts : List Tree) → some (numbered n ts) ≡ has_number n (map number_of ts)
some_numbered n [] = refl
some_numbered n (t ∷ ts) = here (nat_eq n (number_of t)) (some_numbered n ts)
  where
    here : (b : Bool) → some (numbered n ts) ≡ has_number n (map number_of ts) → some (cond b (t ∷ []) [] ++ numbered n ts) ≡ (b || has_number n (map number_of ts))
    here true h = refl
    here false h = h

-- a tree of another number is none of theirs
besides : (t : Tree) (ts us : List Tree) → has_number (number_of t) (map number_of ts) ≡ false → are_single ts (t ∷ us) ≡ are_single ts us
besides t [] us none = refl
besides t (v ∷ vs) us none =
    let both : (nat_eq (number_of t) (number_of v) ≡ false) × (has_number (number_of t) (map number_of vs) ≡ false) = neither (nat_eq (number_of t) (number_of v)) (has_number (number_of t) (map number_of vs)) none in
    ap (λ b. not (are_several (cond b (t ∷ []) [] ++ numbered (number_of v) us)) && are_single vs (t ∷ us)) (apart (number_of t) (number_of v) both.0)
    ∙ ap (λ b. not (are_several (numbered (number_of v) us)) && b) (besides t vs us both.1)

next : (t : Tree) (ts : List Tree) (b : Bool) → has_number (number_of t) (map number_of ts) ≡ b → are_single ts ts ≡ are_distinct (map number_of ts) → (not b && are_single ts (t ∷ ts)) ≡ (not b && are_distinct (map number_of ts))
next t ts true e h = refl
next t ts false e h = besides t ts ts e ∙ h

pub distinct_by_number : (ts : List Tree) → are_single ts ts ≡ are_distinct (map number_of ts)
distinct_by_number [] = refl
distinct_by_number (t ∷ ts) =
    ap (λ b. not (are_several (cond b (t ∷ []) [] ++ numbered (number_of t) ts)) && are_single ts (t ∷ ts)) (reflexive (number_of t))
    ∙ ap (λ b. not b && are_single ts (t ∷ ts)) (one_more t (numbered (number_of t) ts) ∙ some_numbered (number_of t) ts)
    ∙ next t ts (has_number (number_of t) (map number_of ts)) refl (distinct_by_number ts)
