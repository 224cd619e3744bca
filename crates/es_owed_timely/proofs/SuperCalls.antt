-- The functions for `super(..)` around a mark are looked up by their numbers.
use Rattle.std.proofs.Common.{◌≡◌, refl, ap, ◌∙◌, ℕ, List, [], ◌∷◌, ◌++◌, Bool, true, false, cond, ◌&&◌, ◌||◌, nat_eq, arith}
use Rattle.std.proofs.lemmas.Bool.Decides.{nat_tests}
use Rattle.std.specs.List.{list_any}
use Rattle.es_base.specs.declared.ledger.LedgerEntry.{LedgerEntry}
use Rattle.es_grouped.specs.Groups.{having}
use Rattle.es_lowered.specs.Timely.{Mark, is_around, is_given_with}
use Rattle.es_owed_timely.specs.Functions.{given_in, needs}
use Rattle.es_steps.specs.PrivateNames.{PrivateMember}

same_number : (m n : ℕ) → nat_eq m n ≡ nat_eq n m
same_number m n = grind (arith, nat_tests)

module _ (test : ℕ → Bool) where
  -- a function of this number, or one around, whose class passes
  abbrev pub passes : ℕ → ℕ × ℕ → Bool
  passes k f = nat_eq f.0 k && test f.1

  abbrev pub passes_around : List (ℕ × Bool) → ℕ × ℕ → Bool
  passes_around gs f = is_around f.0 gs && test f.1

  by_number : (k : ℕ) (fs : List (ℕ × ℕ)) → list_any (passes k) fs ≡ list_any test (having k fs)
  by_number k [] = refl
  by_number k (f ∷ fs) = ap (λ b. (b && test f.1) || list_any (passes k) fs) (same_number f.0 k) ∙ here (nat_eq k f.0) (by_number k fs)
    where
      here : (b : Bool) → list_any (passes k) fs ≡ list_any test (having k fs) → ((b && test f.1) || list_any (passes k) fs) ≡ list_any test (cond b (f.1 ∷ []) [] ++ having k fs)
      here true h = ap (λ b. test f.1 || b) h
      here false h = h

  none_around : (fs : List (ℕ × ℕ)) → list_any (passes_around []) fs ≡ false
  none_around [] = refl
  none_around (f ∷ fs) = none_around fs

  one_more : (g : ℕ × Bool) (gs : List (ℕ × Bool)) (fs : List (ℕ × ℕ)) → list_any (passes_around (g ∷ gs)) fs ≡ (list_any (passes g.0) fs || list_any (passes_around gs) fs)
  one_more g gs [] = refl
  one_more g gs (f ∷ fs) = ap (λ b. ((nat_eq f.0 g.0 || is_around f.0 gs) && test f.1) || b) (one_more g gs fs) ∙ sorted (nat_eq f.0 g.0) (is_around f.0 gs) (test f.1) (list_any (passes g.0) fs) (list_any (passes_around gs) fs)
    where
      sorted : (a b t p q : Bool) → (((a || b) && t) || (p || q)) ≡ (((a && t) || p) || ((b && t) || q))
      sorted true true true p q = refl
      sorted true false true p q = refl
      sorted false true true true q = refl
      sorted false true true false q = refl
      sorted false false true p q = refl
      sorted true true false p q = refl
      sorted true false false p q = refl
      sorted false true false p q = refl
      sorted false false false p q = refl

  around_by_number : (gs : List (ℕ × Bool)) (fs : List (ℕ × ℕ)) → list_any (passes_around gs) fs ≡ list_any (given_in fs test) gs
  around_by_number [] fs = none_around fs
  around_by_number (g ∷ gs) fs = one_more g gs fs ∙ ap (λ b. b || list_any (passes_around gs) fs) (by_number g.0 fs) ∙ ap (λ b. list_any test (having g.0 fs) || b) (around_by_number gs fs)

any_given : (ledger : List LedgerEntry) (members : List PrivateMember) (m : Mark) (fs : List (ℕ × ℕ)) → is_given_with ledger members m fs ≡ list_any (passes_around (needs members ledger m.name) m.around.later) fs
any_given ledger members m [] = refl
any_given ledger members m (f ∷ fs) = ap (λ b. (is_around f.0 m.around.later && needs members ledger m.name f.1) || b) (any_given ledger members m fs)

pub given_by_number : (ledger : List LedgerEntry) (members : List PrivateMember) (m : Mark) (fs : List (ℕ × ℕ)) → is_given_with ledger members m fs ≡ list_any (given_in fs (needs members ledger m.name)) m.around.later
given_by_number ledger members m fs = any_given ledger members m fs ∙ around_by_number (needs members ledger m.name) m.around.later fs
