-- What stands behind the `#` of a private name.
use Rattle.std.proofs.Common.{◌≡◌, ◌≢◌, refl, sym, ap, ℕ, List, [], ◌∷◌, nat_eq, Bool, true, false, Option, Some, None, option_map, if◌then◌else◌, MatchOption, Bor}
use Rattle.std.proofs.lemmas.Bool.{eqb-true}
use Rattle.es_ledger.specs.Ledger.{behind_sign}

no_sign : (bs : List ℕ) → ((rest : List ℕ) → bs ≢ 35 ∷ rest) → None ≡ behind_sign bs
no_sign [] h = refl
no_sign (b ∷ bs) h = by_first (nat_eq b 35) refl
  where
    by_first : (c : Bool) → nat_eq b 35 ≡ c → None ≡ (if c then Some bs else None)
    by_first true e = absurd (h bs (ap (λ x. x ∷ bs) (eqb-true b 35 e)))
    by_first false e = refl

pub sign_found : (r : Option (Bor (List ℕ))) (bs : List ℕ) → MatchOption r ((rest : List ℕ) → bs ≢ 35 ∷ rest) (λ x. bs ≡ 35 ∷ x.now) → option_map (λ s. s.now) r ≡ behind_sign bs
sign_found None bs none = no_sign bs none
sign_found (Some x) bs is = sym (ap behind_sign is)
