-- The values of a number, of lists one behind the other.
use Rattle.std.proofs.Common.{◌≡◌, refl, ap, ℕ, List, [], ◌∷◌, ◌++◌, Bool, true, false, cond, nat_eq}
use Rattle.es_grouped.specs.Groups.{having}

pub having_append : {T : Type 0} (m : ℕ) (ps qs : List (ℕ × T)) → having m (ps ++ qs) ≡ having m ps ++ having m qs
having_append m [] qs = refl
having_append {T} m (p ∷ ps) qs = here (nat_eq m p.0) (having_append m ps qs)
  where
    here : (b : Bool) → having m (ps ++ qs) ≡ having m ps ++ having m qs → cond b (p.1 ∷ []) [] ++ having m (ps ++ qs) ≡ (cond b (p.1 ∷ []) [] ++ having m ps) ++ having m qs
    here true h = ap (λ (xs : List T). p.1 ∷ xs) h
    here false h = h
