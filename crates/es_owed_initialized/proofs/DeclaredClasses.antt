-- The classes that identifiers declare.
use Rattle.std.proofs.Common.{◌≡◌, refl, sym, ap, ◌∙◌, ℕ, List, [], ◌∷◌, ◌++◌, Bool, true, false, cond, ◌&&◌, ◌||◌, nat_eq}
use Rattle.es_grouped.specs.Groups.{having}
use Rattle.es_owed_initialized.specs.Identifiers.{turned}
use Rattle.es_steps.specs.References.{has_number}

pub has_one : (n k : ℕ) (b : Bool) (ks : List ℕ) → has_number n (cond b (k ∷ []) [] ++ ks) ≡ ((b && nat_eq n k) || has_number n ks)
has_one n k true ks = refl
has_one n k false ks = refl

either_way : (a b c : Bool) → ((a && b) || c) ≡ ((b && a) || c)
either_way true true c = refl
either_way true false c = refl
either_way false true c = refl
either_way false false c = refl

-- a class is among those of an identifier where the identifier is among its own
pub turned_has : (b n : ℕ) (ps : List (ℕ × ℕ)) → has_number n (having b (turned ps)) ≡ has_number b (having n ps)
turned_has b n [] = refl
turned_has b n (p ∷ ps) =
    has_one n p.0 (nat_eq b p.1) (having b (turned ps))
    ∙ ap (λ h. (nat_eq b p.1 && nat_eq n p.0) || h) (turned_has b n ps)
    ∙ either_way (nat_eq b p.1) (nat_eq n p.0) (has_number b (having n ps))
    ∙ sym (has_one b p.1 (nat_eq n p.0) (having n ps))
