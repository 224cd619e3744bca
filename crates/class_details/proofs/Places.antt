-- The last class that declares a name.
use Rattle.std.proofs.Common.{◌≡◌, refl, sym, ap, ◌∙◌, ℕ, zero, suc, ◌+◌, ◌<◌, List, [], ◌∷◌, true, false, Option, Some, None, length, get_or, drop, add-one, arith}
use Rattle.std.specs.Prelude.{is_some}
use Rattle.std.proofs.lemmas.List.{at_drop_more}
use Rattle.class_details.specs.Stack.{found, found_from, found_in, or_outer}
use Rattle.class_details.specs.declared.class_details.ClassDetails.{ClassDetails}
use Rattle.class_details.specs.declared.found.Found.{Found}

-- what the classes behind have is found
found-behind : (name : List ℕ) (k i n : ℕ) (cs : List ClassDetails) (f : Found) → n ≡ k + i → found_from name n (drop i cs) ≡ Some f → found_from name k cs ≡ Some f
found-behind name k zero n cs f at h = let same : k ≡ n = omega (arith, at) in ap (λ m. found_from name m cs) same ∙ h
found-behind name k (suc i) n [] f at h = cc
found-behind name k (suc i) n (c ∷ cs) f at h =
    let next : n ≡ suc k + i = omega (arith, at) in
    ap (λ o. or_outer o (found_in name k c)) (found-behind name (suc k) i n cs f next h)

pub found_first : (name : List ℕ) (i : ℕ) (cs : List ClassDetails) (o : Option Found) → is_some o ≡ true → found_from name i (drop i cs) ≡ o → o ≡ found name cs
found_first name i cs None some h = cc
found_first name i cs (Some f) some h = let at : i ≡ 0 + i = omega arith in sym (found-behind name 0 i i cs f at h)

-- the class at place i, where none behind has the name
pub found_next : (name : List ℕ) (i n : ℕ) (cs : List ClassDetails) (c : ClassDetails) (o : Option Found) → n ≡ i + 1 → i < length cs → c ≡ get_or cs i c → o ≡ found_in name i c → found_from name n (drop n cs) ≡ None → found_from name i (drop i cs) ≡ o
found_next name i n cs c o at within here is none =
    at_drop_more (found_from name i) cs i c within
    ∙ ap (λ p. or_outer p (found_in name i (get_or cs i c))) (ap (λ m. found_from name m (drop (i + 1) cs)) (sym (add-one i)) ∙ ap (λ m. found_from name m (drop m cs)) (sym at) ∙ none)
    ∙ ap (found_in name i) (sym here) ∙ sym is

pub none_some : (o : Option Found) → is_some o ≡ false → o ≡ None
none_some None h = refl
none_some (Some f) h = cc
