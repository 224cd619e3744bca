-- A list without some of its members, one by one.
use Rattle.std.proofs.Common.{◌≡◌, refl, sym, ap, ◌∙◌, ℕ, zero, suc, ◌+◌, ◌<◌, ◌≤◌, List, [], ◌∷◌, Bool, true, false, cond, length, drop, drop-cons, get_or, arith}
use Rattle.std.specs.Prelude.{nat_eq, nat_lt}
use Rattle.std.proofs.lemmas.Bool.Decides.{nat_tests}
use Rattle.es_steps.specs.KeptNodes.{is_within}

drop_next : (xs : List ℕ) (i : ℕ) → i < length xs → drop i xs ≡ (get_or xs i 0 ∷ drop (i + 1) xs)
drop_next xs i below =
    let next : suc i ≡ i + 1 = omega arith in
    drop-cons xs i 0 below ∙ ap (λ k. get_or xs i 0 ∷ drop k xs) next

drop_all : (xs : List ℕ) (i : ℕ) → length xs ≤ i → drop i xs ≡ []
drop_all [] zero h = refl
drop_all [] (suc i) h = refl
drop_all (x ∷ xs) zero h = absurd (omega arith)
drop_all (x ∷ xs) (suc i) h = let e : length xs ≤ i = omega arith in drop_all xs i e

-- the next member is found
pub within_here : (xs : List ℕ) (i y : ℕ) → i < length xs → nat_eq (get_or xs i 0) y ≡ true → (ys : List ℕ) → is_within (drop (i + 1) xs) ys ≡ is_within (drop i xs) (y ∷ ys)
within_here xs i y below same ys =
    ap (λ b. cond b (is_within (drop (i + 1) xs) ys) (is_within (get_or xs i 0 ∷ drop (i + 1) xs) ys)) (sym same)
    ∙ ap (λ (zs : List ℕ). is_within zs (y ∷ ys)) (sym (drop_next xs i below))

-- .. another stands there
pub within_behind : (xs : List ℕ) (i y : ℕ) → i < length xs → nat_eq (get_or xs i 0) y ≡ false → (ys : List ℕ) → is_within (drop i xs) ys ≡ is_within (drop i xs) (y ∷ ys)
within_behind xs i y below other ys =
    ap (λ (zs : List ℕ). is_within zs ys) (drop_next xs i below)
    ∙ ap (λ b. cond b (is_within (drop (i + 1) xs) ys) (is_within (get_or xs i 0 ∷ drop (i + 1) xs) ys)) (sym other)
    ∙ ap (λ (zs : List ℕ). is_within zs (y ∷ ys)) (sym (drop_next xs i below))

-- all are found
pub within_none : (xs : List ℕ) (i : ℕ) → length xs ≤ i → (ys : List ℕ) → is_within (drop i xs) ys ≡ true
within_none xs i over ys = ap (λ (zs : List ℕ). is_within zs ys) (drop_all xs i over)

-- nothing is left to find them in
pub within_nothing : (xs : List ℕ) (i : ℕ) → i < length xs → is_within (drop i xs) [] ≡ false
within_nothing xs i below = ap (λ (zs : List ℕ). is_within zs []) (drop_next xs i below)

apart : (m n : ℕ) → (m ≡ n → ⊥) → nat_eq m n ≡ false
apart m n other = grind (arith, other)

together : (m n : ℕ) → m ≡ n → nat_eq m n ≡ true
together m n same = grind (arith, same)

ends : (xs : List ℕ) (i : ℕ) → i ≤ length xs → (b : Bool) → nat_lt i (length xs) ≡ b → is_within (drop i xs) [] ≡ nat_eq i (length xs)
ends xs i up true test =
    let below : i < length xs = grind (arith, nat_tests, test) in
    within_nothing xs i below ∙ sym (apart i (length xs) (λ e. absurd (omega (arith, below, e))))
ends xs i up false test =
    let over : length xs ≤ i = grind (arith, nat_tests, test) in
    within_none xs i over [] ∙ sym (together i (length xs) (omega (arith, up, over)))

-- the search is over
pub within_end : (xs ys : List ℕ) (i j : ℕ) → i ≤ length xs → length ys ≤ j → is_within (drop i xs) (drop j ys) ≡ nat_eq i (length xs)
within_end xs ys i j up over = ap (λ (zs : List ℕ). is_within (drop i xs) zs) (drop_all ys j over) ∙ ends xs i up (nat_lt i (length xs)) refl
