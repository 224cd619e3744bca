-- Items that are taken out of a list from the front, and added to codes.
use Rattle.std.proofs.Common.{◌≡◌, refl, sym, ap, ◌∙◌, ℕ, zero, suc, ◌+◌, ◌≤◌, ◌<◌, List, [], ◌∷◌, length, get_or, set, drop, Option, arith}
use Rattle.std.proofs.lemmas.List.{drop-set-lt}
use Rattle.es_codes.specs.CodeView.{code_of, codes_of}
use Rattle.es_codes.specs.declared.code.Code.{Code}
use Rattle.es_steps.specs.Code.{Codes, done, and, joined}
use Rattle.es_steps.specs.Members as spec
use Rattle.es_code_members.proofs.Chaining.{joined-done, joined_step}
use Rattle.es_code_members.specs.MembersView.{item_of, items_in, member_of, members_of}
use Rattle.es_code_members.specs.declared.member.Member.{Member}

drop-next : {X : Type 0} (xs : List X) (i : ℕ) (x : X) → i < length xs → x ≡ get_or xs i x → drop i xs ≡ x ∷ drop (suc i) xs
drop-next [] i x h is = absurd (omega (arith, h))
drop-next (y ∷ ys) zero x h is = ap (λ z. z ∷ ys) (sym is)
drop-next (y ∷ ys) (suc i) x h is = drop-next ys i x (omega (arith, h)) is

one-more : (k : ℕ) → suc k ≡ k + 1
one-more k = omega arith

pub drop-here : {X : Type 0} (xs : List X) (i : ℕ) (x : X) → i < length xs → x ≡ get_or xs i x → drop i xs ≡ x ∷ drop (i + 1) xs
drop-here xs i x h is = drop-next xs i x h is ∙ ap (λ (n : ℕ). x ∷ drop n xs) (one-more i)

pub moved : {X : Type 0} (all_of : List X → Codes) (one_of : X → Codes) → ((x : X) (xs : List X) → all_of (x ∷ xs) ≡ joined (one_of x) (all_of xs)) → (xs : List X) (i : ℕ) (x y : X) (old new all : Codes) → i < length xs → x ≡ get_or xs i x → new ≡ joined old (one_of x) → joined old (all_of (drop i xs)) ≡ all → joined new (all_of (drop (i + 1) (set xs i y))) ≡ all
moved all_of one_of step xs i x y old new all h is more before =
    ap (λ zs. joined new (all_of zs)) (drop-set-lt (i + 1) xs i y (omega arith))
    ∙ joined_step old new (one_of x) (all_of (drop (i + 1) xs)) all more (ap (joined old) (sym (step x (drop (i + 1) xs)) ∙ ap all_of (sym (drop-here xs i x h is))) ∙ before)

pub code : (xs : List Code) (i : ℕ) (x y : Code) (old new all : Codes) → i < length xs → x ≡ get_or xs i x → new ≡ joined old (and (code_of x) done) → joined old (codes_of (drop i xs)) ≡ all → joined new (codes_of (drop (i + 1) (set xs i y))) ≡ all
code = moved codes_of (λ x. and (code_of x) done) (λ x xs. refl)

pub item : (xs : List (Option Code)) (i : ℕ) (x y : Option Code) (old new all : Codes) → i < length xs → x ≡ get_or xs i x → new ≡ joined old (spec.codes_of (item_of x)) → joined old (spec.codes_in (items_in (drop i xs))) ≡ all → joined new (spec.codes_in (items_in (drop (i + 1) (set xs i y)))) ≡ all
item = moved (λ xs. spec.codes_in (items_in xs)) (λ x. spec.codes_of (item_of x)) (λ x xs. refl)

pub member : (xs : List Member) (i : ℕ) (x y : Member) (old new all : Codes) → i < length xs → x ≡ get_or xs i x → new ≡ joined old (spec.codes_of (member_of x)) → joined old (spec.codes_in (members_of (drop i xs))) ≡ all → joined new (spec.codes_in (members_of (drop (i + 1) (set xs i y)))) ≡ all
member = moved (λ xs. spec.codes_in (members_of xs)) (λ x. spec.codes_of (member_of x)) (λ x xs. refl)

pub item_operands : (xs : List (Option Code)) (i : ℕ) (x y : Option Code) (old new all : Codes) → i < length xs → x ≡ get_or xs i x → new ≡ joined old (spec.operands_of (item_of x)) → joined old (spec.operands (items_in (drop i xs))) ≡ all → joined new (spec.operands (items_in (drop (i + 1) (set xs i y)))) ≡ all
item_operands = moved (λ xs. spec.operands (items_in xs)) (λ x. spec.operands_of (item_of x)) (λ x xs. refl)

pub member_operands : (xs : List Member) (i : ℕ) (x y : Member) (old new all : Codes) → i < length xs → x ≡ get_or xs i x → new ≡ joined old (spec.operands_of (member_of x)) → joined old (spec.operands (members_of (drop i xs))) ≡ all → joined new (spec.operands (members_of (drop (i + 1) (set xs i y)))) ≡ all
member_operands = moved (λ xs. spec.operands (members_of xs)) (λ x. spec.operands_of (member_of x)) (λ x xs. refl)

-- ---- at the end of a list

drop-past : {X : Type 0} (xs : List X) (i : ℕ) → length xs ≤ i → drop i xs ≡ []
drop-past [] zero h = refl
drop-past [] (suc i) h = refl
drop-past (y ∷ ys) zero h = absurd (omega (arith, h))
drop-past (y ∷ ys) (suc i) h = drop-past ys i (omega (arith, h))

pub ended : {X : Type 0} (all_of : List X → Codes) → all_of [] ≡ done → (xs : List X) (i : ℕ) (now all : Codes) → length xs ≤ i → joined now (all_of (drop i xs)) ≡ all → now ≡ all
ended all_of none xs i now all h before = sym (joined-done now) ∙ ap (joined now) (sym none ∙ ap all_of (sym (drop-past xs i h))) ∙ before
