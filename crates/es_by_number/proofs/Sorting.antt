-- A stable sort by number gives what an insertion one by one gives.
use Rattle.std.proofs.Common.{◌≡◌, refl, sym, ap, ◌∙◌, arith, ℕ, zero, suc, ◌<◌, ◌≤◌, List, [], ◌∷◌, Bool, true, false, cond, nat_le, length, get_or, map, filter, nat_cmp, is_lt, inl, inr, suc-le-suc, zero-le}
use Rattle.std.proofs.lemmas.Bool.{cond-true, cond-false, cases_Bool}
use Rattle.std.proofs.lemmas.Bool.Decides.{nat_tests}
use Rattle.std.specs.List.Sorted.{ties, IsNonDecreasingBy, IsStableByKey}
use Rattle.es_steps.specs.Meaning.{by_number, inserted}
use Rattle.es_by_number.specs.Numbered.{numbered, pairs}
use Rattle.es_by_number.specs.declared.numbered.Numbered.{Numbered}

tied : (m k : ℕ) → (ties (λ x y. is_lt (nat_cmp x y)) m k ≡ true → m ≡ k) × (m ≡ k → ties (λ x y. is_lt (nat_cmp x y)) m k ≡ true)
tied m k = (λ h. grind (arith, nat_tests), λ h. grind (arith, nat_tests))

at_most : (m k : ℕ) → (nat_le m k ≡ true → m ≤ k) × (nat_le m k ≡ false → k < m)
at_most m k = (λ h. grind (arith, nat_tests), λ h. grind (arith, nat_tests))

module _ {X : Type 0} (n : X → ℕ) where
  abbrev placed : X → List X → List X
  placed x [] = x ∷ []
  placed x (y ∷ ys) = cond (nat_le (n x) (n y)) (x ∷ y ∷ ys) (y ∷ placed x ys)

  abbrev ordered : List X → List X
  ordered [] = []
  ordered (x ∷ xs) = placed x (ordered xs)

  abbrev alike : X → X → Bool
  alike = ties (λ x y. is_lt (nat_cmp (n x) (n y)))

  alike_numbers : (x y : X) → alike x y ≡ true → n x ≡ n y
  alike_numbers x y = (tied (n x) (n y)).0

  numbers_alike : (x y : X) → n x ≡ n y → alike x y ≡ true
  numbers_alike x y = (tied (n x) (n y)).1

  filter-kept : (x y : X) (ys : List X) → alike x y ≡ true → filter (alike x) (y ∷ ys) ≡ y ∷ filter (alike x) ys
  filter-kept x y ys h = cond-true _ _ _ h

  filter-dropped : (x y : X) (ys : List X) → alike x y ≡ false → filter (alike x) (y ∷ ys) ≡ filter (alike x) ys
  filter-dropped x y ys h = cond-false _ _ _ h

  -- ---- an insertion keeps the order of those of one number

  swapped : (x y z : X) (zs : List X) → n z < n y → filter (alike x) (z ∷ y ∷ zs) ≡ filter (alike x) (y ∷ z ∷ zs)
  swapped x y z zs below = elim (cases_Bool (alike x z)) [
    | inl with ↦
        elim (cases_Bool (alike x y)) [
          | inl both ↦ absurd (omega (arith, alike_numbers x z with, alike_numbers x y both))
          | inr only ↦ filter-kept x z (y ∷ zs) with ∙ ap (λ l. z ∷ l) (filter-dropped x y zs only) ∙ sym (filter-dropped x y (z ∷ zs) only ∙ filter-kept x z zs with)
        ]
    | inr without ↦ filter-dropped x z (y ∷ zs) without ∙ ap (λ l. cond (alike x y) (y ∷ l) l) (sym (filter-dropped x z zs without))
  ]

  filter-placed : (x y : X) (ys : List X) → filter (alike x) (placed y ys) ≡ filter (alike x) (y ∷ ys)
  filter-placed x y [] = refl
  filter-placed x y (z ∷ zs) = elim (cases_Bool (nat_le (n y) (n z))) [
    | inl here ↦ ap (filter (alike x)) (cond-true _ _ _ here)
    | inr behind ↦
        ap (filter (alike x)) (cond-false _ _ _ behind)
        ∙ ap (λ l. cond (alike x z) (z ∷ l) l) (filter-placed x y zs)
        ∙ swapped x y z zs ((at_most (n y) (n z)).1 behind)
  ]

  filter-ordered : (x : X) (ys : List X) → filter (alike x) (ordered ys) ≡ filter (alike x) ys
  filter-ordered x [] = refl
  filter-ordered x (y ∷ ys) = filter-placed x y (ordered ys) ∙ ap (λ l. cond (alike x y) (y ∷ l) l) (filter-ordered x ys)

  -- ---- and the list rises

  abbrev AreAtLeast : ℕ → List X → Type 0
  AreAtLeast m [] = Unit {0}
  AreAtLeast m (y ∷ ys) = (m ≤ n y) × AreAtLeast m ys

  abbrev Rises : List X → Type 0
  Rises [] = Unit {0}
  Rises (y ∷ ys) = AreAtLeast (n y) ys × Rises ys

  at_least-less : (m k : ℕ) (ys : List X) → m ≤ k → AreAtLeast k ys → AreAtLeast m ys
  at_least-less m k [] le h = tt
  at_least-less m k (y ∷ ys) le h = let first = h.0 in (omega arith, at_least-less m k ys le h.1)

  at_least-placed : (m : ℕ) (x : X) (ys : List X) → m ≤ n x → AreAtLeast m ys → AreAtLeast m (placed x ys)
  at_least-placed m x [] le h = (le, tt)
  at_least-placed m x (y ∷ ys) le h = elim (nat_le (n x) (n y)) as (λ b. AreAtLeast m (cond b (x ∷ y ∷ ys) (y ∷ placed x ys))) [
    | true ↦ (le, h)
    | false ↦ (h.0, at_least-placed m x ys le h.1)
  ]

  rises-placed : (x : X) (ys : List X) → Rises ys → Rises (placed x ys)
  rises-placed x [] h = (tt, tt)
  rises-placed x (y ∷ ys) h = elim (nat_le (n x) (n y)) as (λ b. nat_le (n x) (n y) ≡ b → Rises (cond b (x ∷ y ∷ ys) (y ∷ placed x ys))) [
    | true ↦ λ e. let le = (at_most (n x) (n y)).0 e in ((le, at_least-less (n x) (n y) ys le h.0), h)
    | false ↦ λ e. let lt = (at_most (n x) (n y)).1 e in (at_least-placed (n y) x ys (omega arith) h.0, rises-placed x ys h.1)
  ] refl

  rises-ordered : (xs : List X) → Rises (ordered xs)
  rises-ordered [] = tt
  rises-ordered (x ∷ xs) = rises-placed x (ordered xs) (rises-ordered xs)

  at_least-each : (m : ℕ) (ys : List X) → ((j : ℕ) (d : X) → j < length ys → m ≤ n (get_or ys j d)) → AreAtLeast m ys
  at_least-each m [] h = tt
  at_least-each m (y ∷ ys) h = (h zero y (suc-le-suc zero-le), at_least-each m ys (λ j d lt. h (suc j) d (suc-le-suc lt)))

  rises-sorted : (ys : List X) → IsNonDecreasingBy n ys → Rises ys
  rises-sorted [] h = tt
  rises-sorted (y ∷ ys) h = (
    at_least-each (n y) ys (λ j d lt. h zero (suc j) d zero-le (suc-le-suc lt)),
    rises-sorted ys (λ i j d le lt. h (suc i) (suc j) d (suc-le-suc le) (suc-le-suc lt)),
  )

  -- ---- lists that rise are one where those of each number are

  found-at_least : (m : ℕ) (x : X) (ys : List X) (w : X) (ws : List X) → AreAtLeast m ys → filter (alike x) ys ≡ w ∷ ws → m ≤ n x
  found-at_least m x [] w ws h e = absurd (cc)
  found-at_least m x (y ∷ ys) w ws h e = elim (cases_Bool (alike x y)) [
    | inl with ↦ omega (arith, h.0, alike_numbers x y with)
    | inr without ↦ found-at_least m x ys w ws h.1 (sym (filter-dropped x y ys without) ∙ e)
  ]

  same_from_numbers : (ys zs : List X) → Rises ys → Rises zs → ((x : X) → filter (alike x) ys ≡ filter (alike x) zs) → ys ≡ zs
  same_from_numbers [] [] left right same = refl
  same_from_numbers [] (z ∷ zs) left right same = let clash = same z ∙ filter-kept z z zs (numbers_alike z z refl) in cc
  same_from_numbers (y ∷ ys) [] left right same = let clash = sym (same y) ∙ filter-kept y y ys (numbers_alike y y refl) in cc
  same_from_numbers (y ∷ ys) (z ∷ zs) left right same =
      let at_y = filter-kept y y ys (numbers_alike y y refl) in
      let at_z = filter-kept z z zs (numbers_alike z z refl) in
      let up = found-at_least (n z) y (z ∷ zs) y _ (omega arith, right.0) (sym (same y) ∙ at_y) in
      let down = found-at_least (n y) z (y ∷ ys) z _ (omega arith, left.0) (same z ∙ at_z) in
      let heads = sym at_y ∙ same y ∙ filter-kept y z zs (numbers_alike y z (omega arith)) in
      let head : y ≡ z = cc in
      let tails : (x : X) → filter (alike x) ys ≡ filter (alike x) zs =
      λ x. elim (cases_Bool (alike x y)) [
        | inl with ↦ let both = sym (filter-kept x y ys with) ∙ same x ∙ filter-kept x z zs (ap (alike x) (sym head) ∙ with) in cc
        | inr without ↦ sym (filter-dropped x y ys without) ∙ same x ∙ filter-dropped x z zs (ap (alike x) (sym head) ∙ without)
      ] in
      ap (λ w. w ∷ ys) head ∙ ap (λ l. z ∷ l) (same_from_numbers ys zs left.1 right.1 tails)

  ordered-sorted : (xs ys : List X) → IsNonDecreasingBy n ys → IsStableByKey n nat_cmp xs ys → ys ≡ ordered xs
  ordered-sorted xs ys sorted stable = same_from_numbers ys (ordered xs) (rises-sorted ys sorted) (rises-ordered xs) (λ x. stable x ∙ sym (filter-ordered x xs))

  -- ---- in pairs of numbers with values

  module _ {A : Type 0} (v : X → A) where
    abbrev paired : X → ℕ × A
    paired x = (n x, v x)

    paired-placed : (x : X) (ys : List X) → map paired (placed x ys) ≡ inserted (paired x) (map paired ys)
    paired-placed x [] = refl
    paired-placed x (y ∷ ys) = elim (nat_le (n x) (n y)) as (λ b. map paired (cond b (x ∷ y ∷ ys) (y ∷ placed x ys)) ≡ cond b (paired x ∷ paired y ∷ map paired ys) (paired y ∷ inserted (paired x) (map paired ys))) [
      | true ↦ refl
      | false ↦ ap (λ l. paired y ∷ l) (paired-placed x ys)
    ]

    paired-ordered : (xs : List X) → map paired (ordered xs) ≡ by_number (map paired xs)
    paired-ordered [] = refl
    paired-ordered (x ∷ xs) = paired-placed x (ordered xs) ∙ ap (inserted (paired x)) (paired-ordered xs)

pub sorted_pairs : {T : Type 0} (xs ys : List (Numbered T)) → IsNonDecreasingBy (λ x. x.number) ys → IsStableByKey (λ x. x.number) nat_cmp xs ys → pairs ys ≡ by_number (pairs xs)
sorted_pairs {T} xs ys sorted stable = ap pairs (ordered-sorted (λ (x : Numbered T). x.number) xs ys sorted stable) ∙ paired-ordered (λ (x : Numbered T). x.number) (λ x. x.value) xs

-- the same of the values as definitions see them

numbered-pairs : {T A : Type 0} (view : T → A) (xs : List (Numbered T)) → map (λ (p : ℕ × T). (p.0, view p.1)) (pairs xs) ≡ numbered view xs
numbered-pairs view [] = refl
numbered-pairs view (x ∷ xs) = ap (λ l. (x.number, view x.value) ∷ l) (numbered-pairs view xs)

inserted-viewed : {T A : Type 0} (view : T → A) (p : ℕ × T) (ps : List (ℕ × T)) → map (λ (q : ℕ × T). (q.0, view q.1)) (inserted p ps) ≡ inserted (p.0, view p.1) (map (λ (q : ℕ × T). (q.0, view q.1)) ps)
inserted-viewed view p [] = refl
inserted-viewed {T} view p (q ∷ ps) = elim (nat_le p.0 q.0) as (λ b. map (λ (r : ℕ × T). (r.0, view r.1)) (cond b (p ∷ q ∷ ps) (q ∷ inserted p ps)) ≡ cond b ((p.0, view p.1) ∷ (q.0, view q.1) ∷ map (λ (r : ℕ × T). (r.0, view r.1)) ps) ((q.0, view q.1) ∷ inserted (p.0, view p.1) (map (λ (r : ℕ × T). (r.0, view r.1)) ps))) [
  | true ↦ refl
  | false ↦ ap (λ l. (q.0, view q.1) ∷ l) (inserted-viewed view p ps)
]

by_number-viewed : {T A : Type 0} (view : T → A) (ps : List (ℕ × T)) → map (λ (p : ℕ × T). (p.0, view p.1)) (by_number ps) ≡ by_number (map (λ (p : ℕ × T). (p.0, view p.1)) ps)
by_number-viewed view [] = refl
by_number-viewed view (p ∷ ps) = inserted-viewed view p (by_number ps) ∙ ap (inserted (p.0, view p.1)) (by_number-viewed view ps)

pub sorted_viewed : {T A : Type 0} (view : T → A) (xs ys : List (Numbered T)) → pairs ys ≡ by_number (pairs xs) → numbered view ys ≡ by_number (numbered view xs)
sorted_viewed {T} view xs ys sorted =
    sym (numbered-pairs view ys)
    ∙ ap (map (λ (p : ℕ × T). (p.0, view p.1))) sorted
    ∙ by_number-viewed view (pairs xs)
    ∙ ap by_number (numbered-pairs view xs)
