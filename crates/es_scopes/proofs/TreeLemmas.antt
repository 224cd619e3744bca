-- Chains of parents, over any relation of scopes to parents.
use Rattle.std.proofs.Common.{◌≡◌, ◌≢◌, refl, sym, ap, subst, ◌∙◌, ℕ, zero, suc, ◌+◌, ◌<◌, ◌≤◌, List, [], ◌∷◌, map, length, Option, Some, None, Bool, true, false, true≢false, nat_eq, eqb, cond, inl, inr, arith}
use Rattle.std.specs.Prelude.{◌||◌, is_some, Contains}
use Rattle.std.specs.List.{list_any, IsDistinct, AllByRecursion}
use Rattle.std.proofs.lemmas.Bool.Decides.{Decides-eqb}
use Rattle.std.proofs.lemmas.Map.Steps.{length-le_from_distinct_below}
use Rattle.es_base.specs.declared.ids.ScopeId.{ScopeId}
use Rattle.es_scopes.specs.Table.{chain, ends, ends_from, or_none}
use Rattle.es_scopes.proofs.RowLemmas.{same_or_other}
use Rattle.std.proofs.lemmas.List.{length-map}

abbrev pub Parents : Type 0
Parents = ScopeId → Option (Option ScopeId)

abbrev pub is_among : ScopeId → List ScopeId → Bool
is_among s scopes = list_any (λ q. nat_eq s.0 q.0) scopes

pub same_scope : (s q : ScopeId) → s.0 ≡ q.0 → s ≡ q
same_scope s q e = λ i. record { 0 = e i }

-- a scope of a list, as an element of it
pub Contains-among : (s : ScopeId) (scopes : List ScopeId) → is_among s scopes ≡ true → Contains scopes s
Contains-among s [] h = absurd (true≢false (sym h))
Contains-among s (q ∷ scopes) h = elim (nat_eq s.0 q.0) as (λ b. nat_eq s.0 q.0 ≡ b → (b || is_among s scopes) ≡ true → Contains (q ∷ scopes) s) [
  | true ↦ λ t _. (0, omega arith, sym (same_scope s q ((Decides-eqb s.0 q.0).0 t)))
  | false ↦ λ _ rest. let at = Contains-among s scopes rest in (suc at.0, omega (arith, at.1), at.2)
] refl h

on_parent : (o : Option (Option ScopeId)) (f g : ScopeId → Bool) → ((p : ScopeId) → f p ≡ true → g p ≡ true) → ends_from o f ≡ true → ends_from o g ≡ true
on_parent None f g k h = h
on_parent (Some None) f g k h = h
on_parent (Some (Some p)) f g k h = k p h

there : (o : Option (Option ScopeId)) (f : ScopeId → Bool) → ends_from o f ≡ true → is_some o ≡ true
there None f h = absurd (true≢false (sym h))
there (Some p) f h = refl

pub ends-le : (parent : Parents) (n m : ℕ) (s : ScopeId) → n ≤ m → ends parent n s ≡ true → ends parent m s ≡ true
ends-le parent zero m s le h = absurd (true≢false (sym h))
ends-le parent (suc n) zero s le h = absurd (omega arith)
ends-le parent (suc n) (suc m) s le h = on_parent (parent s) (ends parent n) (ends parent m) (λ p. ends-le parent n m p (omega arith)) h

pub ends-there : (parent : Parents) (n : ℕ) (s : ScopeId) → ends parent n s ≡ true → is_some (parent s) ≡ true
ends-there parent zero s h = absurd (true≢false (sym h))
ends-there parent (suc n) s h = there (parent s) (ends parent n) h

-- the chain stays where no parent of it changes
pub ends-same : (parent other : Parents) → ((s : ScopeId) → is_some (parent s) ≡ true → other s ≡ parent s) → (n : ℕ) (s : ScopeId) → ends parent n s ≡ true → ends other n s ≡ true
ends-same parent other same zero s h = h
ends-same parent other same (suc n) s h =
    ap (λ o. ends_from o (ends other n)) (same s (ends-there parent (suc n) s h)) ∙ on_parent (parent s) (ends parent n) (ends other n) (λ p. ends-same parent other same n p) h

-- the scopes of the chain, however far it is followed
chains : (o : Option (Option ScopeId)) (f g : ScopeId → Bool) (c d : ScopeId → List ScopeId) → ((p : ScopeId) → f p ≡ true → g p ≡ true → c p ≡ d p) → ends_from o f ≡ true → ends_from o g ≡ true → or_none o c ≡ or_none o d
chains None f g c d k h j = refl
chains (Some None) f g c d k h j = refl
chains (Some (Some p)) f g c d k h j = k p h j

pub chain-ends : (parent : Parents) (n m : ℕ) (s : ScopeId) → ends parent n s ≡ true → ends parent m s ≡ true → chain parent n s ≡ chain parent m s
chain-ends parent zero m s h j = absurd (true≢false (sym h))
chain-ends parent (suc n) zero s h j = absurd (true≢false (sym j))
chain-ends parent (suc n) (suc m) s h j = ap (λ l. s ∷ l) (chains (parent s) (ends parent n) (ends parent m) (chain parent n) (chain parent m) (λ p. chain-ends parent n m p) h j)

-- ---- no chain is longer than the number of scopes

-- a scope of a chain has a chain that is no longer
record Shorter (parent : Parents) (n : ℕ) (x : ScopeId) (l : ℕ) : Type 0 where
  pub ends_too : ends parent n x ≡ true
  pub shorter : length (chain parent n x) ≤ l

longer : (parent : Parents) (n : ℕ) (x : ScopeId) → ((p : ScopeId) → ends parent n p ≡ true → is_among x (chain parent n p) ≡ true → Shorter parent n x (length (chain parent n p)))
    → (o : Option (Option ScopeId)) → ends_from o (ends parent n) ≡ true → is_among x (or_none o (chain parent n)) ≡ true → Shorter parent (suc n) x (suc (length (or_none o (chain parent n))))
longer parent n x above None h m = absurd (true≢false (sym m))
longer parent n x above (Some None) h m = absurd (true≢false (sym m))
longer parent n x above (Some (Some p)) h m =
    let below = above p h m in
    let ends_more = ends-le parent n (suc n) x (omega arith) below.ends_too in
    record { ends_too = ends_more; shorter = omega (arith, below.shorter, ap length (chain-ends parent n (suc n) x below.ends_too ends_more)) }

among-shorter : (parent : Parents) (n : ℕ) (x s : ScopeId) → ends parent n s ≡ true → is_among x (chain parent n s) ≡ true → Shorter parent n x (length (chain parent n s))
among-shorter parent zero x s h m = absurd (true≢false (sym h))
among-shorter parent (suc n) x s h m =
    let above = λ (p : ScopeId) (e : ends parent n p ≡ true) (a : is_among x (chain parent n p) ≡ true). among-shorter parent n x p e a in
    elim (nat_eq x.0 s.0) as (λ b. nat_eq x.0 s.0 ≡ b → (b || is_among x (or_none (parent s) (chain parent n))) ≡ true → Shorter parent (suc n) x (length (chain parent (suc n) s))) [
      | true ↦ λ t _. subst (λ y. Shorter parent (suc n) y (length (chain parent (suc n) s))) (sym (same_scope x s ((Decides-eqb x.0 s.0).0 t))) (record { ends_too = h; shorter = omega arith })
      | false ↦ λ _ m. longer parent n x above (parent s) h m
    ] refl m

-- a scope does not stand above itself
not_above : (parent : Parents) (n : ℕ) (s : ScopeId) → ends parent (suc n) s ≡ true → is_among s (or_none (parent s) (chain parent n)) ≡ false
not_above parent n s h = by (parent s) refl
  where
    by : (o : Option (Option ScopeId)) → parent s ≡ o → is_among s (or_none o (chain parent n)) ≡ false
    by None e = refl
    by (Some None) e = refl
    by (Some (Some p)) e =
        let up : ends parent n p ≡ true = sym (ap (λ o. ends_from o (ends parent n)) e) ∙ h in
        elim (is_among s (chain parent n p)) as (λ b. is_among s (chain parent n p) ≡ b → b ≡ false) [
          | true ↦ λ m.
              let below = among-shorter parent n s p up m in
              let whole : length (chain parent (suc n) s) ≡ suc (length (chain parent n p)) = ap (λ o. suc (length (or_none o (chain parent n)))) e in
              absurd (omega (arith, below.shorter, whole, ap length (chain-ends parent n (suc n) s below.ends_too h)))
          | false ↦ λ _. refl
        ] refl

apart_from_not_among : (s : ScopeId) (scopes : List ScopeId) → is_among s scopes ≡ false → AllByRecursion (λ y. eqb s.0 y ≡ false) (map (λ q. q.0) scopes)
apart_from_not_among s [] h = tt
apart_from_not_among s (q ∷ scopes) h = elim (eqb s.0 q.0) as (λ b. eqb s.0 q.0 ≡ b → (b || is_among s scopes) ≡ false → (b ≡ false) × AllByRecursion (λ y. eqb s.0 y ≡ false) (map (λ q. q.0) scopes)) [
  | true ↦ λ _ h. absurd (true≢false h)
  | false ↦ λ _ h. (refl, apart_from_not_among s scopes h)
] refl h

distinct_above : (o : Option (Option ScopeId)) (f : ScopeId → Bool) (c : ScopeId → List ScopeId) → ((p : ScopeId) → f p ≡ true → IsDistinct eqb (map (λ q. q.0) (c p))) → ends_from o f ≡ true → IsDistinct eqb (map (λ q. q.0) (or_none o c))
unfolding IsDistinct
distinct_above None f c k h = tt
distinct_above (Some None) f c k h = tt
distinct_above (Some (Some p)) f c k h = k p h

chain-distinct : (parent : Parents) (n : ℕ) (s : ScopeId) → ends parent n s ≡ true → IsDistinct eqb (map (λ q. q.0) (chain parent n s))
unfolding IsDistinct
chain-distinct parent zero s h = tt
chain-distinct parent (suc n) s h =
    (apart_from_not_among s (or_none (parent s) (chain parent n)) (not_above parent n s h), distinct_above (parent s) (ends parent n) (chain parent n) (λ p. chain-distinct parent n p) h)

below_above : (bound : ℕ) (q : ℕ) (o : Option (Option ScopeId)) (f : ScopeId → Bool) (c : ScopeId → List ScopeId) → ((p : ScopeId) → f p ≡ true → list_any (eqb q) (map (λ x. x.0) (c p)) ≡ true → q < bound) → ends_from o f ≡ true → list_any (eqb q) (map (λ x. x.0) (or_none o c)) ≡ true → q < bound
below_above bound q None f c k h m = absurd (true≢false (sym m))
below_above bound q (Some None) f c k h m = absurd (true≢false (sym m))
below_above bound q (Some (Some p)) f c k h m = k p h m

chain-below : (parent : Parents) (bound : ℕ) → ((s : ScopeId) → is_some (parent s) ≡ true → s.0 < bound) → (n : ℕ) (s : ScopeId) → ends parent n s ≡ true → (q : ℕ) → list_any (eqb q) (map (λ x. x.0) (chain parent n s)) ≡ true → q < bound
chain-below parent bound below zero s h q m = absurd (true≢false (sym h))
chain-below parent bound below (suc n) s h q m =
    elim (eqb q s.0) as (λ b. eqb q s.0 ≡ b → (b || list_any (eqb q) (map (λ x. x.0) (or_none (parent s) (chain parent n)))) ≡ true → q < bound) [
      | true ↦ λ t _. let same : q ≡ s.0 = (Decides-eqb q s.0).0 t in let within = below s (ends-there parent (suc n) s h) in omega arith
      | false ↦ λ _ m. below_above bound q (parent s) (ends parent n) (chain parent n) (λ p e. chain-below parent bound below n p e q) h m
    ] refl m

ends-length_from : (parent : Parents) (n : ℕ) (o : Option (Option ScopeId)) → ((p : ScopeId) → ends parent n p ≡ true → ends parent (length (chain parent n p)) p ≡ true) → ends_from o (ends parent n) ≡ true → ends_from o (ends parent (length (or_none o (chain parent n)))) ≡ true
ends-length_from parent n None k h = h
ends-length_from parent n (Some None) k h = refl
ends-length_from parent n (Some (Some p)) k h = k p h

ends-length : (parent : Parents) (n : ℕ) (s : ScopeId) → ends parent n s ≡ true → ends parent (length (chain parent n s)) s ≡ true
ends-length parent zero s h = absurd (true≢false (sym h))
ends-length parent (suc n) s h = ends-length_from parent n (parent s) (λ p. ends-length parent n p) h

-- what ends at all ends within as many scopes as there are
pub ends-within : (parent : Parents) (bound : ℕ) → ((s : ScopeId) → is_some (parent s) ≡ true → s.0 < bound) → (n : ℕ) (s : ScopeId) → ends parent n s ≡ true → ends parent bound s ≡ true
ends-within parent bound below n s h =
    let short : length (map (λ q. q.0) (chain parent n s)) ≤ bound = length-le_from_distinct_below _ bound (chain-distinct parent n s h) (chain-below parent bound below n s h) in
    let len : length (map (λ q. q.0) (chain parent n s)) ≡ length (chain parent n s) = simp length-map in
    ends-le parent (length (chain parent n s)) bound s (omega arith) (ends-length parent n s h)

-- ---- another parent for a scope

module _ (parent other : Parents) (s : ScopeId) (new : Option ScopeId) (at : other s ≡ Some new) (elsewhere : (q : ScopeId) → q.0 ≢ s.0 → other q ≡ parent q) where
  beside_from : (n : ℕ) (o : Option (Option ScopeId)) → ((p : ScopeId) → ends parent n p ≡ true → is_among s (chain parent n p) ≡ false → ends other n p ≡ true) → ends_from o (ends parent n) ≡ true → is_among s (or_none o (chain parent n)) ≡ false → ends_from o (ends other n) ≡ true
  beside_from n None k h m = h
  beside_from n (Some None) k h m = h
  beside_from n (Some (Some p)) k h m = k p h m

  -- a chain without the scope stays
  beside : (n : ℕ) (q : ScopeId) → ends parent n q ≡ true → is_among s (chain parent n q) ≡ false → ends other n q ≡ true
  beside zero q h m = h
  beside (suc n) q h m =
      elim (nat_eq s.0 q.0) as (λ b. nat_eq s.0 q.0 ≡ b → (b || is_among s (or_none (parent q) (chain parent n))) ≡ false → ends other (suc n) q ≡ true) [
        | true ↦ λ _ m. absurd (true≢false m)
        | false ↦ λ f m.
            ap (λ o. ends_from o (ends other n)) (elsewhere q (λ e. true≢false (sym ((Decides-eqb s.0 q.0).1 (sym e)) ∙ f)))
            ∙ beside_from n (parent q) (λ p. beside n p) h m
      ] refl m

  through_from : (n m : ℕ) (o : Option (Option ScopeId)) → ((p : ScopeId) → ends parent n p ≡ true → ends other (n + suc m) p ≡ true) → ends_from o (ends parent n) ≡ true → ends_from o (ends other (n + suc m)) ≡ true
  through_from n m o k h = on_parent o (ends parent n) (ends other (n + suc m)) k h

  -- and the others end where the new parent does
  through : (m : ℕ) → ends other (suc m) s ≡ true → (n : ℕ) (q : ScopeId) → ends parent n q ≡ true → ends other (n + suc m) q ≡ true
  through m top zero q h = absurd (true≢false (sym h))
  through m top (suc n) q h = elim (same_or_other q.0 s.0) [
    | inl same ↦ subst (λ x. ends other (suc n + suc m) x ≡ true) (sym (same_scope q s same)) (ends-le other (suc m) (suc n + suc m) s (omega arith) top)
    | inr apart ↦
        ends-le other (suc (n + suc m)) (suc n + suc m) q (omega arith)
        (ap (λ o. ends_from o (ends other (n + suc m))) (elsewhere q apart) ∙ through_from n m (parent q) (λ p. through m top n p) h)
  ]

  pub ends-moved : (bound n m : ℕ) → ((q : ScopeId) → is_some (other q) ≡ true → q.0 < bound) → ends_from (Some new) (ends other m) ≡ true → (q : ScopeId) → ends parent n q ≡ true → ends other bound q ≡ true
  ends-moved bound n m below top q h = ends-within other bound below (n + suc m) q (through m (ap (λ o. ends_from o (ends other m)) at ∙ top) n q h)

  pub ends-beside : (n : ℕ) (q : ScopeId) → ends parent n q ≡ true → is_among s (chain parent n q) ≡ false → ends other n q ≡ true
  ends-beside n q h m = beside n q h m

-- ---- a scope removed

abbrev pub lifted_parent : ScopeId → Option ScopeId → Option (Option ScopeId) → Option (Option ScopeId)
lifted_parent s up None = None
lifted_parent s up (Some None) = Some None
lifted_parent s up (Some (Some p)) = cond (nat_eq s.0 p.0) (Some up) (Some (Some p))

no_loop : (parent : Parents) (s : ScopeId) → parent s ≡ Some (Some s) → (n : ℕ) → ends parent n s ≡ true → ⊥
no_loop parent s e zero h = true≢false (sym h)
no_loop parent s e (suc n) h = no_loop parent s e n (sym (ap (λ o. ends_from o (ends parent n)) e) ∙ h)

module _ (parent other : Parents) (s : ScopeId) (up : Option ScopeId) (was : parent s ≡ Some up) (elsewhere : (q : ScopeId) → q.0 ≢ s.0 → other q ≡ lifted_parent s up (parent q)) where
  Ends : ℕ → Type 0
  Ends n = (p : ScopeId) → ends parent n p ≡ true → p.0 ≢ s.0 → ends other n p ≡ true

  to_up : (n : ℕ) (u : Option ScopeId) → parent s ≡ Some u → ends parent n s ≡ true → Ends n → ends_from (Some u) (ends other n) ≡ true
  unfolding Ends
  to_up n None e h k = refl
  to_up zero (Some t) e h k = absurd (true≢false (sym h))
  to_up (suc n) (Some t) e h k =
      k t (ends-le parent n (suc n) t (omega arith) (sym (ap (λ o. ends_from o (ends parent n)) e) ∙ h))
      (λ same. no_loop parent s (e ∙ (λ i. Some (Some (same_scope t s same i)))) (suc n) h)

  lifted_from : (n : ℕ) (o : Option (Option ScopeId)) → Ends n → ends_from o (ends parent n) ≡ true → ends_from (lifted_parent s up o) (ends other n) ≡ true
  unfolding Ends
  lifted_from n None k h = h
  lifted_from n (Some None) k h = h
  lifted_from n (Some (Some p)) k h = elim (nat_eq s.0 p.0) as (λ b. nat_eq s.0 p.0 ≡ b → ends_from (cond b (Some up) (Some (Some p))) (ends other n) ≡ true) [
    | true ↦ λ t. to_up n up was (ap (ends parent n) (same_scope s p ((Decides-eqb s.0 p.0).0 t)) ∙ h) k
    | false ↦ λ f. k p h (λ e. true≢false (sym ((Decides-eqb s.0 p.0).1 (sym e)) ∙ f))
  ] refl

  -- the scopes below it end where its parent does
  pub ends-lifted : (n : ℕ) (q : ScopeId) → ends parent n q ≡ true → q.0 ≢ s.0 → ends other n q ≡ true
  unfolding Ends
  ends-lifted zero q h apart = h
  ends-lifted (suc n) q h apart =
      ap (λ o. ends_from o (ends other n)) (elsewhere q apart)
      ∙ lifted_from n (parent q) (λ p e a. ends-lifted n p e a) h

-- ---- what a chain is made of

ancestors_at : (parent : Parents) (n : ℕ) (o : Option (Option ScopeId)) → ends_from o (ends parent n) ≡ true → or_none o (chain parent n) ≡ or_none o (chain parent (suc n))
ancestors_at parent n o h = chains o (ends parent n) (ends parent (suc n)) (chain parent n) (chain parent (suc n)) (λ p e f. chain-ends parent n (suc n) p e f) h (on_parent o (ends parent n) (ends parent (suc n)) (λ p. ends-le parent n (suc n) p (omega arith)) h)

-- a scope, and the chain of its parent
pub chain-parent : (parent : Parents) (n : ℕ) (s : ScopeId) → ends parent n s ≡ true → chain parent n s ≡ s ∷ or_none (parent s) (chain parent n)
chain-parent parent zero s h = absurd (true≢false (sym h))
chain-parent parent (suc n) s h = ap (λ l. s ∷ l) (ancestors_at parent n (parent s) h)

pub parent-ends : (parent : Parents) (n : ℕ) (s p : ScopeId) → parent s ≡ Some (Some p) → ends parent n s ≡ true → ends parent n p ≡ true
parent-ends parent zero s p e h = absurd (true≢false (sym h))
parent-ends parent (suc n) s p e h = ends-le parent n (suc n) p (omega arith) (sym (ap (λ o. ends_from o (ends parent n)) e) ∙ h)

chain-there_from : (parent : Parents) (n : ℕ) (P : ScopeId → Type 0) → (o : Option (Option ScopeId)) → ((p : ScopeId) → ends parent n p ≡ true → AllByRecursion P (chain parent n p)) → ends_from o (ends parent n) ≡ true → AllByRecursion P (or_none o (chain parent n))
chain-there_from parent n P None k h = tt
chain-there_from parent n P (Some None) k h = tt
chain-there_from parent n P (Some (Some p)) k h = k p h

-- each scope of the chain is of the table
pub chain-there : (parent : Parents) (P : ScopeId → Type 0) → ((s : ScopeId) → is_some (parent s) ≡ true → P s) → (n : ℕ) (s : ScopeId) → ends parent n s ≡ true → AllByRecursion P (chain parent n s)
chain-there parent P each zero s h = tt
chain-there parent P each (suc n) s h = (each s (ends-there parent (suc n) s h), chain-there_from parent n P (parent s) (λ p. chain-there parent P each n p) h)
