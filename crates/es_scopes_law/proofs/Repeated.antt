-- Names that are declared twice, by `repeated` and by weight.
use Rattle.std.proofs.Common.{◌≡◌, refl, sym, ap, ◌∙◌, ℕ, ◌≤◌, ◌⊎◌, inl, inr, List, [], ◌∷◌, ◌++◌, nat_eq, Bool, true, false, true≢false, cond, ◌||◌, arith}
use Rattle.std.specs.Prelude.{bytes_eq}
use Rattle.std.proofs.lemmas.Bool.Decides.{Decides-eqb}
use Rattle.std.proofs.lemmas.Slice.Eq.{bytes_eq-Decides}
use Rattle.es_base.specs.Preorder.{one_if}
use Rattle.es_base.specs.Tree.{Tree}
use Rattle.es_scopes.specs.Held.{weight}
use Rattle.es_scopes_law.proofs.Lists.{In}
use Rattle.es_steps.specs.References.{has_number, is_declared, repeated, written_by, written_by_all}
use Rattle.es_steps.specs.Scopes.{Declaration}

abbrev pub spell : List ℕ → ℕ → List ℕ → ℕ
spell x m name = one_if (bytes_eq x name)

pub number-append : (n : ℕ) (xs ys : List ℕ) → has_number n (xs ++ ys) ≡ (has_number n xs || has_number n ys)
number-append n [] ys = refl
number-append n (x ∷ xs) ys = ap (λ b. nat_eq n x || b) (number-append n xs ys) ∙ sym (assoc (nat_eq n x) (has_number n xs) (has_number n ys))
  where
    assoc : (a b c : Bool) → ((a || b) || c) ≡ (a || (b || c))
    assoc true b c = refl
    assoc false b c = refl

pub or-cases : (a b : Bool) → (a || b) ≡ true → (a ≡ true) ⊎ (b ≡ true)
or-cases true b h = inl refl
or-cases false b h = inr h

pub or-left : (a b : Bool) → a ≡ true → (a || b) ≡ true
or-left true b h = refl
or-left false b h = absurd (true≢false (sym h))

pub or-right : (a b : Bool) → b ≡ true → (a || b) ≡ true
or-right true b h = refl
or-right false b h = h

declared-weight : (x : List ℕ) (ds : List Declaration) → is_declared x ds ≡ true → 1 ≤ weight (spell x) ds
declared-weight x [] h = absurd (true≢false (sym h))
declared-weight x (d ∷ ds) h = elim (or-cases (bytes_eq x d.spelling) (is_declared x ds) h) [
  | inl here ↦ omega (arith, ap one_if here)
  | inr later ↦ let k = declared-weight x ds later in omega arith
]

weight-declared : (x : List ℕ) (ds : List Declaration) → 1 ≤ weight (spell x) ds → is_declared x ds ≡ true
weight-declared x [] h = absurd (omega arith)
weight-declared x (d ∷ ds) h = by (bytes_eq x d.spelling) refl (weight-declared x ds)
  where
    by : (b : Bool) → bytes_eq x d.spelling ≡ b → (1 ≤ weight (spell x) ds → is_declared x ds ≡ true) → is_declared x (d ∷ ds) ≡ true
    by true e rest = or-left (bytes_eq x d.spelling) (is_declared x ds) e
    by false e rest = or-right (bytes_eq x d.spelling) (is_declared x ds) (rest (omega (arith, ap one_if e)))

pub record Twice (n : ℕ) (ds : List Declaration) : Type 0 where
  pub declaration : Declaration
  pub among : In declaration ds
  pub number : declaration.number ≡ n
  pub twice : 2 ≤ weight (spell declaration.spelling) ds

later : (n : ℕ) (d : Declaration) (ds : List Declaration) → Twice n ds → Twice n (d ∷ ds)
later n d ds k = record { declaration = k.declaration; among = inr k.among; number = k.number; twice = let t = k.twice in omega arith }

pub repeated-twice : (n : ℕ) (ds : List Declaration) → has_number n (repeated ds) ≡ true → Twice n ds
repeated-twice n [] h = absurd (true≢false (sym h))
repeated-twice n (d ∷ ds) h = by (is_declared d.spelling ds) refl (repeated-twice n ds) h
  where
    own : bytes_eq d.spelling d.spelling ≡ true
    own = (bytes_eq-Decides d.spelling d.spelling).1 refl

    here : nat_eq n d.number ≡ true → is_declared d.spelling ds ≡ true → Twice n (d ∷ ds)
    here e declared = record { declaration = d; among = inl refl; number = sym ((Decides-eqb n d.number).0 e); twice = let k = declared-weight d.spelling ds declared in omega (arith, ap one_if own) }

    by : (b : Bool) → is_declared d.spelling ds ≡ b → (has_number n (repeated ds) ≡ true → Twice n ds) → has_number n (cond b (d.number ∷ []) [] ++ repeated ds) ≡ true → Twice n (d ∷ ds)
    by true e rest h = elim (or-cases (nat_eq n d.number) (has_number n (repeated ds)) h) [
      | inl k ↦ here k e
      | inr k ↦ later n d ds (rest k)
    ]
    by false e rest h = later n d ds (rest h)

pub record Repeats (x : List ℕ) (ds : List Declaration) : Type 0 where
  pub declaration : Declaration
  pub among : In declaration ds
  pub spelling : declaration.spelling ≡ x
  pub has : has_number declaration.number (repeated ds) ≡ true

pub twice-repeated : (x : List ℕ) (ds : List Declaration) → 2 ≤ weight (spell x) ds → Repeats x ds
twice-repeated x [] h = absurd (omega arith)
twice-repeated x (d ∷ ds) h = by (bytes_eq x d.spelling) refl (twice-repeated x ds)
  where
    by : (b : Bool) → bytes_eq x d.spelling ≡ b → (2 ≤ weight (spell x) ds → Repeats x ds) → Repeats x (d ∷ ds)
    by true e rest =
        let same : x ≡ d.spelling = (bytes_eq-Decides x d.spelling).0 e in
        let declared : is_declared d.spelling ds ≡ true = ap (λ z. is_declared z ds) (sym same) ∙ weight-declared x ds (omega (arith, ap one_if e)) in
        record {
          declaration = d;
          among = inl refl;
          spelling = sym same;
          has = ap (λ b. has_number d.number (cond b (d.number ∷ []) [] ++ repeated ds)) declared ∙ or-left (nat_eq d.number d.number) (has_number d.number (repeated ds)) ((Decides-eqb d.number d.number).1 refl);
        }
    by false e rest =
        let k = rest (omega (arith, ap one_if e)) in
        record {
          declaration = k.declaration;
          among = inr k.among;
          spelling = k.spelling;
          has = number-append k.declaration.number (cond (is_declared d.spelling ds) (d.number ∷ []) []) (repeated ds) ∙ or-right (has_number k.declaration.number (cond (is_declared d.spelling ds) (d.number ∷ []) [])) (has_number k.declaration.number (repeated ds)) k.has;
        }

-- ---- what nodes write by themselves

pub written-in : (n : ℕ) (x : Tree) (ts : List Tree) → In x ts → has_number n (written_by x) ≡ true → has_number n (written_by_all ts) ≡ true
written-in n x [] h k = absurd h
written-in n x (t ∷ ts) (inl e) k = number-append n (written_by t) (written_by_all ts) ∙ or-left (has_number n (written_by t)) (has_number n (written_by_all ts)) (ap (λ (z : Tree). has_number n (written_by z)) e ∙ k)
written-in n x (t ∷ ts) (inr h) k = number-append n (written_by t) (written_by_all ts) ∙ or-right (has_number n (written_by t)) (has_number n (written_by_all ts)) (written-in n x ts h k)

pub in-written : (n : ℕ) (ts : List Tree) → has_number n (written_by_all ts) ≡ true → (x : Tree) × (In x ts) × (has_number n (written_by x) ≡ true)
in-written n [] h = absurd (true≢false (sym h))
in-written n (t ∷ ts) h = elim (or-cases (has_number n (written_by t)) (has_number n (written_by_all ts)) (sym (number-append n (written_by t) (written_by_all ts)) ∙ h)) [
  | inl k ↦ (t, inl refl, k)
  | inr k ↦ let rest = in-written n ts k in (rest.0, inr rest.1, rest.2)
]
