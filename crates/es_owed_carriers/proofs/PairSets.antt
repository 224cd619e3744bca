-- A set of pairs holds what was added.
use Rattle.std.proofs.Common.{◌≡◌, refl, sym, ap, ◌∙◌, ℕ, ◌+◌, ◌<◌, ◌≤◌, List, [], ◌∷◌, ◌++◌, length, drop, get_or, Bool, true, false, cond, ◌&&◌, ◌||◌, nat_eq}
use Rattle.std.specs.List.{list_any}
use Rattle.std.proofs.lemmas.List.{at_drop_more, at_drop_all}
use Rattle.std.proofs.lemmas.Bool.{eqb-true}
use Rattle.std.proofs.Math.Bool.{or-false, or_assoc, or_comm}
use Rattle.es_node.proofs.Shapes.{left_of, right_of}
use Rattle.es_steps.specs.KeptNodes.{pair_stands}
use Rattle.indexmap.specs.IndexSet.{insert_key}
use Rattle.es_owed_carriers.specs.Pairs.{pair_of, pairs_of}
use Rattle.es_owed_carriers.specs.declared.pairs.Bound.{Bound}

-- whether it is this pair
abbrev pub is_pair : ℕ × ℕ → Bound → Bool
is_pair p b = nat_eq p.0 b.node && nat_eq p.1 b.around

pair_stands-append : (p : ℕ × ℕ) (bs cs : List Bound) → pair_stands p (pairs_of (bs ++ cs)) ≡ (pair_stands p (pairs_of bs) || pair_stands p (pairs_of cs))
pair_stands-append p [] cs = refl
pair_stands-append p (b ∷ bs) cs = ap (λ x. is_pair p b || x) (pair_stands-append p bs cs) ∙ sym (or_assoc (is_pair p b) (pair_stands p (pairs_of bs)) (pair_stands p (pairs_of cs)))

-- one that is there is not added again
there : (p : ℕ × ℕ) (b : Bound) (bs : List Bound) → pair_stands (pair_of b) (pairs_of bs) ≡ true → pair_stands p (pairs_of bs) ≡ (is_pair p b || pair_stands p (pairs_of bs))
there p b bs h = elim (is_pair p b) as (λ x. is_pair p b ≡ x → pair_stands p (pairs_of bs) ≡ (x || pair_stands p (pairs_of bs))) [
  | true ↦ λ t.
      ap (λ m. pair_stands (m, p.1) (pairs_of bs)) (eqb-true p.0 b.node (left_of (nat_eq p.0 b.node) (nat_eq p.1 b.around) t))
      ∙ ap (λ m. pair_stands (b.node, m) (pairs_of bs)) (eqb-true p.1 b.around (right_of (nat_eq p.0 b.node) (nat_eq p.1 b.around) t))
      ∙ h
  | false ↦ λ f. refl
] refl

module _ (eq : Bound → Bound → Bool) (same : (b c : Bound) → eq b c ≡ is_pair (pair_of b) c) where
  pub contained : (b : Bound) (bs : List Bound) → list_any (eq b) bs ≡ pair_stands (pair_of b) (pairs_of bs)
  contained b [] = refl
  contained b (c ∷ bs) = ap (λ x. x || list_any (eq b) bs) (same b c) ∙ ap (λ x. is_pair (pair_of b) c || x) (contained b bs)

  pub inserted : (p : ℕ × ℕ) (b : Bound) (bs : List Bound) → pair_stands p (pairs_of (insert_key eq bs b)) ≡ (is_pair p b || pair_stands p (pairs_of bs))
  inserted p b bs = elim (list_any (eq b) bs) as (λ x. list_any (eq b) bs ≡ x → pair_stands p (pairs_of (cond x bs (bs ++ b ∷ []))) ≡ (is_pair p b || pair_stands p (pairs_of bs))) [
    | true ↦ λ t. there p b bs (sym (contained b bs) ∙ t)
    | false ↦ λ f. pair_stands-append p bs (b ∷ []) ∙ ap (λ x. pair_stands p (pairs_of bs) || x) (or-false (is_pair p b)) ∙ or_comm (pair_stands p (pairs_of bs)) (is_pair p b)
  ] refl

pub next_pair : (p : ℕ × ℕ) (a b : Bool) (bs : List Bound) (i : ℕ) (d : Bound) → i < length bs → b ≡ (is_pair p (get_or bs i d) || a)
    → (b || pair_stands p (pairs_of (drop (i + 1) bs))) ≡ (a || pair_stands p (pairs_of (drop i bs)))
next_pair p a b bs i d below more =
    let rest = pair_stands p (pairs_of (drop (i + 1) bs)) in
    ap (λ x. x || rest) more
    ∙ ap (λ x. x || rest) (or_comm (is_pair p (get_or bs i d)) a)
    ∙ or_assoc a (is_pair p (get_or bs i d)) rest
    ∙ sym (at_drop_more (λ (xs : List Bound). a || pair_stands p (pairs_of xs)) bs i d below)

pub all_pairs : (p : ℕ × ℕ) (a b : Bool) (bs : List Bound) (i : ℕ) → length bs ≤ i → (a || pair_stands p (pairs_of (drop i bs))) ≡ b → a ≡ b
all_pairs p a b bs i over e = sym (or-false a) ∙ sym (at_drop_all (λ (xs : List Bound). a || pair_stands p (pairs_of xs)) bs i over) ∙ e
