-- A set of numbers holds what was added.
use Rattle.std.proofs.Common.{◌≡◌, refl, sym, ap, ◌∙◌, ℕ, ◌+◌, ◌<◌, ◌≤◌, List, [], ◌∷◌, ◌++◌, map, length, drop, get_or, Bool, true, false, cond, ◌||◌, nat_eq, is_some, Option, Some}
use Rattle.std.specs.List.{list_any}
use Rattle.std.specs.Map.{keys_of}
use Rattle.std.proofs.lemmas.Map.Made.{is_some-lookup}
use Rattle.std.proofs.lemmas.List.{at_drop_more, at_drop_all}
use Rattle.std.proofs.lemmas.Bool.{eqb-true}
use Rattle.es_base.specs.declared.ids.NodeId.{NodeId}
use Rattle.es_steps.specs.References.{has_number}
use Rattle.indexmap.specs.IndexSet.{insert_key}
use Rattle.number_map.specs.Entries.{value_at}

pub contained : (n : ℕ) (ks : List ℕ) → list_any (nat_eq n) ks ≡ has_number n ks
contained n [] = refl
contained n (k ∷ ks) = ap (λ b. nat_eq n k || b) (contained n ks)

pub has_number-append : (n : ℕ) (ks ls : List ℕ) → has_number n (ks ++ ls) ≡ (has_number n ks || has_number n ls)
has_number-append n [] ls = refl
has_number-append n (k ∷ ks) ls = ap (λ b. nat_eq n k || b) (has_number-append n ks ls) ∙ regrouped (nat_eq n k) (has_number n ks) (has_number n ls)
  where
    regrouped : (a b c : Bool) → (a || (b || c)) ≡ ((a || b) || c)
    regrouped true b c = refl
    regrouped false b c = refl

or_swapped : (a b : Bool) → (a || (b || false)) ≡ (b || a)
or_swapped true true = refl
or_swapped true false = refl
or_swapped false true = refl
or_swapped false false = refl

-- one that is there is not added again
there : (n k : ℕ) (ks : List ℕ) → has_number k ks ≡ true → has_number n ks ≡ (nat_eq n k || has_number n ks)
there n k ks h = elim (nat_eq n k) as (λ b. nat_eq n k ≡ b → has_number n ks ≡ (b || has_number n ks)) [
  | true ↦ λ t. ap (λ m. has_number m ks) (eqb-true n k t) ∙ h
  | false ↦ λ f. refl
] refl

pub inserted : (n k : ℕ) (ks : List ℕ) → has_number n (insert_key nat_eq ks k) ≡ (nat_eq n k || has_number n ks)
inserted n k ks = elim (has_number k ks) as (λ b. has_number k ks ≡ b → has_number n (cond b ks (ks ++ k ∷ [])) ≡ (nat_eq n k || has_number n ks)) [
  | true ↦ λ t. there n k ks t
  | false ↦ λ f. has_number-append n ks (k ∷ []) ∙ or_swapped (has_number n ks) (nat_eq n k)
] refl

-- the numbers of a map are those that have values
pub has_number-keys : {V : Type 0} (n : ℕ) (m : List (ℕ × V)) → has_number n (keys_of m) ≡ is_some (value_at n m)
has_number-keys n m = sym (contained n (keys_of m)) ∙ sym (is_some-lookup (nat_eq n) m)

pub has_number-more : {V : Type 0} (n k : ℕ) (v : V) (old new : List (ℕ × V)) → value_at n new ≡ cond (nat_eq n k) (Some v) (value_at n old) → has_number n (keys_of new) ≡ (nat_eq n k || has_number n (keys_of old))
has_number-more {V} n k v old new more = has_number-keys n new ∙ ap is_some more ∙ either (nat_eq n k) (value_at n old) ∙ ap (λ b. nat_eq n k || b) (sym (has_number-keys n old))
  where
    either : (b : Bool) (o : Option V) → is_some (cond b (Some v) o) ≡ (b || is_some o)
    either true o = refl
    either false o = refl

moved : (a b c : Bool) → ((a || b) || c) ≡ (b || (a || c))
moved true true c = refl
moved true false c = refl
moved false b c = refl

pub next_number : (n : ℕ) (a b : Bool) (ns : List NodeId) (i : ℕ) (d : NodeId) → i < length ns → b ≡ (nat_eq n (get_or ns i d).0 || a)
    → (b || has_number n (map (λ (y : NodeId). y.0) (drop (i + 1) ns))) ≡ (a || has_number n (map (λ (y : NodeId). y.0) (drop i ns)))
next_number n a b ns i d below more =
    let rest = has_number n (map (λ (y : NodeId). y.0) (drop (i + 1) ns)) in
    ap (λ c. c || rest) more
    ∙ moved (nat_eq n (get_or ns i d).0) a rest
    ∙ sym (at_drop_more (λ (xs : List NodeId). a || has_number n (map (λ (y : NodeId). y.0) xs)) ns i d below)

or_nothing : (a b : Bool) → (a || false) ≡ b → a ≡ b
or_nothing true b e = e
or_nothing false b e = e

pub all_numbers : (n : ℕ) (a b : Bool) (ns : List NodeId) (i : ℕ) → length ns ≤ i → (a || has_number n (map (λ (y : NodeId). y.0) (drop i ns))) ≡ b → a ≡ b
all_numbers n a b ns i over e = or_nothing a b (sym (at_drop_all (λ (xs : List NodeId). a || has_number n (map (λ (y : NodeId). y.0) xs)) ns i over) ∙ e)
