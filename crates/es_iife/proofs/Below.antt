-- Scopes that get another parent.
use Rattle.std.proofs.Common.{◌≡◌, ◌≢◌, refl, sym, ap, subst, ◌∙◌, ℕ, zero, suc, ◌+◌, ◌<◌, List, [], ◌∷◌, ◌++◌, length, get_or, drop, drop-cons, add-one, Option, Some, None, ◌⊎◌, inl, inr, arith}
use Rattle.std.specs.Prelude.{is_some, option_map, Contains}
use Rattle.es_base.specs.declared.ids.ScopeId.{ScopeId}
use Rattle.es_iife.specs.ScopeBelow.{CanStandBelow, with_parents}
use Rattle.es_scopes.specs.Table.{Table, HasScope, below, chain, or_none, parents, new_scope, row_at, scope_at, with_new_scope, with_parent}
use Rattle.es_scopes.specs.declared.flags.ScopeFlags.{ScopeFlags}
use Rattle.es_scopes.specs.declared.table.Scope.{Scope}
use Rattle.es_scopes.proofs.RowLemmas.{is_some-option_map, same_or_other, within_from_row}
use Rattle.es_scopes.proofs.TableLemmas.{parents-push_last, part-changed, row_at-changed_other}
use Rattle.es_scopes.proofs.TreeLemmas.{Parents, same_scope}

contains_first : (q s : ScopeId) (qs : List ScopeId) → q ≡ s → Contains (q ∷ qs) s
contains_first q s qs e = (0, omega arith, e)

contains_later : (q s : ScopeId) (qs : List ScopeId) → Contains qs s → Contains (q ∷ qs) s
contains_later q s qs h = (suc h.0, omega (arith, h.1), h.2)

contains_cases : (q s : ScopeId) (qs : List ScopeId) → Contains (q ∷ qs) s → (q ≡ s) ⊎ Contains qs s
contains_cases q s qs (zero, lt, e) = inl e
contains_cases q s qs (suc i, lt, e) = inr (i, omega (arith, lt), e)

-- ---- another parent for a scope that is not above

kept_row : (t : Table) (s q : ScopeId) (p : Option ScopeId) → is_some (scope_at (with_parent t s p) q) ≡ is_some (scope_at t q)
kept_row t s q p = part-changed is_some (below p) s.0 t.scopes (is_some-option_map (below p)) q.0

pub kept_scope : (t new : Table) (s q : ScopeId) (p : Option ScopeId) → new ≡ with_parent t s p → HasScope t q → HasScope new q
kept_scope t new s q p is there = ap (λ u. is_some (scope_at u q)) is ∙ kept_row t s q p ∙ there

module _ (parent other : Parents) (s : ScopeId) (elsewhere : (q : ScopeId) → q.0 ≢ s.0 → other q ≡ parent q) where
  -- a chain without the scope stays
  chain-elsewhere_from : (n : ℕ) (o : Option (Option ScopeId)) → ((p : ScopeId) → (Contains (chain parent n p) s → ⊥) → chain other n p ≡ chain parent n p) → (Contains (or_none o (chain parent n)) s → ⊥) → or_none o (chain other n) ≡ or_none o (chain parent n)
  chain-elsewhere_from n None k apart = refl
  chain-elsewhere_from n (Some None) k apart = refl
  chain-elsewhere_from n (Some (Some p)) k apart = k p apart

  chain-elsewhere : (n : ℕ) (q : ScopeId) → (Contains (chain parent n q) s → ⊥) → chain other n q ≡ chain parent n q
  chain-elsewhere zero q apart = refl
  chain-elsewhere (suc n) q apart =
      let different : q.0 ≢ s.0 = λ e. apart (contains_first q s (or_none (parent q) (chain parent n)) (same_scope q s e)) in
      ap (λ o. q ∷ or_none o (chain other n)) (elsewhere q different)
      ∙ ap (λ l. q ∷ l) (chain-elsewhere_from n (parent q) (chain-elsewhere n) (λ h. apart (contains_later q s (or_none (parent q) (chain parent n)) h)))

parents-elsewhere : (t : Table) (s q : ScopeId) (p : Option ScopeId) → q.0 ≢ s.0 → parents (with_parent t s p).scopes q ≡ parents t.scopes q
parents-elsewhere t s q p other = ap (option_map (λ x. x.parent)) (row_at-changed_other (option_map (below p)) s.0 q.0 t.scopes other)

pub moved_apart : (t new : Table) (p moved s : ScopeId) → new ≡ with_parent t moved (Some p) → CanStandBelow t p moved → CanStandBelow t p s → CanStandBelow new p s
moved_apart t new p moved s is first it = record {
  there = kept_scope t new moved s (Some p) is it.there;
  apart = λ h. it.apart (h.0, subst (λ l. Contains l s) (same h.0) h.1);
}
  where
    same : (n : ℕ) → chain (parents new.scopes) n p ≡ chain (parents t.scopes) n p
    same n =
        ap (λ u. chain (parents u.scopes) n p) is
        ∙ chain-elsewhere (parents t.scopes) (parents (with_parent t moved (Some p)).scopes) moved (λ q other. parents-elsewhere t moved q (Some p) other) n p (λ h. first.apart (n, h))

-- one more of the scopes
pub moved_next : (p : ScopeId) (ss : List ScopeId) (i : ℕ) (d : ScopeId) (t new all : Table) → i < length ss → new ≡ with_parent t (get_or ss i d) (Some p) → with_parents p (drop i ss) t ≡ all → with_parents p (drop (i + 1) ss) new ≡ all
moved_next p ss i d t new all within is to_do =
    let first : drop i ss ≡ get_or ss i d ∷ drop (i + 1) ss = drop-cons ss i d within ∙ ap (λ (n : ℕ). get_or ss i d ∷ drop n ss) (sym (add-one i)) in
    ap (with_parents p (drop (i + 1) ss)) is ∙ sym (ap (λ l. with_parents p l t) first) ∙ to_do

-- ---- a new scope

module _ (parent other : Parents) (n around : ScopeId) (at : other n ≡ Some (Some around)) (elsewhere : (q : ScopeId) → q.0 ≢ n.0 → other q ≡ parent q) where
  -- what stands above by the new parents, but for the new scope, stood above before
  abbrev Above : ScopeId → ScopeId → Type 0
  Above q s = ((k : ℕ) × Contains (chain parent k q) s) ⊎ ((k : ℕ) × Contains (chain parent k around) s)

  through : (q s : ScopeId) (p : ScopeId) → parent q ≡ Some (Some p) → Above p s → Above q s
  through q s p e (inl h) = inl (suc h.0, subst (λ o. Contains (q ∷ or_none o (chain parent h.0)) s) (sym e) (contains_later q s (chain parent h.0 p) h.1))
  through q s p e (inr h) = inr h

  from_around : (q s : ScopeId) → Above around s → Above q s
  from_around q s (inl h) = inr h
  from_around q s (inr h) = inr h

  by_parent : (k : ℕ) (q s : ScopeId) (o : Option (Option ScopeId)) → ((p : ScopeId) → Contains (chain other k p) s → Above p s) → parent q ≡ o → Contains (or_none o (chain other k)) s → Above q s
  by_parent k q s None below e h = absurd (omega (arith, h.1))
  by_parent k q s (Some None) below e h = absurd (omega (arith, h.1))
  by_parent k q s (Some (Some p)) below e h = through q s p e (below p h)

  above_before : (k : ℕ) (q s : ScopeId) → n ≢ s → Contains (chain other k q) s → Above q s
  above_before zero q s apart h = absurd (omega (arith, h.1))
  above_before (suc k) q s apart h = elim (contains_cases q s (or_none (other q) (chain other k)) h) [
    | inl it ↦ first it
    | inr later ↦ elim (same_or_other q.0 n.0) [
      | inl same ↦ from_around q s (above_before k around s apart (subst (λ o. Contains (or_none o (chain other k)) s) (ap other (same_scope q n same) ∙ at) later))
      | inr different ↦ by_parent k q s (parent q) (λ p. above_before k p s apart) refl (subst (λ o. Contains (or_none o (chain other k)) s) (elsewhere q different) later)
    ]
  ]
    where
      first : q ≡ s → Above q s
      first it = inl (1, contains_first q s (or_none (parent q) (chain parent 0)) it)

  above_new : (k : ℕ) (s : ScopeId) → n ≢ s → Contains (chain other k n) s → Above around s
  above_new zero s apart h = absurd (omega (arith, h.1))
  above_new (suc k) s apart h = elim (contains_cases n s (or_none (other n) (chain other k)) h) [
    | inl it ↦ absurd (apart it)
    | inr later ↦ above_before k around s apart (subst (λ o. Contains (or_none o (chain other k)) s) at later)
  ]

push_elsewhere : (rows : List (Option Scope)) (x : Option Scope) (i : ℕ) → i ≢ length rows → row_at (rows ++ x ∷ []) i ≡ row_at rows i
push_elsewhere [] x zero other = absurd (other refl)
push_elsewhere [] x (suc i) other = refl
push_elsewhere (w ∷ rows) x zero other = refl
push_elsewhere (w ∷ rows) x (suc i) other = push_elsewhere rows x i (λ e. other (ap suc e))

pub new_apart : (t new : Table) (around n s : ScopeId) (f : ScopeFlags) → new ≡ with_new_scope t (Some around) f → n.0 ≡ length t.scopes → CanStandBelow t around s → CanStandBelow new n s
new_apart t new around n s f is last it = record {
  there = ap (λ u. is_some (scope_at u s)) is ∙ ap is_some (push_elsewhere t.scopes (Some row) s.0 within) ∙ it.there;
  apart = λ h. not_above (above_new (parents t.scopes) (parents added) n around (parents-push_last t.scopes row n last) elsewhere h.0 s different (subst (λ u. Contains (chain (parents u.scopes) h.0 n) s) is h.1));
}
  where
    row : Scope
    row = new_scope (Some around) f

    added : List (Option Scope)
    added = t.scopes ++ Some row ∷ []

    within : s.0 ≢ length t.scopes
    within e = let below : s.0 < length t.scopes = within_from_row t.scopes s.0 it.there in omega (arith, e)

    different : n ≢ s
    different e = within (sym (ap (λ q. q.0) e) ∙ last)

    elsewhere : (q : ScopeId) → q.0 ≢ n.0 → parents added q ≡ parents t.scopes q
    elsewhere q other = ap (option_map (λ x. x.parent)) (push_elsewhere t.scopes (Some row) q.0 (λ e. other (e ∙ sym last)))

    not_above : Above (parents t.scopes) (parents added) n around (parents-push_last t.scopes row n last) elsewhere around s → ⊥
    not_above (inl h) = it.apart h
    not_above (inr h) = it.apart h
