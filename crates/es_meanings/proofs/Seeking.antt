-- How far a search for an entry has come.
use Rattle.std.proofs.Common.{◌≡◌, refl, sym, ap, subst, ◌∙◌, ℕ, suc, List, [], ◌∷◌, drop, true, false, cond, Some, None, arith, Bor}
use Rattle.std.specs.Prelude.{nat_eq}
use Rattle.std.specs.List.{slice_get}
use Rattle.std.proofs.lemmas.Bool.Decides.{nat_tests}
use Rattle.es_by_number.specs.declared.numbered.Numbered.{Numbered}
use Rattle.es_entries.specs.Entered.{IsEntry}
use Rattle.es_entries.specs.declared.entry.Entry as code
use Rattle.es_meanings.proofs.Reaching.{at-drop, past-drop}
use Rattle.es_meanings.specs.Means.{AreEntries}
use Rattle.es_meanings.specs.Parts.{MayBe, entry_at}
use Rattle.es_steps.specs.Entries.{Entry}

abbrev Entries : Type 0
Entries = List (ℕ × Entry)

abbrev Found : Type 0
Found = List (Numbered code.Entry)

-- the one that is sought stands behind the first i, or nowhere
pub record Sought (n i : ℕ) (xs : Found) (es : Entries) : Type 0 where
  pub behind : Entries
  pub are : AreEntries (drop i xs) behind
  pub same : entry_at n es ≡ entry_at n behind

pub begun : (n : ℕ) (xs : Found) (es : Entries) → AreEntries xs es → Sought n 0 xs es
begun n xs es are = record { behind = es; are = are; same = refl }

here : (n : ℕ) (e : ℕ × Entry) (es : Entries) → n ≡ e.0 → entry_at n (e ∷ es) ≡ Some e.1
here n e es is =
    let same : nat_eq n e.0 ≡ true = grind (arith, nat_tests, is) in
    ap (λ b. cond b (Some e.1) (entry_at n es)) same

elsewhere : (n : ℕ) (e : ℕ × Entry) (es : Entries) → (n ≡ e.0 → ⊥) → entry_at n (e ∷ es) ≡ entry_at n es
elsewhere n e es other =
    let apart : nat_eq n e.0 ≡ false = grind (arith, nat_tests, other) in
    ap (λ b. cond b (Some e.1) (entry_at n es)) apart

module _ (n i : ℕ) (xs : Found) (es : Entries) where
  pub next : (x : Numbered code.Entry) → slice_get xs i ≡ Some x → (n ≡ x.number → ⊥) → Sought n i xs es → Sought n (suc i) xs es
  next x at other s = step s.behind (subst (λ l. AreEntries l s.behind) (at-drop xs i x at) s.are) s.same
    where
      step : (fs : Entries) → AreEntries (x ∷ drop (suc i) xs) fs → entry_at n es ≡ entry_at n fs → Sought n (suc i) xs es
      step [] are same = absurd are
      step (f ∷ fs) are same = record { behind = fs; are = are.1; same = same ∙ elsewhere n f fs (λ e. other (e ∙ sym are.0.0)) }

  pub found : (x : Numbered code.Entry) (v : Bor code.Entry) → slice_get xs i ≡ Some x → n ≡ x.number → v.now ≡ x.value → Sought n i xs es → MayBe (Some v) (entry_at n es)
  found x v at is value s = step s.behind (subst (λ l. AreEntries l s.behind) (at-drop xs i x at) s.are) s.same
    where
      step : (fs : Entries) → AreEntries (x ∷ drop (suc i) xs) fs → entry_at n es ≡ entry_at n fs → MayBe (Some v) (entry_at n es)
      step [] are same = absurd are
      step (f ∷ fs) are same = subst (λ o. MayBe (Some v) o) (sym (same ∙ here n f fs (is ∙ are.0.0))) (subst (λ y. IsEntry y f.1) (sym value) are.0.1)

  pub nowhere : slice_get xs i ≡ None → Sought n i xs es → MayBe None (entry_at n es)
  nowhere past s = step s.behind (subst (λ l. AreEntries l s.behind) (past-drop xs i past) s.are) s.same
    where
      step : (fs : Entries) → AreEntries [] fs → entry_at n es ≡ entry_at n fs → MayBe None (entry_at n es)
      step [] are same = subst (λ o. MayBe None o) (sym same) tt
      step (f ∷ fs) are same = absurd are
