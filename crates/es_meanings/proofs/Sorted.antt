-- Entries that are sorted by number are those of the definitions, sorted.
use Rattle.std.proofs.Common.{◌≡◌, sym, ap₂, subst, ℕ, List, [], ◌∷◌, true, false, cond, nat_le}
use Rattle.es_by_number.specs.Numbered.{pairs}
use Rattle.es_by_number.specs.declared.numbered.Numbered.{Numbered}
use Rattle.es_entries.specs.Entered.{IsEntry}
use Rattle.es_entries.specs.declared.entry.Entry.{Entry}
use Rattle.es_meanings.specs.Means.{AreEntries}
use Rattle.es_steps.specs.Entries as spec
use Rattle.es_steps.specs.Meaning.{by_number, inserted}

abbrev Found : Type 0
Found = List (ℕ × Entry)

abbrev Entries : Type 0
Entries = List (ℕ × spec.Entry)

-- the same of numbers with values
abbrev Are : Found → Entries → Type 0
Are [] [] = Unit {0}
Are (x ∷ xs) (e ∷ es) = ((x.0 ≡ e.0) × IsEntry x.1 e.1) × Are xs es
Are xs es = ⊥

paired : (xs : List (Numbered Entry)) (es : Entries) → AreEntries xs es → Are (pairs xs) es
paired [] [] h = tt
paired [] (e ∷ es) h = absurd h
paired (x ∷ xs) [] h = absurd h
paired (x ∷ xs) (e ∷ es) h = (h.0, paired xs es h.1)

unpaired : (xs : List (Numbered Entry)) (es : Entries) → Are (pairs xs) es → AreEntries xs es
unpaired [] [] h = tt
unpaired [] (e ∷ es) h = absurd h
unpaired (x ∷ xs) [] h = absurd h
unpaired (x ∷ xs) (e ∷ es) h = (h.0, unpaired xs es h.1)

one_insertion : (x : ℕ × Entry) (e : ℕ × spec.Entry) (xs : Found) (es : Entries) → (x.0 ≡ e.0) × IsEntry x.1 e.1 → Are xs es → Are (inserted x xs) (inserted e es)
one_insertion x e [] [] h are = (h, tt)
one_insertion x e [] (f ∷ es) h are = absurd are
one_insertion x e (y ∷ xs) [] h are = absurd are
one_insertion x e (y ∷ xs) (f ∷ es) h are =
    let tests : nat_le x.0 y.0 ≡ nat_le e.0 f.0 = ap₂ nat_le h.0 are.0.0 in
    subst (λ b. Are (inserted x (y ∷ xs)) (cond b (e ∷ f ∷ es) (f ∷ inserted e es))) tests (elim (nat_le x.0 y.0) as (λ b. Are (cond b (x ∷ y ∷ xs) (y ∷ inserted x xs)) (cond b (e ∷ f ∷ es) (f ∷ inserted e es))) [
      | true ↦ (h, are)
      | false ↦ (are.0, one_insertion x e xs es h are.1)
    ])

sorted_alike : (xs : Found) (es : Entries) → Are xs es → Are (by_number xs) (by_number es)
sorted_alike [] [] h = tt
sorted_alike [] (e ∷ es) h = absurd h
sorted_alike (x ∷ xs) [] h = absurd h
sorted_alike (x ∷ xs) (e ∷ es) h = one_insertion x e (by_number xs) (by_number es) h.0 (sorted_alike xs es h.1)

pub sorted_entries : (xs ys : List (Numbered Entry)) (es : Entries) → AreEntries xs es → pairs ys ≡ by_number (pairs xs) → AreEntries ys (by_number es)
sorted_entries xs ys es are sorted = unpaired ys (by_number es) (subst (λ (l : Found). Are l (by_number es)) (sym sorted) (sorted_alike (pairs xs) es (paired xs es are)))
