-- A list is arranged where the references to its items are.
use Rattle.std.proofs.Common.{◌≡◌, refl, sym, ap, ap₂, ◌∙◌, subst, ◌+◌, ◌<◌, List, [], ◌∷◌, map, length, Bool, true, false, cond, is_lt, IsPermutation, IsSorted, filter, Bor, arith}
use Rattle.std.specs.List.Sorted.{IsSortedBy, IsStable, IsStableBy, ties}
use Rattle.std.specs.Cmp.{IsTotalOrder, on_total, then_total, nat_cmp_total}
use Rattle.std.specs.Cmp.Lexicographic.{nat_list_cmp_total}
use Rattle.std.specs.declared.cmp.Ordering.{Ordering}
use Rattle.std.specs.Str.{encode_utf8_all}
use Rattle.std.proofs.lemmas.List.{length-map, get_or-map}
use Rattle.std.proofs.lemmas.List.Sorted.{IsPermutation-map}
use Rattle.es_base.specs.declared.ledger.LedgerEntry.{LedgerEntry}
use Rattle.es_writing.specs.Lowered.{IsArranged, entry_cmp, number_in, written_name}

pub entry_cmp_total : IsTotalOrder entry_cmp
entry_cmp_total = then_total (on_total (λ (e : LedgerEntry). encode_utf8_all (written_name e)) nat_list_cmp_total) (on_total (λ (e : LedgerEntry). number_in e.kind) nat_cmp_total)

module _ {X : Type 0} where
  abbrev pub item : Bor X → X
  item x = x.now

  abbrev shown : X → Bor X
  shown x = record { ref_ptr = (0, 0); now = x }

  one_more : (b : Bool) (x : Bor X) (xs : List X) (ys : List (Bor X)) → xs ≡ map item ys → cond b (item x ∷ xs) xs ≡ map item (cond b (x ∷ ys) ys)
  one_more true x xs ys is = ap (λ (l : List X). item x ∷ l) is
  one_more false x xs ys is = is

  filter-items : (p : X → Bool) (xs : List (Bor X)) → filter p (map item xs) ≡ map item (filter (λ x. p x.now) xs)
  filter-items p [] = refl
  filter-items p (x ∷ xs) = one_more (p x.now) x _ _ (filter-items p xs)

  module _ (cmp : X → X → Ordering) where
    abbrev pub below : Bor X → Bor X → Bool
    below x y = is_lt (cmp x.now y.now)

    items_sorted : (xs : List (Bor X)) → IsSortedBy below xs → IsSorted cmp (map item xs)
    items_sorted xs up k d from to =
        let long : k + 1 < length xs = omega (arith, length-map xs item) in
        ap is_lt (ap₂ cmp (get_or-map item xs (k + 1) (shown d) d long) (get_or-map item xs k (shown d) d (omega arith))) ∙ up k (shown d) from long

    items_stable : (xs ys : List (Bor X)) → IsStableBy below xs ys → IsStable cmp (map item xs) (map item ys)
    items_stable xs ys kept x = filter-items (ties (λ y z. is_lt (cmp y z)) x) ys ∙ ap (map item) (kept (shown x)) ∙ sym (filter-items (ties (λ y z. is_lt (cmp y z)) x) xs)

    pub items_arranged : (before : List X) (xs ys : List (Bor X)) → map item xs ≡ before → IsPermutation xs ys → IsSortedBy below ys → IsStableBy below xs ys → IsArranged cmp before (map item ys)
    items_arranged before xs ys is same up kept = subst (λ (l : List X). IsArranged cmp l (map item ys)) is (record { same = IsPermutation-map item xs ys same; sorted = items_sorted ys up; stable = items_stable xs ys kept })
