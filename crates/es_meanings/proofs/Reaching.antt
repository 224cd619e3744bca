-- How far a comparison of entries has come.
use Rattle.std.proofs.Common.{◌≡◌, refl, ap, ap₂, subst, ℕ, zero, suc, List, [], ◌∷◌, drop, Bool, true, false, Option, Some, None}
use Rattle.std.specs.List.{slice_get}
use Rattle.std.specs.Prelude.{◌↔◌, IsTrue}
use Rattle.es_by_number.specs.declared.numbered.Numbered.{Numbered}
use Rattle.es_entries.specs.Entered.{IsEntry}
use Rattle.es_entries.specs.declared.entry.Entry.{Entry}
use Rattle.es_meanings.specs.Differences.{Compared, least}
use Rattle.es_meanings.specs.Means.{AreEntries}
use Rattle.es_steps.specs.Entries as spec

abbrev Entries : Type 0
Entries = List (ℕ × spec.Entry)

abbrev Found : Type 0
Found = List (Numbered Entry)

-- what is found behind the first i says what is found of all
pub record Reached (i : ℕ) (left right : Found) (es gs : Entries) : Type 0 where
  pub es_behind : Entries
  pub gs_behind : Entries
  pub left_are : AreEntries (drop i left) es_behind
  pub right_are : AreEntries (drop i right) gs_behind
  pub back : (r : Option ℕ) → Compared r es_behind gs_behind → Compared r es gs

pub begun : (left right : Found) (es gs : Entries) → AreEntries left es → AreEntries right gs → Reached 0 left right es gs
begun left right es gs l r = record { es_behind = es; gs_behind = gs; left_are = l; right_are = r; back = λ o h. h }

both-more : (p : ℕ × spec.Entry) (r : Option ℕ) (es gs : Entries) → Compared r es gs → Compared r (p ∷ es) (p ∷ gs)
both-more p None es gs h = ap (λ (l : Entries). p ∷ l) h
both-more p (Some n) es gs h = record {
  front = p ∷ h.front;
  left = h.left;
  right = h.right;
  left_is = ap (λ (l : Entries). p ∷ l) h.left_is;
  right_is = ap (λ (l : Entries). p ∷ l) h.right_is;
  differ = h.differ;
}

-- an element, and what is behind it
pub at-drop : {A : Type 0} (xs : List A) (i : ℕ) (x : A) → slice_get xs i ≡ Some x → drop i xs ≡ x ∷ drop (suc i) xs
at-drop [] i x e = cc
at-drop (y ∷ ys) zero x e = cc
at-drop (y ∷ ys) (suc i) x e = at-drop ys i x e

pub past-drop : {A : Type 0} (xs : List A) (i : ℕ) → slice_get xs i ≡ None → drop i xs ≡ []
past-drop [] zero e = refl
past-drop [] (suc i) e = refl
past-drop (y ∷ ys) zero e = cc
past-drop (y ∷ ys) (suc i) e = past-drop ys i e

-- what is found of the entries at one place
abbrev pub Tells : Numbered Entry → Numbered Entry → Bool → Type 0
Tells x y same = (e g : ℕ × spec.Entry) → x.number ≡ e.0 → IsEntry x.value e.1 → y.number ≡ g.0 → IsEntry y.value g.1 → IsTrue same ↔ (e ≡ g)

module _ (i : ℕ) (left right : Found) (es gs : Entries) where
  pub more : (x y : Numbered Entry) (same : Bool) → slice_get left i ≡ Some x → slice_get right i ≡ Some y → Tells x y same → same ≡ true → Reached i left right es gs → Reached (suc i) left right es gs
  more x y same at_left at_right tells t r = step r.es_behind r.gs_behind (subst (λ l. AreEntries l r.es_behind) (at-drop left i x at_left) r.left_are) (subst (λ l. AreEntries l r.gs_behind) (at-drop right i y at_right) r.right_are) r.back
    where
      step : (fs hs : Entries) → AreEntries (x ∷ drop (suc i) left) fs → AreEntries (y ∷ drop (suc i) right) hs → ((o : Option ℕ) → Compared o fs hs → Compared o es gs) → Reached (suc i) left right es gs
      step [] hs l q back = absurd l
      step (f ∷ fs) [] l q back = absurd q
      step (f ∷ fs) (h ∷ hs) l q back =
          let one : f ≡ h = (tells f h l.0.0 l.0.1 q.0.0 q.0.1).0 t in
          record {
            es_behind = fs;
            gs_behind = hs;
            left_are = l.1;
            right_are = q.1;
            back = λ o c. back o (subst (λ z. Compared o (f ∷ fs) (z ∷ hs)) one (both-more f o fs hs c));
          }

  pub others : (x y : Numbered Entry) (same : Bool) → slice_get left i ≡ Some x → slice_get right i ≡ Some y → Tells x y same → same ≡ false → Reached i left right es gs → Compared (Some (least x.number y.number)) es gs
  others x y same at_left at_right tells f r = step r.es_behind r.gs_behind (subst (λ l. AreEntries l r.es_behind) (at-drop left i x at_left) r.left_are) (subst (λ l. AreEntries l r.gs_behind) (at-drop right i y at_right) r.right_are) r.back
    where
      apart : (a b : ℕ × spec.Entry) → IsTrue same ↔ (a ≡ b) → a ≡ b → ⊥
      apart a b decides e = let t : same ≡ true = decides.1 e in cc

      step : (fs hs : Entries) → AreEntries (x ∷ drop (suc i) left) fs → AreEntries (y ∷ drop (suc i) right) hs → ((o : Option ℕ) → Compared o fs hs → Compared o es gs) → Compared (Some (least x.number y.number)) es gs
      step [] hs l q back = absurd l
      step (a ∷ ds) [] l q back = absurd q
      step (a ∷ ds) (b ∷ bs) l q back = back (Some (least x.number y.number)) (record {
        front = [];
        left = a ∷ ds;
        right = b ∷ bs;
        left_is = refl;
        right_is = refl;
        differ = (apart a b (tells a b l.0.0 l.0.1 q.0.0 q.0.1), ap₂ least l.0.0 q.0.0);
      })

  pub more_left : (x : Numbered Entry) → slice_get left i ≡ Some x → slice_get right i ≡ None → Reached i left right es gs → Compared (Some x.number) es gs
  more_left x at_left at_right r = step r.es_behind r.gs_behind (subst (λ l. AreEntries l r.es_behind) (at-drop left i x at_left) r.left_are) (subst (λ l. AreEntries l r.gs_behind) (past-drop right i at_right) r.right_are) r.back
    where
      step : (fs hs : Entries) → AreEntries (x ∷ drop (suc i) left) fs → AreEntries [] hs → ((o : Option ℕ) → Compared o fs hs → Compared o es gs) → Compared (Some x.number) es gs
      step [] hs l q back = absurd l
      step (a ∷ ds) [] l q back = back (Some x.number) (record { front = []; left = a ∷ ds; right = []; left_is = refl; right_is = refl; differ = l.0.0 })
      step (a ∷ ds) (b ∷ bs) l q back = absurd q

  pub more_right : (y : Numbered Entry) → slice_get left i ≡ None → slice_get right i ≡ Some y → Reached i left right es gs → Compared (Some y.number) es gs
  more_right y at_left at_right r = step r.es_behind r.gs_behind (subst (λ l. AreEntries l r.es_behind) (past-drop left i at_left) r.left_are) (subst (λ l. AreEntries l r.gs_behind) (at-drop right i y at_right) r.right_are) r.back
    where
      step : (fs hs : Entries) → AreEntries [] fs → AreEntries (y ∷ drop (suc i) right) hs → ((o : Option ℕ) → Compared o fs hs → Compared o es gs) → Compared (Some y.number) es gs
      step [] [] l q back = absurd q
      step [] (b ∷ bs) l q back = back (Some y.number) (record { front = []; left = []; right = b ∷ bs; left_is = refl; right_is = refl; differ = q.0.0 })
      step (a ∷ ds) hs l q back = absurd l

  pub both_end : slice_get left i ≡ None → slice_get right i ≡ None → Reached i left right es gs → Compared None es gs
  both_end at_left at_right r = step r.es_behind r.gs_behind (subst (λ l. AreEntries l r.es_behind) (past-drop left i at_left) r.left_are) (subst (λ l. AreEntries l r.gs_behind) (past-drop right i at_right) r.right_are) r.back
    where
      step : (fs hs : Entries) → AreEntries [] fs → AreEntries [] hs → ((o : Option ℕ) → Compared o fs hs → Compared o es gs) → Compared None es gs
      step [] [] l q back = back None refl
      step [] (b ∷ bs) l q back = absurd q
      step (a ∷ ds) hs l q back = absurd l
