-- The last of a list.
use Rattle.std.proofs.Common.{◌≡◌, refl, sym, ap, ◌∙◌, ℕ, zero, suc, ◌+◌, ◌-◌, List, [], ◌∷◌, length, Some, None, true, arith}
use Rattle.std.specs.List.{slice_get, remove}
use Rattle.es_base.specs.Tree.{Part}
use Rattle.es_ctx.specs.Ancestors.{innermost_or, innermost_kind}
use Rattle.es_ctx.specs.Stores.{front, placed, filled}
use Rattle.es_ctx.specs.declared.ancestor.Ancestor.{Ancestor}
use Rattle.es_ctx.specs.declared.ancestor_kind.AncestorKind.{AncestorKind}
use Rattle.es_ctx.specs.declared.stores.OpenList.{OpenList}

pub front_removed : {X : Type 0} (xs : List X) (at : ℕ) → at + 1 ≡ length xs → remove xs at ≡ front xs
front_removed [] at last = absurd (omega arith)
front_removed (x ∷ []) zero last = refl
front_removed (x ∷ []) (suc at) last = absurd (omega arith)
front_removed (x ∷ y ∷ xs) zero last = absurd (omega arith)
front_removed (x ∷ y ∷ xs) (suc at) last = let below : at + 1 ≡ length (y ∷ xs) = omega arith in ap (λ zs. x ∷ zs) (front_removed (y ∷ xs) at below)

pub front_empty : {X : Type 0} (xs : List X) → xs ≡ [] → xs ≡ front xs
front_empty [] is = refl
front_empty (x ∷ xs) is = absurd (cc is)

pub filled_last : (ls : List OpenList) (l : OpenList) (p : Part) (at : ℕ) → at + 1 ≡ length ls → slice_get ls at ≡ Some l → placed l p ≡ filled true ls p
filled_last [] l p at last is = absurd (omega arith)
filled_last (k ∷ []) l p zero last is = let same : k ≡ l = cc is in ap (λ m. placed m p) (sym same)
filled_last (k ∷ []) l p (suc at) last is = absurd (omega arith)
filled_last (k ∷ m ∷ ls) l p zero last is = absurd (omega arith)
filled_last (k ∷ m ∷ ls) l p (suc at) last is = let below : at + 1 ≡ length (m ∷ ls) = omega arith in filled_last (m ∷ ls) l p at below is

-- ---- the innermost place

last-on : (x y : Ancestor) (xs : List Ancestor) → slice_get (x ∷ y ∷ xs) (length (x ∷ y ∷ xs) - 1) ≡ slice_get (y ∷ xs) (length (y ∷ xs) - 1)
last-on x y xs =
    let e : length (x ∷ y ∷ xs) - 1 ≡ suc (length (y ∷ xs) - 1) = omega arith in
    ap (slice_get (x ∷ y ∷ xs)) e

same-told : {X : Type 0} (told : Ancestor → X) (x a : Ancestor) → Some x ≡ Some a → told x ≡ told a
same-told told x a e = let is : x ≡ a = cc in ap told is

pub innermost_last : {X : Type 0} (none : X) (told : Ancestor → X) (xs : List Ancestor) (a : Ancestor) → slice_get xs (length xs - 1) ≡ Some a → innermost_or none told xs ≡ told a
innermost_last none told [] a e = absurd (cc e)
innermost_last none told (x ∷ []) a e = same-told told x a e
innermost_last none told (x ∷ y ∷ xs) a e = innermost_last none told (y ∷ xs) a (sym (last-on x y xs) ∙ e)

pub innermost_none : {X : Type 0} (none : X) (told : Ancestor → X) (xs : List Ancestor) → slice_get xs (length xs - 1) ≡ None → innermost_or none told xs ≡ none
innermost_none none told [] e = refl
innermost_none none told (x ∷ []) e = absurd (cc e)
innermost_none none told (x ∷ y ∷ xs) e = innermost_none none told (y ∷ xs) (sym (last-on x y xs) ∙ e)

pub last_kind : (xs : List Ancestor) (a : Ancestor) → slice_get xs (length xs - 1) ≡ Some a → innermost_kind xs ≡ a.kind
last_kind xs a e = innermost_last AncestorKind.Other (λ b. b.kind) xs a e

pub no_kind : (xs : List Ancestor) → slice_get xs (length xs - 1) ≡ None → innermost_kind xs ≡ AncestorKind.Other
no_kind xs e = innermost_none AncestorKind.Other (λ b. b.kind) xs e
