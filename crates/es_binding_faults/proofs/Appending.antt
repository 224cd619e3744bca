-- Loops that append what each item gives.
use Rattle.std.proofs.Common.{◌≡◌, refl, sym, ap, ◌∙◌, ℕ, ◌+◌, ◌<◌, ◌≤◌, List, [], ◌∷◌, ◌++◌, length, drop, get_or, append_assoc, append-nil, Result, Ok, Err}
use Rattle.std.specs.Prelude.{OnOk, IfOk}
use Rattle.std.proofs.lemmas.List.{at_drop_more, at_drop_all}
use Rattle.es_base.specs.declared.ids.NodeId.{NodeId}
use Rattle.es_binding_faults.specs.Repeats.{numbers}

module _ {N X : Type 0} (G : ℕ → List N → List X) (g : ℕ → N → List X) where
  -- one item of those that stand behind the i-th
  pub appended_at : (old new all : List X) (ns : List N) (i : ℕ) (x : N) → i < length ns → x ≡ get_or ns i x → G i (get_or ns i x ∷ drop (i + 1) ns) ≡ g i (get_or ns i x) ++ G (i + 1) (drop (i + 1) ns)
      → new ≡ old ++ g i x → old ++ G i (drop i ns) ≡ all → new ++ G (i + 1) (drop (i + 1) ns) ≡ all
  appended_at old new all ns i x below is next more before =
      let rest = G (i + 1) (drop (i + 1) ns) in
      ap (λ (xs : List X). xs ++ rest) more
      ∙ append_assoc old (g i x) rest
      ∙ ap (λ (y : N). old ++ (g i y ++ rest)) is
      ∙ ap (λ (xs : List X). old ++ xs) (sym next ∙ sym (at_drop_more (λ (xs : List N). G i xs) ns i x below))
      ∙ before

  pub appended : ((i : ℕ) (x : N) (xs : List N) → G i (x ∷ xs) ≡ g i x ++ G (i + 1) xs) → (old new all : List X) (ns : List N) (i : ℕ) (x : N) → i < length ns → x ≡ get_or ns i x → new ≡ old ++ g i x → old ++ G i (drop i ns) ≡ all → new ++ G (i + 1) (drop (i + 1) ns) ≡ all
  appended next old new all ns i x below is more before = appended_at old new all ns i x below is (next i (get_or ns i x) (drop (i + 1) ns)) more before

-- the same of items that are copied
pub appended_or : {N X : Type 0} (G : ℕ → List N → List X) (g : ℕ → N → List X) → ((i : ℕ) (x : N) (xs : List N) → G i (x ∷ xs) ≡ g i x ++ G (i + 1) xs) → (old new all : List X) (ns : List N) (i : ℕ) (d : N) → i < length ns → new ≡ old ++ g i (get_or ns i d) → old ++ G i (drop i ns) ≡ all → new ++ G (i + 1) (drop (i + 1) ns) ≡ all
appended_or {N} {X} G g next old new all ns i d below more before =
    let rest = G (i + 1) (drop (i + 1) ns) in
    ap (λ (xs : List X). xs ++ rest) more
    ∙ append_assoc old (g i (get_or ns i d)) rest
    ∙ ap (λ (xs : List X). old ++ xs) (sym (next i (get_or ns i d) (drop (i + 1) ns)) ∙ sym (at_drop_more (λ (xs : List N). G i xs) ns i d below))
    ∙ before

pub appended_all : {N X : Type 0} (G : ℕ → List N → List X) (old all : List X) (ns : List N) (i : ℕ) → ((k : ℕ) → G k [] ≡ []) → length ns ≤ i → old ++ G i (drop i ns) ≡ all → old ≡ all
appended_all {N} {X} G old all ns i none over before =
    sym (append-nil old) ∙ ap (λ (xs : List X). old ++ xs) (sym (at_drop_all (λ (xs : List N). G i xs) ns i over ∙ none i)) ∙ before

pub appended_twice : {X : Type 0} (old mid new xs ys : List X) → mid ≡ old ++ xs → new ≡ mid ++ ys → new ≡ old ++ (xs ++ ys)
appended_twice {X} old mid new xs ys first second = second ∙ ap (λ (zs : List X). zs ++ ys) first ∙ append_assoc old xs ys

pub OnOk-map : {T E : Type 0} (r : Result T E) (P Q : Type 0) → (P → Q) → OnOk r P → OnOk r Q
OnOk-map (Ok x) P Q f h = f h
OnOk-map (Err e) P Q f h = tt

pub IfOk-map : {T E : Type 0} (r : Result T E) (P Q : T → Type 0) → ((x : T) → P x → Q x) → IfOk r P → IfOk r Q
IfOk-map (Ok x) P Q f h = f x h
IfOk-map (Err e) P Q f h = tt

-- ---- numbers of nodes

pub numbers-push : (ns : List NodeId) (n : NodeId) → numbers (ns ++ n ∷ []) ≡ numbers ns ++ n.0 ∷ []
numbers-push [] n = refl
numbers-push (m ∷ ns) n = ap (λ (ks : List ℕ). m.0 ∷ ks) (numbers-push ns n)
