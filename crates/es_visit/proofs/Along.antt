-- A walk along a list, whose items stand as parts.
use Rattle.std.specs.Prelude.{◌≡◌, ℕ, ◌+◌, ◌<◌, ◌≤◌, List, [], ◌∷◌, ◌++◌, take, drop, length, refl}
use Rattle.std.proofs.Common.{◌∙◌, ap, get_or, set, arith}
use Rattle.std.proofs.lemmas.List.{take_more_set, drop-set-lt, drop_more, take_all, drop_all}
use Rattle.es_base.specs.Preorder.{nodes_of, nodes_of_part}
use Rattle.es_base.specs.Tree.{Part, Parts, end, more}

-- the parts of one list, and then those of another
abbrev pub joined : Parts → Parts → Parts
joined end rest = rest
joined (more p ps) rest = more p (joined ps rest)

-- the first i items have been walked, and are those of xs
pub record Along {S X : Type 0} (all : List X → Parts) (Walked : ℕ → S → Parts → S → Parts → Type 0) (first : S) (xs0 : List X) (now : S) (xs : List X) (i : ℕ) : Type 0 where
  pub so_far : (e : S) (qs : Parts) → Walked i now (all (drop i xs)) e qs → Walked 0 first (all xs0) e (joined (all (take i xs)) qs)

-- what is left of a list has no more nodes than all of it had
pub record Left {X : Type 0} (all : List X → Parts) (xs0 xs : List X) (i : ℕ) : Type 0 where
  pub below : nodes_of (all (drop i xs)) ≤ nodes_of (all xs0)

module _ {X : Type 0} (one : X → Part) (all : List X → Parts) (nil : all [] ≡ end) (cons : (x : X) (xs : List X) → all (x ∷ xs) ≡ more (one x) (all xs)) where
  joined-push : (xs : List X) (y : X) (qs : Parts) → joined (all (xs ++ y ∷ [])) qs ≡ joined (all xs) (more (one y) qs)
  joined-push [] y qs = rw (cons y [], nil) refl
  joined-push (x ∷ xs) y qs = rw (cons x (xs ++ y ∷ []), cons x xs) (ap (more (one x)) (joined-push xs y qs))

  joined-end : (xs : List X) → joined (all xs) end ≡ all xs
  joined-end [] = rw nil refl
  joined-end (x ∷ xs) = rw (cons x xs) (ap (more (one x)) (joined-end xs))

  pub from_here : (xs : List X) (i : ℕ) (d : X) → i < length xs → all (drop i xs) ≡ more (one (get_or xs i d)) (all (drop (i + 1) xs))
  from_here xs i d within = ap all (drop_more xs i d within) ∙ cons (get_or xs i d) (drop (i + 1) xs)

  pub behind : (xs : List X) (i : ℕ) (y : X) → all (drop (i + 1) (set xs i y)) ≡ all (drop (i + 1) xs)
  behind xs i y = ap all (drop-set-lt (i + 1) xs i y (omega arith))

  pub left_item : (xs0 xs : List X) (i : ℕ) (d : X) → i < length xs → Left all xs0 xs i → nodes_of_part (one (get_or xs i d)) ≤ nodes_of (all xs0)
  left_item xs0 xs i d within l = omega (arith, ap nodes_of (from_here xs i d within), l.below)

  pub left_next : (xs0 xs : List X) (i : ℕ) (d y : X) → i < length xs → Left all xs0 xs i → Left all xs0 (set xs i y) (i + 1)
  left_next xs0 xs i d y within l = record { below = omega (arith, ap nodes_of (behind xs i y), ap nodes_of (from_here xs i d within), l.below) }

  module _ {S : Type 0} (One : ℕ → S → Part → S → Part → Type 0) (Walked : ℕ → S → Parts → S → Parts → Type 0)
      (stop : (i : ℕ) (s : S) → Walked i s end s end)
      (step : (i : ℕ) (s m e : S) (p q : Part) (ps qs : Parts) → One i s p m q → Walked (i + 1) m ps e qs → Walked i s (more p ps) e (more q qs)) where
    -- one more item
    pub turn : {v m : S} (first : S) (xs0 xs : List X) (i : ℕ) (d y : X) → i < length xs → Along all Walked first xs0 v xs i → One i v (one (get_or xs i d)) m (one y) → Along all Walked first xs0 m (set xs i y) (i + 1)
    turn {v} {m} first xs0 xs i d y within a h = record {
      so_far = λ e qs k.
          let later : Walked (i + 1) m (all (drop (i + 1) xs)) e qs = rw (behind xs i y) at k in
          let here : Walked i v (all (drop i xs)) e (more (one y) qs) = rw (from_here xs i d within) (step i v m e _ _ _ _ h later) in
          rw (take_more_set xs i y within, joined-push (take i xs) y qs) (a.so_far e (more (one y) qs) here);
    }

    -- all of them
    pub done : {v : S} (first : S) (xs0 xs : List X) (i : ℕ) → length xs ≤ i → Along all Walked first xs0 v xs i → Walked 0 first (all xs0) v (all xs)
    done {v} first xs0 xs i over a =
        let rest : Walked i v (all (drop i xs)) v end = rw (drop_all i xs over, nil) (stop i v) in
        rw (← joined-end xs, ← ap (λ ys. joined (all ys) end) (take_all i xs over)) (a.so_far v end rest)
