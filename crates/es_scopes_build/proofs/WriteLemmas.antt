-- A loop that writes numbers on the items of a list in turn.
use Rattle.std.proofs.Common.{◌≡◌, refl, sym, ap, ◌∙◌, ℕ, ◌+◌, ◌<◌, ◌≤◌, List, [], ◌∷◌, ◌++◌, length, take, drop, get_or, set, cond, true, Option, Some, None, arith}
use Rattle.std.specs.Prelude.{option_and_then}
use Rattle.std.proofs.lemmas.List.{take_more_set, drop-set-lt, drop_more, take_all, drop_all}
use Rattle.std.proofs.lemmas.Option.{slice_get-get_or}
use Rattle.es_base.specs.Preorder.{nodes_of, nodes_of_part, one_if}
use Rattle.es_base.specs.Tree.{Tree, Node, Part, Parts, end, more}
use Rattle.es_base.specs.declared.kind.Kind.{Kind}
use Rattle.es_node.specs.Bearing.{bears_semantic_id, semantic_id_fits}
use Rattle.es_node.specs.View.{kind_of, number_in, span_in, semantic_id_in, parts_in}
use Rattle.es_scopes_law.specs.Written.{bearers, bearers_of, bearers_of_part, id_at, written, written_part, written_parts}

-- the parts of the items, and then others
abbrev joined : {X : Type 0} → (X → Part) → List X → Parts → Parts
joined p [] rest = rest
joined p (x ∷ xs) rest = more (p x) (joined p xs rest)

joined-append : {X : Type 0} (p : X → Part) (xs : List X) (x : X) (rest : Parts) → joined p (xs ++ x ∷ []) rest ≡ joined p xs (more (p x) rest)
joined-append p [] x rest = refl
joined-append p (y ∷ xs) x rest = ap (more (p y)) (joined-append p xs x rest)

-- how far a loop over a list has come: at item i, with the n-th number to be written next. P: the parts of a list, p: the
-- part of an item
pub record Writes {X : Type 0} (P : List X → Parts) (p : X → Part) (ids : List (Option ℕ)) (all : List X) (start : ℕ) (xs : List X) (i n : ℕ) : Type 0 where
  pub list : joined p (take i xs) (written_parts ids n (P (drop i xs))) ≡ written_parts ids start (P all)
  pub next : n + bearers_of (P (drop i xs)) ≡ start + bearers_of (P all)
  pub below : nodes_of (P (drop i xs)) ≤ nodes_of (P all)

module _ {X : Type 0} (P : List X → Parts) (p : X → Part) (cons : (x : X) (xs : List X) → P (x ∷ xs) ≡ more (p x) (P xs)) where
  from_here : (xs : List X) (i : ℕ) (d : X) → i < length xs → P (drop i xs) ≡ more (p (get_or xs i d)) (P (drop (i + 1) xs))
  from_here xs i d l = ap P (drop_more xs i d l) ∙ cons (get_or xs i d) (drop (i + 1) xs)

  -- behind item i nothing has changed
  behind : (xs : List X) (i : ℕ) (y : X) → P (drop (i + 1) (set xs i y)) ≡ P (drop (i + 1) xs)
  behind xs i y = ap P (drop-set-lt (i + 1) xs i y (omega arith))

  pub item_nodes : (ids : List (Option ℕ)) (all : List X) (start : ℕ) (xs : List X) (i n : ℕ) (d : X) → i < length xs → Writes P p ids all start xs i n → nodes_of_part (p (get_or xs i d)) ≤ nodes_of (P all)
  item_nodes ids all start xs i n d l was = omega (arith, ap nodes_of (from_here xs i d l), was.below)

  pub item_bearers : (ids : List (Option ℕ)) (all : List X) (start : ℕ) (xs : List X) (i n : ℕ) (d : X) → i < length xs → Writes P p ids all start xs i n → n + bearers_of_part (p (get_or xs i d)) ≤ start + bearers_of (P all)
  item_bearers ids all start xs i n d l was = omega (arith, ap bearers_of (from_here xs i d l), was.next)

  -- item i becomes y
  pub step : (ids : List (Option ℕ)) (all : List X) (start : ℕ) (xs : List X) (i n m : ℕ) (d y : X) → i < length xs → p y ≡ written_part ids n (p (get_or xs i d)) → m ≡ n + bearers_of_part (p (get_or xs i d))
      → Writes P p ids all start xs i n → Writes P p ids all start (set xs i y) (i + 1) m
  step ids all start xs i n m d y l is_written is_next was = record {
    list =
        ap (λ ys. joined p ys (written_parts ids m (P (drop (i + 1) (set xs i y))))) (take_more_set xs i y l)
        ∙ joined-append p (take i xs) y (written_parts ids m (P (drop (i + 1) (set xs i y))))
        ∙ ap (λ ps. joined p (take i xs) (more (p y) (written_parts ids m ps))) (behind xs i y)
        ∙ ap (λ q. joined p (take i xs) (more q (written_parts ids m (P (drop (i + 1) xs))))) is_written
        ∙ ap (λ k. joined p (take i xs) (more (written_part ids n (p (get_or xs i d))) (written_parts ids k (P (drop (i + 1) xs))))) is_next
        ∙ sym (ap (λ ps. joined p (take i xs) (written_parts ids n ps)) (from_here xs i d l))
        ∙ was.list;
    next = omega (arith, ap bearers_of (from_here xs i d l), ap bearers_of (behind xs i y), is_next, was.next);
    below = omega (arith, ap nodes_of (from_here xs i d l), ap nodes_of (behind xs i y), was.below);
  }

  ends : (nil : P [] ≡ end) (xs : List X) → joined p xs end ≡ P xs
  ends nil [] = sym nil
  ends nil (x ∷ xs) = ap (more (p x)) (ends nil xs) ∙ sym (cons x xs)

  pub done_list : (nil : P [] ≡ end) (ids : List (Option ℕ)) (all : List X) (start : ℕ) (xs : List X) (i n : ℕ) → length xs ≤ i → Writes P p ids all start xs i n → P xs ≡ written_parts ids start (P all)
  done_list nil ids all start xs i n l was = sym (ap (λ ys. joined p ys (written_parts ids n (P (drop i xs)))) (take_all i xs l) ∙ ap (λ ps. joined p xs (written_parts ids n ps)) (ap P (drop_all i xs l) ∙ nil) ∙ ends nil xs) ∙ was.list

  pub done_next : (nil : P [] ≡ end) (ids : List (Option ℕ)) (all : List X) (start : ℕ) (xs : List X) (i n : ℕ) → length xs ≤ i → Writes P p ids all start xs i n → n ≡ start + bearers_of (P all)
  done_next nil ids all start xs i n l was = omega (arith, ap bearers_of (ap P (drop_all i xs l) ∙ nil), was.next)

pub written_node : (ids : List (Option ℕ)) (n : ℕ) (t : Tree) → written ids n t ≡ Node (kind_of t) (number_in t) (span_in t) (cond (bears_semantic_id (kind_of t)) (id_at ids n) (semantic_id_in t)) (written_parts ids (n + one_if (bears_semantic_id (kind_of t))) (parts_in t))
written_node ids n (Node kind id span semantic_id ps) = refl

pub bearers_node : (t : Tree) → bearers t ≡ one_if (bears_semantic_id (kind_of t)) + bearers_of (parts_in t)
bearers_node (Node kind id span semantic_id ps) = refl

pub fits_bearing : (kind : Kind) (id : Option ℕ) → bears_semantic_id kind ≡ true → semantic_id_fits kind id ≡ true
fits_bearing kind None h = refl
fits_bearing kind (Some s) h = h

pub id_at-index : (ids : List (Option ℕ)) (n : ℕ) (id : Option ℕ) → n < length ids → id ≡ get_or ids n id → id_at ids n ≡ id
id_at-index ids n id l is = ap (option_and_then (λ x. x)) (slice_get-get_or ids n id l) ∙ sym is
