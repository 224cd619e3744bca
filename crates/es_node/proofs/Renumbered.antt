-- A loop that renumbers the items of a list in turn.
use Rattle.std.proofs.Common.{◌≡◌, refl, sym, ap, ◌∙◌, ℕ, zero, suc, ◌+◌, ◌<◌, ◌≤◌, List, [], ◌∷◌, ◌++◌, length, take, drop, get_or, set, ◌&&◌, nat_le, arith}
use Rattle.std.proofs.lemmas.List.{take_more_set, drop-set-lt, drop_more, take_all, drop_all}
use Rattle.es_base.specs.Preorder.{nodes_of, nodes_of_part, news_of, news_of_part, one_if, either, news, renumbered, renumbered_part, renumbered_parts}
use Rattle.es_base.specs.Refilled.{refilled}
use Rattle.es_base.specs.Table.{Field}
use Rattle.es_base.specs.Tree.{Tree, Node, Part, Parts, end, more}
use Rattle.es_base.specs.declared.table.Sort.{Sort}
use Rattle.es_node.specs.View.{kind_of, number_in, span_in, semantic_id_in, parts_in, has_shape, have_shapes}
use Rattle.es_node.specs.declared.node.Part as code

-- the parts of the items, and then others
abbrev pub joined : {X : Type 0} → (X → Part) → List X → Parts → Parts
joined p [] rest = rest
joined p (x ∷ xs) rest = more (p x) (joined p xs rest)

joined-append : {X : Type 0} (p : X → Part) (xs : List X) (x : X) (rest : Parts) → joined p (xs ++ x ∷ []) rest ≡ joined p xs (more (p x) rest)
joined-append p [] x rest = refl
joined-append p (y ∷ xs) x rest = ap (more (p y)) (joined-append p xs x rest)

-- how far a loop over a list has come: at item i, with the number n to be given next. P: the parts of a
-- list, p: the part of an item
pub record Renumbers {X : Type 0} (P : List X → Parts) (p : X → Part) (first : ℕ) (all : List X) (start : ℕ) (xs : List X) (i n : ℕ) : Type 0 where
  pub list : joined p (take i xs) (renumbered_parts first n (P (drop i xs))) ≡ renumbered_parts first start (P all)
  pub next : n + news_of first (P (drop i xs)) ≡ start + news_of first (P all)
  pub below : nodes_of (P (drop i xs)) ≤ nodes_of (P all)

module _ {X : Type 0} (P : List X → Parts) (p : X → Part) (cons : (x : X) (xs : List X) → P (x ∷ xs) ≡ more (p x) (P xs)) where
  from_here : (xs : List X) (i : ℕ) (d : X) → i < length xs → P (drop i xs) ≡ more (p (get_or xs i d)) (P (drop (i + 1) xs))
  from_here xs i d l = ap P (drop_more xs i d l) ∙ cons (get_or xs i d) (drop (i + 1) xs)

  -- behind item i nothing has changed
  behind : (xs : List X) (i : ℕ) (y : X) → P (drop (i + 1) (set xs i y)) ≡ P (drop (i + 1) xs)
  behind xs i y = ap P (drop-set-lt (i + 1) xs i y (omega arith))

  -- the nodes and the new numbers of item i are among those that are left
  pub item_nodes : (f : ℕ) (all : List X) (start : ℕ) (xs : List X) (i n : ℕ) (d : X) → i < length xs → Renumbers P p f all start xs i n → nodes_of_part (p (get_or xs i d)) ≤ nodes_of (P all)
  item_nodes f all start xs i n d l was = omega (arith, ap nodes_of (from_here xs i d l), was.below)

  pub item_news : (f : ℕ) (all : List X) (start : ℕ) (xs : List X) (i n : ℕ) (d : X) → i < length xs → Renumbers P p f all start xs i n → n + news_of_part f (p (get_or xs i d)) ≤ start + news_of f (P all)
  item_news f all start xs i n d l was = omega (arith, ap (news_of f) (from_here xs i d l), was.next)

  pub starts : (f : ℕ) (all : List X) (start : ℕ) → Renumbers P p f all start all 0 start
  starts f all start = record { list = refl; next = refl; below = omega arith }

  -- item i becomes y
  pub step : (f : ℕ) (all : List X) (start : ℕ) (xs : List X) (i n m : ℕ) (d y : X) → i < length xs → p y ≡ renumbered_part f n (p (get_or xs i d)) → m ≡ n + news_of_part f (p (get_or xs i d))
      → Renumbers P p f all start xs i n → Renumbers P p f all start (set xs i y) (i + 1) m
  step f all start xs i n m d y l is_renumbered is_next was = record {
    list =
        ap (λ ys. joined p ys (renumbered_parts f m (P (drop (i + 1) (set xs i y))))) (take_more_set xs i y l)
        ∙ joined-append p (take i xs) y (renumbered_parts f m (P (drop (i + 1) (set xs i y))))
        ∙ ap (λ ps. joined p (take i xs) (more (p y) (renumbered_parts f m ps))) (behind xs i y)
        ∙ ap (λ q. joined p (take i xs) (more q (renumbered_parts f m (P (drop (i + 1) xs))))) is_renumbered
        ∙ ap (λ k. joined p (take i xs) (more (renumbered_part f n (p (get_or xs i d))) (renumbered_parts f k (P (drop (i + 1) xs))))) is_next
        ∙ sym (ap (λ ps. joined p (take i xs) (renumbered_parts f n ps)) (from_here xs i d l))
        ∙ was.list;
    next = omega (arith, ap (news_of f) (from_here xs i d l), ap (news_of f) (behind xs i y), is_next, was.next);
    below = omega (arith, ap nodes_of (from_here xs i d l), ap nodes_of (behind xs i y), was.below);
  }

  ends : (nil : P [] ≡ end) (xs : List X) → joined p xs end ≡ P xs
  ends nil [] = sym nil
  ends nil (x ∷ xs) = ap (more (p x)) (ends nil xs) ∙ sym (cons x xs)

  -- the loop has ended
  pub done_list : (nil : P [] ≡ end) (f : ℕ) (all : List X) (start : ℕ) (xs : List X) (i n : ℕ) → length xs ≤ i → Renumbers P p f all start xs i n → P xs ≡ renumbered_parts f start (P all)
  done_list nil f all start xs i n l was = sym (ap (λ ys. joined p ys (renumbered_parts f n (P (drop i xs)))) (take_all i xs l) ∙ ap (λ ps. joined p xs (renumbered_parts f n ps)) (ap P (drop_all i xs l) ∙ nil) ∙ ends nil xs) ∙ was.list

  pub done_next : (nil : P [] ≡ end) (f : ℕ) (all : List X) (start : ℕ) (xs : List X) (i n : ℕ) → length xs ≤ i → Renumbers P p f all start xs i n → n ≡ start + news_of f (P all)
  done_next nil f all start xs i n l was = omega (arith, ap (news_of f) (ap P (drop_all i xs l) ∙ nil), was.next)

take-whole : {X : Type 0} (xs ys : List X) → take (length xs) (xs ++ ys) ≡ xs
take-whole [] ys = refl
take-whole (x ∷ xs) ys = ap (λ zs. x ∷ zs) (take-whole xs ys)

-- a slice of a list, written to
pub refilled_same : {X : Type 0} (items ws : List X) → length ws ≡ length items → refilled items ws ≡ ws
refilled_same items ws e = ap (λ n. take n (ws ++ drop (length ws) items)) (sym e) ∙ take-whole ws (drop (length ws) items)

-- a part becomes another of its shape
pub have_shapes-set : (fs : List Field) (ps : List code.Part) (i : ℕ) (d q : code.Part) → i < length ps → ((sort : Sort) → has_shape sort q ≡ has_shape sort (get_or ps i d)) → have_shapes fs (set ps i q) ≡ have_shapes fs ps
have_shapes-set fs [] i d q l same = absurd (omega arith)
have_shapes-set [] (p ∷ ps) zero d q l same = refl
have_shapes-set [] (p ∷ ps) (suc i) d q l same = refl
have_shapes-set (f ∷ fs) (p ∷ ps) zero d q l same = ap (λ b. b && have_shapes fs ps) (same f.sort)
have_shapes-set (f ∷ fs) (p ∷ ps) (suc i) d q l same = let e : i < length ps = omega arith in ap (λ b. has_shape f.sort p && b) (have_shapes-set fs ps i d q e same)

-- the number of one node, and what is below it
pub renumbered_node : (f n : ℕ) (t : Tree) → renumbered f n t ≡ Node (kind_of t) (either (nat_le f (number_in t)) n (number_in t)) (span_in t) (semantic_id_in t) (renumbered_parts f (n + one_if (nat_le f (number_in t))) (parts_in t))
renumbered_node f n (Node kind id span semantic_id ps) = refl

pub news_node : (f : ℕ) (t : Tree) → news f t ≡ one_if (nat_le f (number_in t)) + news_of f (parts_in t)
news_node f (Node kind id span semantic_id ps) = refl
