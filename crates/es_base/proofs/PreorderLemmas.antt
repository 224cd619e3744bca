-- Lemmas on preorder: numbering anew from 0 is numbering, and no more nodes are new than there are.
use Rattle.std.proofs.Common.{◌≡◌, refl, ap, ◌∙◌, ℕ, ◌+◌, ◌<◌, ◌≤◌, ◌^◌, Bool, true, false, nat_le, arith}
use Rattle.std.proofs.Math.Dec.{leb-zero}
use Rattle.es_base.specs.Tree.{Tree, Part, Parts, Node, end, more, child, absent, list, string, no_string, boolean, literal}
use Rattle.es_base.specs.Preorder.{nodes, nodes_of, nodes_of_part, numbered_from, numbered_part, numbered_parts, one_if, either, news, news_of, news_of_part, renumbered, renumbered_part, renumbered_parts}

-- every number is at least 0
mutual
  pub news-zero : (t : Tree) → news 0 t ≡ nodes t
  news-zero (Node kind id span semantic_id parts) = ap (λ b. one_if b + news_of 0 parts) (leb-zero id) ∙ ap (λ k. 1 + k) (news_of-zero parts)

  news_of_part-zero : (p : Part) → news_of_part 0 p ≡ nodes_of_part p
  news_of_part-zero (child t) = news-zero t
  news_of_part-zero absent = refl
  news_of_part-zero (list all) = news_of-zero all
  news_of_part-zero (string chars) = refl
  news_of_part-zero no_string = refl
  news_of_part-zero (boolean value) = refl
  news_of_part-zero (literal value) = refl

  news_of-zero : (ps : Parts) → news_of 0 ps ≡ nodes_of ps
  news_of-zero end = refl
  news_of-zero (more p rest) = ap (λ k. k + news_of 0 rest) (news_of_part-zero p) ∙ ap (λ k. nodes_of_part p + k) (news_of-zero rest)

mutual
  pub renumbered-zero : (n : ℕ) (t : Tree) → renumbered 0 n t ≡ numbered_from n t
  renumbered-zero n (Node kind id span semantic_id parts) =
      ap (λ b. Node kind (either b n id) span semantic_id (renumbered_parts 0 (n + one_if b) parts)) (leb-zero id)
      ∙ ap (Node kind n span semantic_id) (renumbered_parts-zero (n + 1) parts)

  renumbered_part-zero : (n : ℕ) (p : Part) → renumbered_part 0 n p ≡ numbered_part n p
  renumbered_part-zero n (child t) = ap child (renumbered-zero n t)
  renumbered_part-zero n absent = refl
  renumbered_part-zero n (list all) = ap list (renumbered_parts-zero n all)
  renumbered_part-zero n (string chars) = refl
  renumbered_part-zero n no_string = refl
  renumbered_part-zero n (boolean value) = refl
  renumbered_part-zero n (literal value) = refl

  renumbered_parts-zero : (n : ℕ) (ps : Parts) → renumbered_parts 0 n ps ≡ numbered_parts n ps
  renumbered_parts-zero n end = refl
  renumbered_parts-zero n (more p rest) =
      ap (λ q. more q (renumbered_parts 0 (n + news_of_part 0 p) rest)) (renumbered_part-zero n p)
      ∙ ap (λ k. more (numbered_part n p) (renumbered_parts 0 (n + k) rest)) (news_of_part-zero p)
      ∙ ap (more (numbered_part n p)) (renumbered_parts-zero (n + nodes_of_part p) rest)

one_if-le : (b : Bool) → one_if b ≤ 1
one_if-le true = omega arith
one_if-le false = omega arith

-- no more nodes have new numbers than there are
mutual
  pub news-le : (f : ℕ) (t : Tree) → news f t ≤ nodes t
  news-le f (Node kind id span semantic_id parts) = omega (arith, one_if-le (nat_le f id), news_of-le f parts)

  news_of_part-le : (f : ℕ) (p : Part) → news_of_part f p ≤ nodes_of_part p
  news_of_part-le f (child t) = news-le f t
  news_of_part-le f absent = omega arith
  news_of_part-le f (list all) = news_of-le f all
  news_of_part-le f (string chars) = omega arith
  news_of_part-le f no_string = omega arith
  news_of_part-le f (boolean value) = omega arith
  news_of_part-le f (literal value) = omega arith

  news_of-le : (f : ℕ) (ps : Parts) → news_of f ps ≤ nodes_of ps
  news_of-le f end = omega arith
  news_of-le f (more p rest) = omega (arith, news_of_part-le f p, news_of-le f rest)

pub fits-zero : (t : Tree) → nodes t < 2 ^ 32 → 0 + news 0 t < 2 ^ 32
fits-zero t l = omega (arith, l, news-zero t)

pub news-fits : (first k : ℕ) (t : Tree) → nodes t ≡ k → first + k < 2 ^ 32 → first + news first t < 2 ^ 32
news-fits first k t e l = omega (arith, e, l, news-le first t)
