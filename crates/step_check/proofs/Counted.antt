-- As many nodes stand in preorder as there are.
use Rattle.std.proofs.Common.{◌≡◌, refl, ap, sym, ◌∙◌, ◌+◌, List, length, arith}
use Rattle.std.proofs.Common.{Bor}
use Rattle.es_base.specs.Preorder.{nodes, nodes_of, nodes_of_part, preorder, preorder_of, preorder_of_part}
use Rattle.es_base.specs.Tree.{Tree, Part, Parts, Node, end, more, child, absent, list, string, no_string, boolean, literal}
use Rattle.es_binding_faults.specs.Seen.{seen}
use Rattle.std.proofs.lemmas.List.{length-append, length-map}

mutual
  counted : (t : Tree) → length (preorder t) ≡ nodes t
  counted (Node kind id span semantic_id parts) = let below : length (preorder_of parts) ≡ nodes_of parts = counted_of parts in omega (arith, below)

  counted_part : (p : Part) → length (preorder_of_part p) ≡ nodes_of_part p
  counted_part (child t) = counted t
  counted_part absent = refl
  counted_part (list all) = counted_of all
  counted_part (string chars) = refl
  counted_part no_string = refl
  counted_part (boolean value) = refl
  counted_part (literal value) = refl

  counted_of : (ps : Parts) → length (preorder_of ps) ≡ nodes_of ps
  counted_of end = refl
  counted_of (more p rest) =
      length-append (preorder_of_part p) (preorder_of rest)
      ∙ ap (λ n. n + length (preorder_of rest)) (counted_part p)
      ∙ ap (λ n. nodes_of_part p + n) (counted_of rest)

-- code has seen them all
pub all_counted : (ns : List (Bor Tree)) (t : Tree) → seen ns ≡ preorder t → length ns ≡ nodes t
all_counted ns t in_preorder = sym (length-map ns (λ n. n.now)) ∙ ap length in_preorder ∙ counted t
