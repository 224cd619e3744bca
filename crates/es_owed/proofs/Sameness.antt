-- Trees that are one, part by part.
use Rattle.std.proofs.Common.{◌≡◌, refl, ap, suc, List, [], ◌∷◌, Bool, true, false, ◌&&◌, length, Option}
use Rattle.std.specs.Prelude.{nat_eq}
use Rattle.es_base.specs.Tree.{Tree, Node, child, nullable, trees, nullable_trees}
use Rattle.es_node.specs.View.{kind_of, number_in, part_of, parts_in, parts_of}
use Rattle.es_node.specs.declared.node.Part as code
use Rattle.es_steps.specs.SameTrees.{same_kind, same_part, same_parts, same_tree}

pub same_node : (t u : Tree) → same_tree t u ≡ (same_kind (kind_of t) (kind_of u) && (nat_eq (number_in t) (number_in u) && same_parts (parts_in t) (parts_in u)))
same_node (Node kind m span semantic_id ps) (Node kind2 m2 span2 semantic_id2 qs) = refl

and_false : (a b : Bool) → b ≡ false → (a && b) ≡ false
and_false true b e = e
and_false false b e = refl

pub same_members_differ : (xs : List code.Part) (ys : List code.Part) → (length xs ≡ length ys → ⊥) → same_parts (parts_of xs) (parts_of ys) ≡ false
same_members_differ [] [] other = absurd (other refl)
same_members_differ [] (y ∷ ys) other = refl
same_members_differ (x ∷ xs) [] other = refl
same_members_differ (x ∷ xs) (y ∷ ys) other = and_false (same_part (part_of x) (part_of y)) (same_parts (parts_of xs) (parts_of ys)) (same_members_differ xs ys (λ e. other (ap (λ n. suc n) e)))

pub same_nodes_differ : (xs : List Tree) (ys : List Tree) → (length xs ≡ length ys → ⊥) → same_parts (trees xs) (trees ys) ≡ false
same_nodes_differ [] [] other = absurd (other refl)
same_nodes_differ [] (y ∷ ys) other = refl
same_nodes_differ (x ∷ xs) [] other = refl
same_nodes_differ (x ∷ xs) (y ∷ ys) other = and_false (same_part (child x) (child y)) (same_parts (trees xs) (trees ys)) (same_nodes_differ xs ys (λ e. other (ap (λ n. suc n) e)))

pub same_as_holes_differ : (xs : List Tree) (ys : List (Option Tree)) → (length xs ≡ length ys → ⊥) → same_parts (trees xs) (nullable_trees ys) ≡ false
same_as_holes_differ [] [] other = absurd (other refl)
same_as_holes_differ [] (y ∷ ys) other = refl
same_as_holes_differ (x ∷ xs) [] other = refl
same_as_holes_differ (x ∷ xs) (y ∷ ys) other = and_false (same_part (child x) (nullable y)) (same_parts (trees xs) (nullable_trees ys)) (same_as_holes_differ xs ys (λ e. other (ap (λ n. suc n) e)))

pub holes_same_differ : (xs : List (Option Tree)) (ys : List Tree) → (length xs ≡ length ys → ⊥) → same_parts (nullable_trees xs) (trees ys) ≡ false
holes_same_differ [] [] other = absurd (other refl)
holes_same_differ [] (y ∷ ys) other = refl
holes_same_differ (x ∷ xs) [] other = refl
holes_same_differ (x ∷ xs) (y ∷ ys) other = and_false (same_part (nullable x) (child y)) (same_parts (nullable_trees xs) (trees ys)) (holes_same_differ xs ys (λ e. other (ap (λ n. suc n) e)))

pub same_holes_differ : (xs : List (Option Tree)) (ys : List (Option Tree)) → (length xs ≡ length ys → ⊥) → same_parts (nullable_trees xs) (nullable_trees ys) ≡ false
same_holes_differ [] [] other = absurd (other refl)
same_holes_differ [] (y ∷ ys) other = refl
same_holes_differ (x ∷ xs) [] other = refl
same_holes_differ (x ∷ xs) (y ∷ ys) other = and_false (same_part (nullable x) (nullable y)) (same_parts (nullable_trees xs) (nullable_trees ys)) (same_holes_differ xs ys (λ e. other (ap (λ n. suc n) e)))
