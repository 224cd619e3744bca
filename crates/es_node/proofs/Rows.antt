-- Members and parts, side by side, and lists with a rest.
use Rattle.std.proofs.Common.{◌≡◌, refl, sym, ap, ◌∙◌, ℕ, ◌+◌, ◌<◌, ◌≤◌, ◌⊎◌, inl, inr, min, nat_eq, List, [], ◌∷◌, map, length, drop, get_or, Bool, true, false, not, ◌||◌, Option, length-drop, arith}
use Rattle.std.proofs.lemmas.List.{drop_all, at_drop_more}
use Rattle.std.proofs.lemmas.Bool.{and_left, and_right}
use Rattle.es_base.specs.Tree.{Tree, list, end, child, nullable, trees, nullable_trees}
use Rattle.es_base.specs.Table.{Field, field_of}
use Rattle.es_base.specs.Conforms.{boolean_at, part_conforms, items_conform, is_end, is_rest}
use Rattle.es_base.specs.declared.table.Place.{Place}
use Rattle.es_base.specs.declared.table.Sort.{Sort}
use Rattle.es_base.specs.declared.table.Member.{Member}
use Rattle.es_node.specs.View.{parts_of}
use Rattle.es_node.specs.declared.node.Part as code

boolean_at-end : (name : List ℕ) (fs : List Field) → boolean_at name fs end ≡ false
boolean_at-end name [] = refl
boolean_at-end name (f ∷ fs) = refl

shorter : (a b n : ℕ) → n ≡ min a b → (a ≤ n) ⊎ (b ≤ n)
shorter a b n is = grind arith

boolean_at-past : (name : List ℕ) (ms : List Member) (ps : List code.Part) (n : ℕ) → (length ms ≤ n) ⊎ (length ps ≤ n) → boolean_at name (map field_of (drop n ms)) (parts_of (drop n ps)) ≡ false
boolean_at-past name ms ps n (inl short) = ap (λ (xs : List Member). boolean_at name (map field_of xs) (parts_of (drop n ps))) (drop_all n ms short)
boolean_at-past name ms ps n (inr short) = ap (λ (xs : List code.Part). boolean_at name (map field_of (drop n ms)) (parts_of xs)) (drop_all n ps short) ∙ boolean_at-end name (map field_of (drop n ms))

-- where the shorter of both lists ends, no member is left
pub boolean_at-done : (name : List ℕ) (ms : List Member) (ps : List code.Part) (n : ℕ) → n ≡ min (length ms) (length ps) → boolean_at name (map field_of (drop n ms)) (parts_of (drop n ps)) ≡ false
boolean_at-done name ms ps n is = boolean_at-past name ms ps n (shorter (length ms) (length ps) n is)

-- a list that must have an item
pub some_list : (computed : Bool) (place : Place) (ts : List Tree) (e r : Bool) → e ≡ nat_eq (length ts) 0 → e ≡ false → r ≡ items_conform false place (trees ts)
    → r ≡ part_conforms computed (Sort.NonEmptyList place) (list (trees ts))
some_list computed place [] e r empty full is = cc
some_list computed place (t ∷ ts) e r empty full is = is

trees-more : (ts : List Tree) → 0 < length ts → is_end (trees ts) ≡ false
trees-more [] some = absurd (omega arith)
trees-more (t ∷ ts) some = refl

nullable_trees-more : (ts : List (Option Tree)) → 0 < length ts → is_end (nullable_trees ts) ≡ false
nullable_trees-more [] some = absurd (omega arith)
nullable_trees-more (t ∷ ts) some = refl

-- a rest that is not the last
pub rest_before : (holes : Bool) (place : Place) (ts : List Tree) (i : ℕ) (t : Tree) → i + 1 < length ts → t ≡ get_or ts i t
    → is_rest (child t) ≡ true → items_conform holes place (trees (drop i ts)) ≡ false
rest_before holes place ts i t before is rest =
    let last : is_end (trees (drop (i + 1) ts)) ≡ false = trees-more (drop (i + 1) ts) (omega (arith, length-drop (i + 1) ts)) in
    at_drop_more (λ (xs : List Tree). items_conform holes place (trees xs)) ts i t (omega arith)
    ∙ and_right _ _ (and_left _ _ (ap (λ b. not b || is_end (trees (drop (i + 1) ts))) (ap (λ x. is_rest (child x)) (sym is) ∙ rest) ∙ last))

pub rest_or_hole_before : (holes : Bool) (place : Place) (ts : List (Option Tree)) (i : ℕ) (t : Option Tree) → i + 1 < length ts → t ≡ get_or ts i t
    → is_rest (nullable t) ≡ true → items_conform holes place (nullable_trees (drop i ts)) ≡ false
rest_or_hole_before holes place ts i t before is rest =
    let last : is_end (nullable_trees (drop (i + 1) ts)) ≡ false = nullable_trees-more (drop (i + 1) ts) (omega (arith, length-drop (i + 1) ts)) in
    at_drop_more (λ (xs : List (Option Tree)). items_conform holes place (nullable_trees xs)) ts i t (omega arith)
    ∙ and_right _ _ (and_left _ _ (ap (λ b. not b || is_end (nullable_trees (drop (i + 1) ts))) (ap (λ x. is_rest (nullable x)) (sym is) ∙ rest) ∙ last))
