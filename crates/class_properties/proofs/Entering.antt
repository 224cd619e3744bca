-- Nothing gets into a class of a lowered program of the first form: what stands in its body is new, or stood there.
use Rattle.std.specs.Prelude.{◌≡◌, ℕ, ◌+◌, ◌≤◌, List, [], ◌∷◌, ◌++◌, map, true, ◌||◌, nat_eq}
use Rattle.std.proofs.Common.{refl, ap, ◌∙◌, arith}
use Rattle.std.proofs.lemmas.Bool.{le-leb, and_parts}
use Rattle.std.proofs.lemmas.List.{append-nil}
use Rattle.es_base.specs.Numbered.{is_new, EachOnce}
use Rattle.es_base.specs.Preorder.{number_of, preorder, preorder_of}
use Rattle.es_base.specs.Tree.{Tree, Parts, Node, end, more, absent, trees}
use Rattle.es_base.specs.declared.kind.Kind.{Kind}
use Rattle.es_left.proofs.Booleans.{both}
use Rattle.es_steps.proofs.Reflexive.{number-same}
use Rattle.es_steps.specs.KeptNodes.{are_new_or_among, numbers_in_class, none_enters, classes_kept}
use Rattle.es_steps.specs.References.{has_number}
use Rattle.es_unchanged.proofs.Names.{class-numbers}
use Rattle.es_unchanged.proofs.Standing.{or_right, here, later, in-left, in-right, Among}
use Rattle.class_properties.proofs.Numbered.{definitions_from, lowered_elements, lowered_statements, lowered_from, statement_size}
use Rattle.class_properties.proofs.Shaped.{no_value, a_literal, a_reference, a_key, a_field, AreFields, a_name, a_body, a_class, AreClasses, IsProgram, a_program}

-- ---- lists

pub among-append : (first : ℕ) (there ms ns : List ℕ) → are_new_or_among first there ms ≡ true → are_new_or_among first there ns ≡ true → are_new_or_among first there (ms ++ ns) ≡ true
among-append first there [] ns a b = b
among-append first there (m ∷ ms) ns a b =
    let parts = and_parts (is_new first m || has_number m there) (are_new_or_among first there ms) a in
    both parts.0 (among-append first there ms ns parts.1 b)

enters-append : (first : ℕ) (us ts vs : List Tree) → none_enters first us ts ≡ true → none_enters first us vs ≡ true → none_enters first us (ts ++ vs) ≡ true
enters-append first us [] vs a b = b
enters-append first us (Node kind n span semantic_id qs ∷ ts) vs a b =
    let parts = and_parts _ (none_enters first us ts) a in
    both parts.0 (enters-append first us ts vs parts.1 b)

-- ---- the body of a class

-- all numbers of the first list stand in the second
abbrev AllIn : List ℕ → List ℕ → Type 0
AllIn ns there = (k : ℕ) → has_number k ns ≡ true → has_number k there ≡ true

module _ (first : ℕ) (there : List ℕ) where
  fields-among : (es : Parts) → AreFields es → AllIn (map number_of (preorder_of es)) there → (n : ℕ) → first ≤ n → are_new_or_among first there (map number_of (preorder_of (trees (definitions_from n es)))) ≡ true
  fields-among end h f n l = refl
  fields-among (more p es) (a_field m span semantic_id k v (a_key km kspan k_semantic_id s) no_value, h) f n l =
      rw (le-leb first n l, le-leb first (n + 1) (omega (arith, l)), le-leb first (n + 2) (omega (arith, l)), le-leb first (n + 3) (omega (arith, l)), le-leb first (n + 4) (omega (arith, l)), le-leb first (n + 5) (omega (arith, l)), le-leb first (n + 6) (omega (arith, l)), le-leb first (n + 7) (omega (arith, l)), le-leb first (n + 7 + 1) (omega (arith, l)))
      (fields-among es h (λ x i. f x (or_right (nat_eq x m) _ (or_right (nat_eq x km) _ i))) (n + 9) (omega (arith, l)))
  fields-among (more p es) (a_field m span semantic_id k v (a_key km kspan k_semantic_id s) (a_literal vm vspan v_semantic_id x fine), h) f n l =
      rw (le-leb first n l, le-leb first (n + 1) (omega (arith, l)), le-leb first (n + 2) (omega (arith, l)), le-leb first (n + 3) (omega (arith, l)), le-leb first (n + 4) (omega (arith, l)), le-leb first (n + 5) (omega (arith, l)), le-leb first (n + 6) (omega (arith, l)))
      (both (or_right (is_new first vm) (has_number vm there) (f vm (or_right (nat_eq vm m) _ (or_right (nat_eq vm km) _ (rw (number-same vm) refl)))))
      (fields-among es h (λ y i. f y (or_right (nat_eq y m) _ (or_right (nat_eq y km) _ (or_right (nat_eq y vm) _ i)))) (n + 7) (omega (arith, l))))
  fields-among (more p es) (a_field m span semantic_id k v (a_key km kspan k_semantic_id s) (a_reference vm vspan v_semantic_id x), h) f n l =
      rw (le-leb first n l, le-leb first (n + 1) (omega (arith, l)), le-leb first (n + 2) (omega (arith, l)), le-leb first (n + 3) (omega (arith, l)), le-leb first (n + 4) (omega (arith, l)), le-leb first (n + 5) (omega (arith, l)), le-leb first (n + 6) (omega (arith, l)))
      (both (or_right (is_new first vm) (has_number vm there) (f vm (or_right (nat_eq vm m) _ (or_right (nat_eq vm km) _ (rw (number-same vm) refl)))))
      (fields-among es h (λ y i. f y (or_right (nat_eq y m) _ (or_right (nat_eq y km) _ (or_right (nat_eq y vm) _ i)))) (n + 7) (omega (arith, l))))

  elements-among : (es : Parts) → AreFields es → AllIn (map number_of (preorder_of es)) there → (n : ℕ) → first ≤ n → are_new_or_among first there (map number_of (preorder_of (lowered_elements n es))) ≡ true
  elements-among end h f n l = refl
  elements-among (more p es) h f n l =
      let made : List Tree = preorder_of (trees (definitions_from (n + 4) (more p es))) in
      rw (le-leb first n l, le-leb first (n + 1) (omega (arith, l)), le-leb first (n + 2) (omega (arith, l)), le-leb first (n + 3) (omega (arith, l)), append-nil made, append-nil made, append-nil made, append-nil made)
      (fields-among (more p es) h f (n + 4) (omega (arith, l)))

-- ---- no other node is a class

module _ (first : ℕ) (us : List Tree) where
  fields-plain : (es : Parts) → AreFields es → (n : ℕ) → none_enters first us (preorder_of (trees (definitions_from n es))) ≡ true
  fields-plain end h n = refl
  fields-plain (more p es) (a_field m span semantic_id k v hk no_value, h) n = fields-plain es h (n + 9)
  fields-plain (more p es) (a_field m span semantic_id k v hk (a_literal vm vspan v_semantic_id x fine), h) n = fields-plain es h (n + 7)
  fields-plain (more p es) (a_field m span semantic_id k v hk (a_reference vm vspan v_semantic_id x), h) n = fields-plain es h (n + 7)

  elements-plain : (es : Parts) → AreFields es → (n : ℕ) → none_enters first us (preorder_of (lowered_elements n es)) ≡ true
  elements-plain end h n = refl
  elements-plain (more p es) h n =
      let made : List Tree = preorder_of (trees (definitions_from (n + 4) (more p es))) in
      rw (append-nil made, append-nil made, append-nil made, append-nil made) (fields-plain (more p es) h (n + 4))

-- ---- classes

module _ (first : ℕ) (us : List Tree) (once : EachOnce (map number_of us)) where
  classes-enter : (cs : Parts) → AreClasses cs → Among (preorder_of cs) us → (n : ℕ) → first ≤ n → none_enters first us (preorder_of (lowered_statements n cs)) ≡ true
  classes-enter end h i n l = refl
  classes-enter (more p cs) (a_class m span semantic_id id body (a_name im ispan i_semantic_id s free) (a_body j bspan b_semantic_id es he), h) i n l =
      let next : ℕ = n + statement_size p in
      let made : List Tree = preorder_of (lowered_elements n es) in
      let there : List ℕ = j ∷ map number_of (preorder_of es ++ []) in
      let found : numbers_in_class m us ≡ there = class-numbers Kind.ClassDeclaration m span semantic_id (more id (more absent (more body end))) us refl once (i (Node Kind.ClassDeclaration m span semantic_id (more id (more absent (more body end)))) here) in
      let inner : AllIn (map number_of (preorder_of es)) there = λ k e. or_right (nat_eq k j) (has_number k (map number_of (preorder_of es ++ []))) (ap (λ ts. has_number k (map number_of ts)) (append-nil (preorder_of es)) ∙ e) in
      let own : are_new_or_among first there (j ∷ map number_of (made ++ [])) ≡ true =
      both (or_right (is_new first j) (has_number j there) (rw (number-same j) refl))
      (ap (λ ts. are_new_or_among first there (map number_of ts)) (append-nil made) ∙ elements-among first there es he inner n l) in
      both (ap (λ ns. are_new_or_among first ns (j ∷ map number_of (made ++ []))) found ∙ own)
      (enters-append first us ((made ++ []) ++ []) (preorder_of (lowered_statements next cs))
      (rw (append-nil made, append-nil made) (elements-plain first us es he n))
      (classes-enter cs h (λ u k. i u (later (later (later (in-right u ((preorder_of es ++ []) ++ []) (preorder_of cs) k))))) next (omega (arith, l))))

pub nothing-enters : (k : ℕ) (t : Tree) → IsProgram t → EachOnce (map number_of (preorder t)) → (first : ℕ) → first ≤ k → classes_kept first t (lowered_from k t) ≡ true
nothing-enters k t (a_program m span semantic_id s all h) once first l =
    enters-append first (preorder t) (preorder_of (lowered_statements k all)) [] (classes-enter first (preorder t) once all h (λ u i. later (in-left u (preorder_of all) [] i)) k l) refl
