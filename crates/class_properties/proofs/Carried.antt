-- What a program of the first form is lowered to keeps the nodes of the source that it takes, and its new nodes are of kinds that a
-- lowering makes.
use Rattle.std.specs.Prelude.{◌≡◌, ℕ, ◌+◌, List, [], ◌∷◌, ◌++◌, true, false}
use Rattle.std.proofs.Common.{refl, sym, subst, ◌≤◌, arith}
use Rattle.std.proofs.lemmas.Bool.{and_parts, le-leb}
use Rattle.std.proofs.lemmas.List.{append-nil}
use Rattle.es_base.specs.Preorder.{nodes, numbered_from, preorder, preorder_of}
use Rattle.es_base.specs.Tree.{Tree, Parts, Node, end, more, child, absent, list, trees, string, literal}
use Rattle.es_base.specs.declared.kind.Kind.{Kind}
use Rattle.es_left.proofs.Booleans.{both}
use Rattle.es_lowered.specs.Bound.{BoundPlace, bound_of, all_bound}
use Rattle.es_lowered.specs.Carriers.{all_carried, numbers_carried}
use Rattle.es_steps.proofs.Reflexive.{string-same}
use Rattle.es_unchanged.proofs.Carried.{carried, carried-alike}
use Rattle.es_unchanged.proofs.Standing.{here, later, in-left, in-right}
use Rattle.es_unchanged.proofs.Unchanged.{Below, numbered-below}
use Rattle.class_properties.proofs.Numbered as numbered
use Rattle.class_properties.proofs.Numbered.{definitions_from, lowered_elements, statement_size, lowered_statements, lowered_from}
use Rattle.class_properties.proofs.Shaped.{no_value, a_literal, a_reference, a_key, a_field, AreFields, a_name, a_body, a_class, AreClasses, IsProgram, a_program}
use Rattle.class_properties.proofs.Written.{OldAmong, below-old}

carried-append : (first : ℕ) (ps ts us : List Tree) → all_carried first ps ts ≡ true → all_carried first ps us ≡ true → all_carried first ps (ts ++ us) ≡ true
carried-append first ps [] us a b = b
carried-append first ps (t ∷ ts) us a b =
    let parts = and_parts _ (all_carried first ps ts) a in
    both parts.0 (carried-append first ps ts us parts.1 b)

module _ (first : ℕ) (ps : List Tree) where
  fields-carried : (es : Parts) → AreFields es → OldAmong first (preorder_of es) ps → (n : ℕ) → first ≤ n → all_carried first ps (preorder_of (trees (definitions_from n es))) ≡ true
  fields-carried end h old n l = refl
  fields-carried (more p es) (a_field m span semantic_id k v (a_key km kspan k_semantic_id s) no_value, h) old n l =
      rw (le-leb first n l, le-leb first (n + 1) (omega (arith, l)), le-leb first (n + 2) (omega (arith, l)), le-leb first (n + 3) (omega (arith, l)), le-leb first (n + 4) (omega (arith, l)), le-leb first (n + 5) (omega (arith, l)), le-leb first (n + 6) (omega (arith, l)), le-leb first (n + 7) (omega (arith, l)), le-leb first (n + 7 + 1) (omega (arith, l)))
      (fields-carried es h (λ t i. old t (later (later i))) (n + 9) (omega (arith, l)))
  fields-carried (more p es) (a_field m span semantic_id k v (a_key km kspan k_semantic_id s) (a_literal vm vspan v_semantic_id x fine), h) old n l =
      let value : Tree = Node Kind.Literal vm vspan v_semantic_id (more (literal x) end) in
      let stands = old value (later (later here)) in
      rw (le-leb first n l, le-leb first (n + 1) (omega (arith, l)), le-leb first (n + 2) (omega (arith, l)), le-leb first (n + 3) (omega (arith, l)), le-leb first (n + 4) (omega (arith, l)), le-leb first (n + 5) (omega (arith, l)), le-leb first (n + 6) (omega (arith, l)))
      (both (carried first ps value stands.0 stands.1) (fields-carried es h (λ t i. old t (later (later (later i)))) (n + 7) (omega (arith, l))))
  fields-carried (more p es) (a_field m span semantic_id k v (a_key km kspan k_semantic_id s) (a_reference vm vspan v_semantic_id x), h) old n l =
      let value : Tree = Node Kind.IdentifierReference vm vspan v_semantic_id (more (string x) end) in
      let stands = old value (later (later here)) in
      rw (le-leb first n l, le-leb first (n + 1) (omega (arith, l)), le-leb first (n + 2) (omega (arith, l)), le-leb first (n + 3) (omega (arith, l)), le-leb first (n + 4) (omega (arith, l)), le-leb first (n + 5) (omega (arith, l)), le-leb first (n + 6) (omega (arith, l)))
      (both (carried first ps value stands.0 stands.1) (fields-carried es h (λ t i. old t (later (later (later i)))) (n + 7) (omega (arith, l))))

  -- a constructor where there are fields
  elements-carried : (es : Parts) → AreFields es → OldAmong first (preorder_of es) ps → (n : ℕ) → first ≤ n → all_carried first ps (preorder_of (lowered_elements n es)) ≡ true
  elements-carried end h old n l = refl
  elements-carried (more p es) h old n l =
      let made : List Tree = preorder_of (trees (definitions_from (n + 4) (more p es))) in
      rw (le-leb first n l, le-leb first (n + 1) (omega (arith, l)), le-leb first (n + 2) (omega (arith, l)), le-leb first (n + 3) (omega (arith, l)), append-nil made, append-nil made, append-nil made, append-nil made)
      (fields-carried (more p es) h old (n + 4) (omega (arith, l)))

  classes-carried : (cs : Parts) → AreClasses cs → OldAmong first (preorder_of cs) ps → (n : ℕ) → first ≤ n → all_carried first ps (preorder_of (lowered_statements n cs)) ≡ true
  classes-carried end h old n l = refl
  classes-carried (more p cs) (a_class m span semantic_id id body (a_name i ispan i_semantic_id s free) (a_body j bspan b_semantic_id es he), h) old n l =
      let next : ℕ = n + statement_size p in
      let made : List Tree = preorder_of (lowered_elements n es) in
      let rest : List Tree = preorder_of (lowered_statements next cs) in
      let name : Tree = Node Kind.BindingIdentifier i ispan i_semantic_id (more (string s) end) in
      let class = old _ here in
      let named = old name (later here) in
      let inner = old _ (later (later here)) in
      let inside : Parts = more (list (lowered_elements n es)) end in
      both (carried-alike first ps Kind.ClassDeclaration m span semantic_id _ (more (child name) (more absent (more (child (Node Kind.ClassBody j bspan b_semantic_id inside)) end))) refl refl refl refl refl class.0 class.1)
      (both (carried first ps name named.0 named.1)
      (both (carried-alike first ps Kind.ClassBody j bspan b_semantic_id _ inside refl refl refl refl refl inner.0 inner.1)
      (carried-append first ps ((made ++ []) ++ []) rest
      (carried-append first ps (made ++ []) [] (carried-append first ps made [] (elements-carried es he (λ t k. old t (later (later (later (in-left t ((preorder_of es ++ []) ++ []) (preorder_of cs) (in-left t (preorder_of es ++ []) [] (in-left t (preorder_of es) [] k))))))) n l) refl) refl)
      (classes-carried cs h (λ t k. old t (later (later (later (in-right t ((preorder_of es ++ []) ++ []) (preorder_of cs) k))))) next (omega (arith, l))))))

  program-carried : (k : ℕ) (t : Tree) → IsProgram t → OldAmong first (preorder t) ps → first ≤ k → all_carried first ps (preorder (lowered_from k t)) ≡ true
  program-carried k t (a_program m span semantic_id s all h) old l =
      let program = old _ here in
      both (carried-alike first ps Kind.Program m span semantic_id _ (more (string s) (more (list (lowered_statements k all)) end)) refl refl (rw (string-same s) refl) refl refl program.0 program.1)
      (carried-append first ps (preorder_of (lowered_statements k all)) [] (classes-carried all h (λ u i. old u (later (in-left u (preorder_of all) [] i))) k l) refl)

-- ---- no node is bound to the one around it

abbrev part_of : Kind → ℕ → ℕ → BoundPlace
part_of kind n h = record { kind = kind; number = n; of_function = h; in_parameters = false }

fields-unbound : (first n h : ℕ) (es : Parts) → AreFields es → (k : ℕ) → bound_of first (part_of Kind.BlockStatement n h) (trees (definitions_from k es)) ≡ []
fields-unbound first n h end f k = refl
fields-unbound first n h (more p es) (a_field m span semantic_id key v (a_key i ispan i_semantic_id s) no_value, f) k = fields-unbound first n h es f (k + 9)
fields-unbound first n h (more p es) (a_field m span semantic_id key v (a_key i ispan i_semantic_id s) (a_literal l lspan l_semantic_id w fine), f) k = fields-unbound first n h es f (k + 7)
fields-unbound first n h (more p es) (a_field m span semantic_id key v (a_key i ispan i_semantic_id s) (a_reference r rspan r_semantic_id y), f) k = fields-unbound first n h es f (k + 7)

classes-unbound : (first n h : ℕ) (ps : Parts) → AreClasses ps → (k : ℕ) → first ≤ k → bound_of first (part_of Kind.Program n h) (lowered_statements k ps) ≡ []
classes-unbound first n h end c k l = refl
classes-unbound first n h (more p ps) (a_class m span semantic_id id body (a_name i ispan i_semantic_id s free) (a_body b bspan b_semantic_id end he), c) k l = classes-unbound first n h ps c _ (omega (arith, l))
classes-unbound first n h (more p ps) (a_class m span semantic_id id body (a_name i ispan i_semantic_id s free) (a_body b bspan b_semantic_id (more e es) he), c) k l =
    rw (fields-unbound first _ _ (more e es) he (k + 4), le-leb first (k + 3) (omega (arith, l))) (classes-unbound first n h ps c _ (omega (arith, l)))

program-unbound : (first k : ℕ) (t : Tree) → IsProgram t → first ≤ k → all_bound first (lowered_from k t) ≡ []
program-unbound first k t (a_program m span semantic_id s all h) l = rw (classes-unbound first _ _ all h k l) refl

pub numbers-carried : (t : Tree) → IsProgram t → t ≡ numbered_from 0 t → numbers_carried (nodes t) t (numbered.lowered t) ≡ true
numbers-carried t p e =
    let below : Below (nodes t) (preorder t) = subst (λ u. Below (nodes t) (preorder u)) (sym e) (numbered-below (nodes t) 0 t (omega arith)) in
    rw (program-unbound (nodes t) (nodes t) t p (omega arith), program-carried (nodes t) (preorder t) (nodes t) t p (λ u i. (below-old (nodes t) u (preorder t) below i, i)) (omega arith)) refl
