-- In what a program of the first form is lowered to, the constructor of each class defines its fields, in their order.
use Rattle.std.specs.Prelude.{◌≡◌, ℕ, ◌+◌, List, [], ◌∷◌, ◌++◌, Bool, true, false, cond, nat_eq, nat_le}
use Rattle.std.proofs.Common.{refl, sym, ap, ◌∙◌, subst, ◌≤◌, ◌<◌, arith, append_assoc}
use Rattle.std.proofs.lemmas.Bool.{le-leb}
use Rattle.std.proofs.lemmas.List.{append-nil}
use Rattle.es_base.specs.Preorder.{preorder, preorder_of, nodes_of_part, numbered_from, numbered_parts}
use Rattle.es_base.specs.Tree.{Tree, Part, Parts, Node, end, more, child, absent, list, string, no_string, boolean, literal, trees}
use Rattle.es_base.specs.declared.kind.Kind.{Kind}
use Rattle.es_left.proofs.Booleans.{both}
use Rattle.es_steps.proofs.Reflexive.{number-same, string-same}
use Rattle.es_lowered.specs.Definitions.{PublicKey, FieldDefinition, definition_at, definitions_of, function_definitions, super_definitions, constructor_definitions, all_definitions, on_this, is_static_of, statics_of, static_definitions, Names, all_fit, is_instance_method, any_of, defined_fields, names_of, class_fits, classes_fit, definitions_stand}
use Rattle.es_steps.specs.Generated.{node, string_literal}
use Rattle.es_steps.specs.LoweredClasses.{Element, elements_in, is_private_key, constructor_in}
use Rattle.es_steps.specs.declared.options.Options.{Options}
use Rattle.es_steps.specs.Parts.{at, items}
use Rattle.es_steps.specs.PrivateNames.{PrivateMember}
use Rattle.es_steps.specs.References.{Reference, resolve}
use Rattle.class_properties.proofs.Defining.{defining}
use Rattle.class_properties.proofs.Declared.{two_ends, four_ends}
use Rattle.class_properties.proofs.Numbered.{key_string, value_from, field_size, definitions_from, lowered_elements, statement_size, lowered_statements, lowered_from}
use Rattle.class_properties.proofs.Shaped.{no_value, a_literal, a_reference, a_key, a_field, AreFields, a_body, a_name, a_class, AreClasses, IsProgram, a_program}
use Rattle.es_unchanged.proofs.Standing.{supers-stand, still_new, or_left, stands-equal, here, apart-sym}

-- ---- the numbers of classes rise

abbrev Rising : ℕ → Parts → Type 0
Rising lo end = Unit
Rising lo (more (child (Node kind m span semantic_id qs)) ps) = (lo ≤ m) × Rising (m + 1) ps
Rising lo (more p ps) = Rising lo ps

rising-from : (lo hi : ℕ) (ps : Parts) → lo ≤ hi → Rising hi ps → Rising lo ps
rising-from lo hi end l h = tt
rising-from lo hi (more (child (Node kind m span semantic_id qs)) ps) l h = (omega (arith, l, h.0), h.1)
rising-from lo hi (more absent ps) l h = rising-from lo hi ps l h
rising-from lo hi (more (list qs) ps) l h = rising-from lo hi ps l h
rising-from lo hi (more (string s) ps) l h = rising-from lo hi ps l h
rising-from lo hi (more no_string ps) l h = rising-from lo hi ps l h
rising-from lo hi (more (boolean b) ps) l h = rising-from lo hi ps l h
rising-from lo hi (more (literal v) ps) l h = rising-from lo hi ps l h

rising-numbered : (ps : Parts) (lo : ℕ) → Rising lo (numbered_parts lo ps)
rising-numbered end lo = tt
rising-numbered (more (child (Node kind m span semantic_id qs)) ps) lo =
    let next : ℕ = lo + nodes_of_part (child (Node kind m span semantic_id qs)) in
    (omega arith, rising-from (lo + 1) next (numbered_parts next ps) (omega arith) (rising-numbered ps next))
rising-numbered (more absent ps) lo = rising-from lo (lo + 0) (numbered_parts (lo + 0) ps) (omega arith) (rising-numbered ps (lo + 0))
rising-numbered (more (list qs) ps) lo =
    let next : ℕ = lo + nodes_of_part (list qs) in
    rising-from lo next (numbered_parts next ps) (omega arith) (rising-numbered ps next)
rising-numbered (more (string s) ps) lo = rising-from lo (lo + 0) (numbered_parts (lo + 0) ps) (omega arith) (rising-numbered ps (lo + 0))
rising-numbered (more no_string ps) lo = rising-from lo (lo + 0) (numbered_parts (lo + 0) ps) (omega arith) (rising-numbered ps (lo + 0))
rising-numbered (more (boolean b) ps) lo = rising-from lo (lo + 0) (numbered_parts (lo + 0) ps) (omega arith) (rising-numbered ps (lo + 0))
rising-numbered (more (literal v) ps) lo = rising-from lo (lo + 0) (numbered_parts (lo + 0) ps) (omega arith) (rising-numbered ps (lo + 0))

different : (m n : ℕ) → m < n → nat_eq m n ≡ false
different m n l = grind (arith, l)

module _ (asked : Options) where
  -- ---- appended lists

  constructors-append : (first n : ℕ) (ts us : List Tree) → constructor_definitions first (defining asked) [] n (ts ++ us) ≡ constructor_definitions first (defining asked) [] n ts ++ constructor_definitions first (defining asked) [] n us
  constructors-append first n [] us = refl
  constructors-append first n (Node kind m span semantic_id ps ∷ ts) us = rw (constructors-append first n ts us) (sym (append_assoc _ (constructor_definitions first (defining asked) [] n ts) (constructor_definitions first (defining asked) [] n us)))

  all-append : (first : ℕ) (ts us : List Tree) → all_definitions first (defining asked) [] (ts ++ us) ≡ all_definitions first (defining asked) [] ts ++ all_definitions first (defining asked) [] us
  all-append first [] us = refl
  all-append first (Node kind m span semantic_id ps ∷ ts) us = rw (all-append first ts us) (sym (append_assoc (definition_at first (defining asked) [] kind m ps) (all_definitions first (defining asked) [] ts) (all_definitions first (defining asked) [] us)))

  statics-append : (test : FieldDefinition → Bool) (ds es : List FieldDefinition) → statics_of test (ds ++ es) ≡ statics_of test ds ++ statics_of test es
  statics-append test [] es = refl
  statics-append test (d ∷ ds) es = rw (statics-append test ds es) (sym (append_assoc (cond (test d) (d ∷ []) []) (statics_of test ds) (statics_of test es)))

  supers-none : (first n : ℕ) (ts : List Tree) → super_definitions first (defining asked) [] n ts ≡ []
  supers-none first n [] = refl
  supers-none first n (Node kind m span semantic_id ps ∷ ts) = supers-none first n ts

  -- ---- the definitions of fields

  abbrev field_definition : ℕ → Parts → FieldDefinition
  field_definition k ps = record { object = child (node Kind.ThisExpression (k + 5) end); key = PublicKey (child (string_literal (k + 6) (key_string (at 0 ps)))) false; value = child (value_from (k + 7) (at 1 ps)) }

  abbrev field_definitions : ℕ → Parts → List FieldDefinition
  field_definitions k end = []
  field_definitions k (more (child (Node kind m span semantic_id ps)) rest) = field_definition k ps ∷ field_definitions (k + field_size ps) rest
  field_definitions k (more p rest) = field_definitions k rest

  module _ (first : ℕ) where
    abbrev constructors : ℕ → List Tree → List FieldDefinition
    constructors n ts = constructor_definitions first (defining asked) [] n ts

    statements-define : (n : ℕ) (es : Parts) → AreFields es → (k : ℕ) → first ≤ k → definitions_of first (defining asked) [] n (trees (definitions_from k es)) ≡ field_definitions k es
    statements-define n end h k new = refl
    statements-define n (more p es) (a_field m span semantic_id key v (a_key i ispan i_semantic_id s) no_value, h) k new =
        let later : nat_le first (k + 3) ≡ true = le-leb first (k + 3) (omega (arith, new)) in
        rw later (ap (λ ds. field_definition k (more key (more absent end)) ∷ ds) (statements-define n es h (k + 9) (still_new k 9 new)))
    statements-define n (more p es) (a_field m span semantic_id key v (a_key i ispan i_semantic_id s) (a_literal l lspan l_semantic_id w fine), h) k new =
        let later : nat_le first (k + 3) ≡ true = le-leb first (k + 3) (omega (arith, new)) in
        rw later (ap (λ ds. field_definition k (more key (more v end)) ∷ ds) (statements-define n es h (k + 7) (still_new k 7 new)))
    statements-define n (more p es) (a_field m span semantic_id key v (a_key i ispan i_semantic_id s) (a_reference r rspan r_semantic_id x), h) k new =
        let later : nat_le first (k + 3) ≡ true = le-leb first (k + 3) (omega (arith, new)) in
        rw later (ap (λ ds. field_definition k (more key (more v end)) ∷ ds) (statements-define n es h (k + 7) (still_new k 7 new)))

    definitions-on_this : (es : Parts) → AreFields es → (k : ℕ) → first ≤ k → on_this first (field_definitions k es) ≡ field_definitions k es
    definitions-on_this end h k new = refl
    definitions-on_this (more p es) (a_field m span semantic_id key v hk hv, h) k new =
        let later : nat_le first (k + 5) ≡ true = le-leb first (k + 5) (omega (arith, new)) in
        rw later (ap (λ ds. field_definition k (more key (more v end)) ∷ ds) (definitions-on_this es h _ (still_new k _ new)))

    -- ---- of the constructor of a class

    body-defines : (n : ℕ) (es : Parts) → AreFields es → (k : ℕ) → first ≤ k → (j : ℕ) (span : _) (semantic_id : _) → function_definitions first (defining asked) [] n (constructor_in (child (Node Kind.ClassBody j span semantic_id (more (list (lowered_elements k es)) end)))) ≡ field_definitions (k + 4) es
    body-defines n end h k new j span semantic_id = refl
    body-defines n (more p es) h k new j span semantic_id =
        simp append-nil (statements-define n (more p es) h (k + 4) (still_new k 4 new))

    -- outside the classes there is none
    statements-none : (n : ℕ) (es : Parts) → AreFields es → (k : ℕ) → constructors n (preorder_of (trees (definitions_from k es))) ≡ []
    statements-none n end h k = refl
    statements-none n (more p es) (a_field m span semantic_id key v hk no_value, h) k = statements-none n es h (k + 9)
    statements-none n (more p es) (a_field m span semantic_id key v hk (a_literal l lspan l_semantic_id w fine), h) k = statements-none n es h (k + 7)
    statements-none n (more p es) (a_field m span semantic_id key v hk (a_reference r rspan r_semantic_id x), h) k = statements-none n es h (k + 7)

    elements-none : (n : ℕ) (es : Parts) → AreFields es → (k : ℕ) → constructors n (preorder_of (lowered_elements k es)) ≡ []
    elements-none n end h k = refl
    elements-none n (more p es) h k = rw (four_ends (preorder_of (trees (definitions_from (k + 4) (more p es))))) (statements-none n (more p es) h (k + 4))

    -- the nodes behind a class
    class-rest : (n : ℕ) (es ps : Parts) → AreFields es → (k next : ℕ) → constructors n (preorder_of (lowered_elements k es) ++ [] ++ [] ++ preorder_of (lowered_statements next ps)) ≡ constructors n (preorder_of (lowered_statements next ps))
    class-rest n es ps h k next =
        rw (two_ends (preorder_of (lowered_elements k es)) (preorder_of (lowered_statements next ps)), constructors-append first n (preorder_of (lowered_elements k es)) (preorder_of (lowered_statements next ps)), elements-none n es h k) refl

    -- a class that is not among these
    classes-none : (n : ℕ) (ps : Parts) → AreClasses ps → (lo k : ℕ) → Rising lo ps → n < lo → constructors n (preorder_of (lowered_statements k ps)) ≡ []
    classes-none n end h lo k r l = refl
    classes-none n (more p ps) (a_class m span semantic_id id body (a_name i ispan i_semantic_id s free) (a_body j bspan b_semantic_id es he), h) lo k r l =
        rw (different n m (omega (arith, l, r.0)), class-rest n es ps he k (k + statement_size p)) (classes-none n ps h (m + 1) (k + statement_size p) r.1 (omega (arith, l, r.0)))

    -- ---- nothing is static

    definitions-no_static : (n : ℕ) (members : List PrivateMember) (rs : List Reference) (ids : List ℕ) (es : Parts) → AreFields es → (k : ℕ) → first ≤ k → statics_of (is_static_of n [] members rs ids) (all_definitions first (defining asked) [] (preorder_of (trees (definitions_from k es)))) ≡ []
    definitions-no_static n members rs ids end h k new = refl
    definitions-no_static n members rs ids (more p es) (a_field m span semantic_id key v hk no_value, h) k new =
        let later : nat_le first (k + 3) ≡ true = le-leb first (k + 3) (omega (arith, new)) in
        rw later (definitions-no_static n members rs ids es h (k + 9) (still_new k 9 new))
    definitions-no_static n members rs ids (more p es) (a_field m span semantic_id key v hk (a_literal l lspan l_semantic_id w fine), h) k new =
        let later : nat_le first (k + 3) ≡ true = le-leb first (k + 3) (omega (arith, new)) in
        rw later (definitions-no_static n members rs ids es h (k + 7) (still_new k 7 new))
    definitions-no_static n members rs ids (more p es) (a_field m span semantic_id key v hk (a_reference r rspan r_semantic_id x), h) k new =
        let later : nat_le first (k + 3) ≡ true = le-leb first (k + 3) (omega (arith, new)) in
        rw later (definitions-no_static n members rs ids es h (k + 7) (still_new k 7 new))

    elements-no_static : (n : ℕ) (members : List PrivateMember) (rs : List Reference) (ids : List ℕ) (es : Parts) → AreFields es → (k : ℕ) → first ≤ k → statics_of (is_static_of n [] members rs ids) (all_definitions first (defining asked) [] (preorder_of (lowered_elements k es))) ≡ []
    elements-no_static n members rs ids end h k new = refl
    elements-no_static n members rs ids (more p es) h k new = rw (four_ends (preorder_of (trees (definitions_from (k + 4) (more p es))))) (definitions-no_static n members rs ids (more p es) h (k + 4) (still_new k 4 new))

    classes-no_static : (n : ℕ) (members : List PrivateMember) (rs : List Reference) (ids : List ℕ) (ps : Parts) → AreClasses ps → (k : ℕ) → first ≤ k → statics_of (is_static_of n [] members rs ids) (all_definitions first (defining asked) [] (preorder_of (lowered_statements k ps))) ≡ []
    classes-no_static n members rs ids end h k new = refl
    classes-no_static n members rs ids (more p ps) (a_class m span semantic_id id body (a_name i ispan i_semantic_id s free) (a_body j bspan b_semantic_id es he), h) k new =
        let xs : List Tree = preorder_of (lowered_elements k es) in
        let ys : List Tree = preorder_of (lowered_statements (k + statement_size p) ps) in
        rw (two_ends xs ys, all-append first xs ys, statics-append (is_static_of n [] members rs ids) (all_definitions first (defining asked) [] xs) (all_definitions first (defining asked) [] ys), elements-no_static n members rs ids es he k new)
        (classes-no_static n members rs ids ps h (k + statement_size p) (still_new k (statement_size p) new))

    -- ---- each class fits

    no_methods : (es : Parts) → AreFields es → any_of is_instance_method (elements_in es) ≡ false
    no_methods end h = refl
    no_methods (more p es) (a_field m span semantic_id key v (a_key i ispan i_semantic_id s) hv, h) = no_methods es h

    abbrev field_element : ℕ → Part → Part → Element
    field_element m key v = record { number = m; is_static = false; is_field = true; is_block = false; is_private = is_private_key key; computed = false; key = key; value = v }

    all-defined : (es : Parts) → AreFields es → defined_fields (defining asked) false (elements_in es) ≡ elements_in es
    all-defined end h = refl
    all-defined (more p es) (a_field m span semantic_id key v hk hv, h) = ap (λ ds. field_element m key v ∷ ds) (all-defined es h)

    none-static : (es : Parts) → AreFields es → defined_fields (defining asked) true (elements_in es) ≡ []
    none-static end h = refl
    none-static (more p es) (a_field m span semantic_id key v hk hv, h) = none-static es h

    fields-fit : (x : Names) (n : ℕ) (es : Parts) → AreFields es → (k : ℕ) → all_fit x n (elements_in es) (field_definitions k es) ≡ true
    fields-fit x n end h k = refl
    fields-fit x n (more p es) (a_field m span semantic_id key v (a_key i ispan i_semantic_id s) no_value, h) k =
        both (both (string-same s) refl) (fields-fit x n es h (k + 9))
    fields-fit x n (more p es) (a_field m span semantic_id key v (a_key i ispan i_semantic_id s) (a_literal l lspan l_semantic_id w fine), h) k =
        both (both (string-same s) (stands-equal (Node Kind.Literal l lspan l_semantic_id (more (literal w) end)) (Node Kind.Literal l lspan l_semantic_id (more (literal w) end) ∷ []) here)) (fields-fit x n es h (k + 7))
    fields-fit x n (more p es) (a_field m span semantic_id key v (a_key i ispan i_semantic_id s) (a_reference r rspan r_semantic_id y), h) k =
        both (both (string-same s) (or_left (nat_eq r r) false (number-same r))) (fields-fit x n es h (k + 7))

    fields-pass : (members : List PrivateMember) (p q : Tree) (es : Parts) → AreFields es → (ts : List Tree) → classes_fit first (defining asked) [] members p q (preorder_of es ++ ts) ≡ classes_fit first (defining asked) [] members p q ts
    fields-pass members p q end h ts = refl
    fields-pass members p q (more e es) (a_field m span semantic_id key v (a_key i ispan i_semantic_id s) no_value, h) ts = fields-pass members p q es h ts
    fields-pass members p q (more e es) (a_field m span semantic_id key v (a_key i ispan i_semantic_id s) (a_literal l lspan l_semantic_id w fine), h) ts = fields-pass members p q es h ts
    fields-pass members p q (more e es) (a_field m span semantic_id key v (a_key i ispan i_semantic_id s) (a_reference r rspan r_semantic_id x), h) ts = fields-pass members p q es h ts

    -- where the constructors of the classes from number lo on stand in q as here
    classes-fit : (members : List PrivateMember) (t q : Tree) (ps : Parts) → AreClasses ps → (lo k : ℕ) → Rising lo ps → first ≤ k
        → ((n : ℕ) → lo ≤ n → constructors n (preorder q) ≡ constructors n (preorder_of (lowered_statements k ps)))
        → ((n : ℕ) → static_definitions first (defining asked) [] members q n ≡ [])
        → classes_fit first (defining asked) [] members t q (preorder_of ps) ≡ true
    classes-fit members t q end h lo k r new same no_static = refl
    classes-fit members t q (more p ps) (a_class n span semantic_id id body (a_name i ispan i_semantic_id s free) (a_body j bspan b_semantic_id es he), h) lo k r new same no_static =
        let next : ℕ = k + statement_size p in
        let there : constructors n (preorder q) ≡ field_definitions (k + 4) es =
        same n r.0 ∙ rw (number-same n, body-defines n es he k new j bspan b_semantic_id, class-rest n es ps he k next, classes-none n ps h (n + 1) next r.1 (omega arith)) (append-nil (field_definitions (k + 4) es)) in
        let later : (m : ℕ) → n + 1 ≤ m → constructors m (preorder q) ≡ constructors m (preorder_of (lowered_statements next ps)) =
        λ m l. same m (omega (arith, l, r.0)) ∙ rw (apart-sym n m (different n m (omega (arith, l))), class-rest m es ps he k next) refl in
        let fits : class_fits first (defining asked) [] members t q n (elements_in es) ≡ true =
        rw (no_methods es he, all-defined es he, none-static es he, no_static n, supers-none first n (preorder q), there, definitions-on_this es he (k + 4) (still_new k 4 new)) (both (fields-fit (names_of first [] t q n) n es he (k + 4)) refl) in
        let rest : classes_fit first (defining asked) [] members t q (preorder_of es ++ [] ++ [] ++ preorder_of ps) ≡ true =
        rw (two_ends (preorder_of es) (preorder_of ps), fields-pass members t q es he (preorder_of ps)) (classes-fit members t q ps h (n + 1) next r.1 (still_new k (statement_size p) new) later no_static) in
        both fits rest

  -- ---- programs

  body_items : Tree → Parts
  body_items (Node kind m span semantic_id ps) = items (at 1 ps)

  pub definitions-fit : (first : ℕ) (members : List PrivateMember) (t : Tree) → IsProgram t → t ≡ numbered_from 0 t → definitions_stand first (defining asked) [] members t (lowered_from first t) ≡ true
  unfolding body_items
  definitions-fit first members t (a_program m span semantic_id s all h) e =
      let low : Parts = lowered_statements first all in
      let q : Tree = lowered_from first t in
      let rising : Rising 1 all = subst (Rising 1) (sym (ap body_items e)) (rising-numbered all 1) in
      both
      (rw (append-nil (preorder_of all))
      (classes-fit first members t q all h 1 first rising (omega arith) (λ n l. ap (constructor_definitions first (defining asked) [] n) (append-nil (preorder_of low)))
      (λ n. rw (append-nil (preorder_of low)) (classes-no_static first n members _ _ all h first (omega arith)))))
      (supers-stand first (defining asked) (resolve q) (preorder q))
