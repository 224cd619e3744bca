-- Which nodes of a program of the first form stand in what it is lowered to: its classes, those of them that have no
-- fields as they are, and of no class an element.
use Rattle.std.specs.Prelude.{◌≡◌, ℕ, ◌+◌, List, [], ◌∷◌, ◌++◌, true, false, not, ◌||◌}
use Rattle.std.proofs.Common.{refl}
use Rattle.std.proofs.lemmas.Bool.{and_parts}
use Rattle.std.proofs.lemmas.List.{append-nil}
use Rattle.es_base.specs.Preorder.{preorder, preorder_of}
use Rattle.es_base.specs.Tree.{Tree, Part, Parts, Node, end, more}
use Rattle.es_left.proofs.Booleans.{both}
use Rattle.es_steps.proofs.Reflexive.{number-same}
use Rattle.es_lowered.specs.Definitions.{chosen, element_numbers, body_numbers, elements_kept}
use Rattle.es_lowered.specs.HelperCalls.{helper_calls_fit}
use Rattle.es_steps.specs.KeptNodes.{a_class as class_sort, sort_of, is_kept_sort, stands_as, all_stand, nodes_kept, free_in, all_equal, statements_kept, item_numbers, free_numbers, free_lists_in, list_of, is_within, all_within, lists_kept, Homed, HomeHere, homes_of, all_homes, homes_kept, lowered_blocks}
use Rattle.es_steps.specs.LoweredClasses.{elements_of, elements_in, is_lowered_element}
use Rattle.es_steps.specs.declared.options.Options.{Options}
use Rattle.es_steps.specs.PrivateNames.{is_class}
use Rattle.class_properties.proofs.Defining.{defining}
use Rattle.class_properties.proofs.Called.{program-calls}
use Rattle.class_properties.proofs.Declared.{two_ends}
use Rattle.class_properties.proofs.Numbered.{lowered_elements, statement_size, lowered_statements, lowered_from}
use Rattle.class_properties.proofs.Shaped.{no_value, a_literal, a_reference, a_key, a_field, AreFields, a_body, a_name, a_class, AreClasses, IsProgram, a_program}
use Rattle.es_unchanged.proofs.Standing.{here, later, in-left, in-right, Among, stands_as-in, stands-equal, within-more, within-both, all_within-append, all_found, found-both, found-behind, found-home}

-- ---- classes

all_stand-append : (ts us qs : List Tree) → all_stand ts qs ≡ true → all_stand us qs ≡ true → all_stand (ts ++ us) qs ≡ true
all_stand-append [] us qs h i = i
all_stand-append (Node kind m span semantic_id ps ∷ ts) us qs h i =
    let parts = and_parts (not (is_kept_sort (sort_of kind)) || stands_as m (sort_of kind) qs) (all_stand ts qs) h in
    both parts.0 (all_stand-append ts us qs parts.1 i)

fields-stand : (es : Parts) → AreFields es → (qs : List Tree) → all_stand (preorder_of es) qs ≡ true
fields-stand end h qs = refl
fields-stand (more p es) (a_field m span semantic_id key v (a_key i ispan i_semantic_id s) no_value, h) qs = fields-stand es h qs
fields-stand (more p es) (a_field m span semantic_id key v (a_key i ispan i_semantic_id s) (a_literal l lspan l_semantic_id w fine), h) qs = fields-stand es h qs
fields-stand (more p es) (a_field m span semantic_id key v (a_key i ispan i_semantic_id s) (a_reference r rspan r_semantic_id x), h) qs = fields-stand es h qs

-- behind the first class
behind : (k : ℕ) (p : Part) (ps : Parts) (qs : List Tree) → Among (preorder_of (lowered_statements k (more p ps))) qs → Among (preorder_of (lowered_statements (k + statement_size p) ps)) qs
behind k p ps qs among t i = among t (in-right t _ (preorder_of (lowered_statements (k + statement_size p) ps)) i)

classes-stand : (ps : Parts) → AreClasses ps → (k : ℕ) (qs : List Tree) → Among (preorder_of (lowered_statements k ps)) qs → all_stand (preorder_of ps) qs ≡ true
classes-stand end h k qs among = refl
classes-stand (more p ps) (a_class n span semantic_id id body (a_name i ispan i_semantic_id s free) (a_body j bspan b_semantic_id es he), h) k qs among =
    both (stands_as-in n class_sort _ qs (both (number-same n) refl) (among _ here))
    (rw (two_ends (preorder_of es) (preorder_of ps)) (all_stand-append (preorder_of es) (preorder_of ps) qs (fields-stand es he qs) (classes-stand ps h _ qs (behind k p ps qs among))))

module _ (asked : Options) where
  -- ---- classes without fields stand as they are

  classes-equal : (ps : Parts) → AreClasses ps → (k : ℕ) (qs : List Tree) → Among (preorder_of (lowered_statements k ps)) qs → all_equal (free_in (defining asked) ps) qs ≡ true
  classes-equal end h k qs among = refl
  classes-equal (more p ps) (a_class n span semantic_id id body (a_name i ispan i_semantic_id s free) (a_body j bspan b_semantic_id end he), h) k qs among =
      both (stands-equal _ qs (among _ here)) (classes-equal ps h _ qs (behind k p ps qs among))
  classes-equal (more p ps) (a_class n span semantic_id id body (a_name i ispan i_semantic_id s free) (a_body j bspan b_semantic_id (more e es) (a_field m fspan f_semantic_id key v hk hv, he)), h) k qs among =
      classes-equal ps h _ qs (behind k p ps qs among)

  -- ---- and in their order

  numbers-within : (ps : Parts) → AreClasses ps → (k : ℕ) → is_within (free_numbers (defining asked) ps) (item_numbers (lowered_statements k ps)) ≡ true
  numbers-within end h k = refl
  numbers-within (more p ps) (a_class n span semantic_id id body (a_name i ispan i_semantic_id s free) (a_body j bspan b_semantic_id end he), h) k =
      let next : ℕ = k + statement_size p in
      let xs : List ℕ = free_numbers (defining asked) ps in
      let ys : List ℕ = item_numbers (lowered_statements next ps) in
      within-both n (n ∷ xs) (n ∷ ys) (within-both n xs ys (numbers-within ps h next))
  numbers-within (more p ps) (a_class n span semantic_id id body (a_name i ispan i_semantic_id s free) (a_body j bspan b_semantic_id (more e es) (a_field m fspan f_semantic_id key v hk hv, he)), h) k =
      let next : ℕ = k + statement_size p in
      let xs : List ℕ = free_numbers (defining asked) ps in
      let ys : List ℕ = item_numbers (lowered_statements next ps) in
      within-more (n ∷ xs) n (n ∷ ys) (within-both n xs ys (numbers-within ps h next))

  fields-lists : (es : Parts) → AreFields es → (qs : List Tree) → all_within (free_lists_in (defining asked) es) qs ≡ true
  fields-lists end h qs = refl
  fields-lists (more p es) (a_field m span semantic_id key v (a_key i ispan i_semantic_id s) no_value, h) qs = fields-lists es h qs
  fields-lists (more p es) (a_field m span semantic_id key v (a_key i ispan i_semantic_id s) (a_literal l lspan l_semantic_id w fine), h) qs = fields-lists es h qs
  fields-lists (more p es) (a_field m span semantic_id key v (a_key i ispan i_semantic_id s) (a_reference r rspan r_semantic_id x), h) qs = fields-lists es h qs

  lists-empty : (ps : Parts) → AreClasses ps → (qs : List Tree) → all_within (free_lists_in (defining asked) ps) qs ≡ true
  lists-empty end h qs = refl
  lists-empty (more p ps) (a_class n span semantic_id id body (a_name i ispan i_semantic_id s free) (a_body j bspan b_semantic_id es he), h) qs =
      let of_fields : List (ℕ × List ℕ) = free_lists_in (defining asked) es in
      rw (append-nil of_fields, append-nil of_fields) (all_within-append of_fields (free_lists_in (defining asked) ps) qs (fields-lists es he qs) (lists-empty ps h qs))

  -- ---- declaring identifiers and lists stand in their functions: the program alone

  fields-homes : (es : Parts) → AreFields es → (x : HomeHere) → homes_of x es ≡ []
  fields-homes end h x = refl
  fields-homes (more p es) (a_field m span semantic_id key v (a_key i ispan i_semantic_id s) no_value, h) x = fields-homes es h x
  fields-homes (more p es) (a_field m span semantic_id key v (a_key i ispan i_semantic_id s) (a_literal l lspan l_semantic_id w fine), h) x = fields-homes es h x
  fields-homes (more p es) (a_field m span semantic_id key v (a_key i ispan i_semantic_id s) (a_reference r rspan r_semantic_id y), h) x = fields-homes es h x

  -- inside the statements of a program, and in a class
  abbrev here_in : ℕ → HomeHere
  here_in home = record { of_function = home; is_own_name = false; in_constructor = false }

  classes-homes : (first : ℕ) (blocks : List ℕ) (ps : Parts) → AreClasses ps → (k home : ℕ) → all_found first blocks (homes_of (here_in home) ps) (homes_of (here_in home) (lowered_statements k ps)) ≡ true
  classes-homes first blocks end h k home = refl
  classes-homes first blocks (more p ps) (a_class n span semantic_id id body (a_name i ispan i_semantic_id s free) (a_body j bspan b_semantic_id es he), h) k home =
      let next : ℕ = k + statement_size p in
      let name : Homed = record { number = i; home = home; spelling = s; is_own_name = false; in_constructor = false } in
      let xs : List Homed = homes_of (here_in home) ps in
      let made : List Homed = homes_of (here_in home) (lowered_elements k es) in
      let ys : List Homed = homes_of (here_in home) (lowered_statements next ps) in
      rw (fields-homes es he (here_in home), two_ends made ys) (found-both first blocks name xs (made ++ ys) (found-behind first blocks made xs ys (classes-homes first blocks ps h next home)))

  -- ---- all elements are lowered

  elements_kept-append : (ts us qs : List Tree) → elements_kept (defining asked) ts qs ≡ true → elements_kept (defining asked) us qs ≡ true → elements_kept (defining asked) (ts ++ us) qs ≡ true
  elements_kept-append [] us qs h i = i
  elements_kept-append (Node kind n span semantic_id ps ∷ ts) us qs h i =
      let parts = and_parts (not (is_class kind) || is_within (element_numbers (chosen (λ e. not (is_lowered_element (defining asked) e)) (elements_of ps))) (body_numbers n qs)) (elements_kept (defining asked) ts qs) h in
      both parts.0 (elements_kept-append ts us qs parts.1 i)

  fields-elements : (es : Parts) → AreFields es → (qs : List Tree) → elements_kept (defining asked) (preorder_of es) qs ≡ true
  fields-elements end h qs = refl
  fields-elements (more p es) (a_field m span semantic_id key v (a_key i ispan i_semantic_id s) no_value, h) qs = fields-elements es h qs
  fields-elements (more p es) (a_field m span semantic_id key v (a_key i ispan i_semantic_id s) (a_literal l lspan l_semantic_id w fine), h) qs = fields-elements es h qs
  fields-elements (more p es) (a_field m span semantic_id key v (a_key i ispan i_semantic_id s) (a_reference r rspan r_semantic_id x), h) qs = fields-elements es h qs

  all-lowered : (es : Parts) → AreFields es → chosen (λ e. not (is_lowered_element (defining asked) e)) (elements_in es) ≡ []
  all-lowered end h = refl
  all-lowered (more p es) (a_field m span semantic_id key v hk hv, h) = all-lowered es h

  classes-elements : (ps : Parts) → AreClasses ps → (qs : List Tree) → elements_kept (defining asked) (preorder_of ps) qs ≡ true
  classes-elements end h qs = refl
  classes-elements (more p ps) (a_class n span semantic_id id body (a_name i ispan i_semantic_id s free) (a_body j bspan b_semantic_id es he), h) qs =
      rw (all-lowered es he, two_ends (preorder_of es) (preorder_of ps)) (elements_kept-append (preorder_of es) (preorder_of ps) qs (fields-elements es he qs) (classes-elements ps h qs))

  -- ---- programs

  pub record Remains (k : ℕ) (t : Tree) : Type 0 where
    pub nodes : nodes_kept t (lowered_from k t) ≡ true
    pub statements : statements_kept (defining asked) t (lowered_from k t) ≡ true
    pub lists : lists_kept (defining asked) t (lowered_from k t) ≡ true
    pub homes : homes_kept k (defining asked) t (lowered_from k t) ≡ true
    pub calls : (keys : List ℕ) → helper_calls_fit k [] keys (lowered_from k t) ≡ true
    pub elements : elements_kept (defining asked) (preorder t) (preorder (lowered_from k t)) ≡ true

  pub remains : (k : ℕ) (t : Tree) → IsProgram t → Remains k t
  remains k t (a_program m span semantic_id s all h) =
      let low : Parts = lowered_statements k all in
      let q : Tree = lowered_from k t in
      let among : Among (preorder_of low) (preorder q) = λ u i. later (in-left u (preorder_of low) [] i) in
      let first : is_within (free_numbers (defining asked) all) (list_of m (preorder q)) ≡ true = rw (number-same m) (numbers-within all h k) in
      let others : all_within (free_lists_in (defining asked) all ++ []) (preorder q) ≡ true = rw (append-nil (free_lists_in (defining asked) all)) (lists-empty all h (preorder q)) in record {
        nodes = rw (append-nil (preorder_of all)) (classes-stand all h k (preorder q) among);
        statements = rw (append-nil (free_in (defining asked) all)) (classes-equal all h k (preorder q) among);
        lists = both first others;
        homes = found-home k (lowered_blocks (defining asked) t) (all_homes t) (all_homes q) (rw (append-nil (homes_of (here_in m) all), append-nil (homes_of (here_in m) low)) (classes-homes k (lowered_blocks (defining asked) t) all h k m));
        calls = λ keys. program-calls k keys t (a_program m span semantic_id s all h);
        elements = rw (append-nil (preorder_of all)) (classes-elements all h (preorder q));
      }
