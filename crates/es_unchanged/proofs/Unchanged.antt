-- A numbered program that has nothing to lower owes nothing as it is.
use Rattle.std.proofs.Common.{◌≡◌, refl, sym, ap, subst, ℕ, zero, suc, ◌+◌, ◌<◌, ◌≤◌, List, [], ◌∷◌, ◌++◌, map, Bool, true, false, cond, Option, arith}
use Rattle.std.specs.Prelude.{filter, not, ◌||◌, ◌&&◌, nat_eq, codes}
use Rattle.std.specs.List.{IsDistinct}
use Rattle.std.proofs.lemmas.Bool.{lt-leb, true≢false, and_parts}
use Rattle.std.proofs.Math.Bool.{and-false}
use Rattle.es_base.proofs.NumberedLemmas.{IsNumbered-renumbered, EachOnce-old_zero}
use Rattle.es_base.proofs.PreorderLemmas.{renumbered-zero}
use Rattle.es_base.specs.Numbered.{is_new, AreConsecutive, EachOnce, IsNumbered, numbers}
use Rattle.es_base.specs.Preorder.{nodes, nodes_of, nodes_of_part, preorder, preorder_of, preorder_of_part, number_of, numbered_from, numbered_part, numbered_parts}
use Rattle.es_base.specs.Tree.{Tree, Part, Parts, Node, end, more, child, absent, list, string, no_string, boolean, literal}
use Rattle.es_base.specs.declared.kind.Kind.{Kind}
use Rattle.es_left.proofs.Booleans.{both, none_of}
use Rattle.es_steps.proofs.Reflexive.{number-same}
use Rattle.es_steps.specs.Context.{is_constructor}
use Rattle.es_lowered.specs.Bound.{all_bound}
use Rattle.es_lowered.specs.Definitions.{FieldDefinition, chosen, element_numbers, body_numbers, elements_kept, call_definition, definition_at, definitions_in, definitions_at, definitions_of, function_definitions, super_definitions, constructor_definitions, all_definitions, instance_definitions, static_definitions, is_instance_method, any_of, defined_fields, class_fits, classes_fit, supers_stand, definitions_stand}
use Rattle.es_lowered.specs.KeptKeys.{keys_that_stay}
use Rattle.es_lowered.specs.HelperCalls.{is_helper_callee, is_new_private, Conversions, call_fits, node_fits, names_inside, calls_fit, calls_in, calls_at, conversions}
use Rattle.es_steps.specs.KeptNodes.{stands_equal, statement_list, declared_classes, carried_classes, item_number, item_numbers, free_number, free_numbers, is_static_block, free_lists, free_lists_at, free_lists_in, list_of, is_within, all_within, is_free_statement, stays_in_list, free_statements, free_at, free_in, all_homes, lowered_blocks}
use Rattle.es_lowered.specs.Lowered.{IsLowered, has_new_declarator, is_new_const, is_accounted, all_accounted}
use Rattle.es_steps.specs.LoweredClasses.{Element, elements_of, is_lowered_element, any_element, is_lowered_class, holds_lowered, has_lowered_class, constructor_function, constructor_in, nothing_left}
use Rattle.es_steps.specs.Options.{lowers_fields, lowers_blocks}
use Rattle.es_lowered.specs.OwnNames.{own_name_numbers}
use Rattle.es_steps.specs.Parts.{at, items, string_of}
use Rattle.es_steps.specs.Printable.{is_printable, bare_strings, all_among}
use Rattle.es_steps.specs.PrivateNames.{private_members, is_class}
use Rattle.es_steps.specs.References.{resolve, has_number}
use Rattle.es_steps.specs.Scopes.{is_binding_identifier}
use Rattle.es_lowered.specs.Texts.{has_name, has_characters, has_its_text, all_have_their_texts}
use Rattle.es_steps.specs.Values.{String}
use Rattle.es_steps.specs.declared.options.Options.{Options}
use Rattle.es_lowered.specs.Carriers.{all_carried}
use Rattle.es_unchanged.proofs.Carried.{carried}
use Rattle.es_unchanged.proofs.Names.{number-apart, names-stay, strict-stays, classes-stay}
use Rattle.es_unchanged.proofs.References.{references-stay}
use Rattle.es_unchanged.proofs.Placed.{pairs-stand}
use Rattle.es_unchanged.proofs.Standing.{or_right, stands-equal, In, here, later, in-left, in-right, Among, among-append, all-equal, all-stand, within-more, within-both, within-same, within-append, all_within-append, apart-sym, home-same, temporaries-none, supers-stand}
use Rattle.es_unchanged.proofs.Unmarked.{names-timely}

-- ---- no number is new

abbrev pub Below : ℕ → List Tree → Type 0
Below first [] = Unit
Below first (t ∷ ts) = (number_of t < first) × Below first ts

below-append : (first : ℕ) (ts us : List Tree) → Below first ts → Below first us → Below first (ts ++ us)
below-append first [] us a b = b
below-append first (t ∷ ts) us a b = (a.0, below-append first ts us a.1 b)

below-first : (first : ℕ) (ts us : List Tree) → Below first (ts ++ us) → Below first ts
below-first first [] us b = tt
below-first first (t ∷ ts) us b = (b.0, below-first first ts us b.1)

below-second : (first : ℕ) (ts us : List Tree) → Below first (ts ++ us) → Below first us
below-second first [] us b = b
below-second first (t ∷ ts) us b = below-second first ts us b.1

-- the numbers n, n + 1, .. of a tree, where they end by `first`
mutual
  pub numbered-below : (first n : ℕ) (t : Tree) → n + nodes t ≤ first → Below first (preorder (numbered_from n t))
  numbered-below first n (Node kind id span semantic_id parts) l = (omega (arith, l), numbered_parts-below first (n + 1) parts (omega (arith, l)))

  numbered_part-below : (first n : ℕ) (p : Part) → n + nodes_of_part p ≤ first → Below first (preorder_of_part (numbered_part n p))
  numbered_part-below first n (child t) l = numbered-below first n t l
  numbered_part-below first n absent l = tt
  numbered_part-below first n (list all) l = numbered_parts-below first n all l
  numbered_part-below first n (string chars) l = tt
  numbered_part-below first n no_string l = tt
  numbered_part-below first n (boolean value) l = tt
  numbered_part-below first n (literal value) l = tt

  numbered_parts-below : (first n : ℕ) (ps : Parts) → n + nodes_of ps ≤ first → Below first (preorder_of (numbered_parts n ps))
  numbered_parts-below first n end l = tt
  numbered_parts-below first n (more p rest) l =
      below-append first (preorder_of_part (numbered_part n p)) (preorder_of (numbered_parts (n + nodes_of_part p) rest))
      (numbered_part-below first n p (omega (arith, l)))
      (numbered_parts-below first (n + nodes_of_part p) rest (omega (arith, l)))

below-none_new : (first : ℕ) (ts : List Tree) → Below first ts → filter (is_new first) (map number_of ts) ≡ []
below-none_new first [] b = refl
below-none_new first (t ∷ ts) b = rw (lt-leb first (number_of t) b.0) (below-none_new first ts b.1)

-- an old node, whose parts are old, is no new constant
part-below : (first i : ℕ) (ps : Parts) → Below first (preorder_of ps) → Below first (preorder_of_part (at i ps))
part-below first i end b = tt
part-below first zero (more p ps) b = below-first first (preorder_of_part p) (preorder_of ps) b
part-below first (suc i) (more p ps) b = part-below first i ps (below-second first (preorder_of_part p) (preorder_of ps) b)

old-declarators : (first : ℕ) (ps : Parts) → Below first (preorder_of ps) → has_new_declarator first ps ≡ false
old-declarators first end b = refl
old-declarators first (more (child (Node kind m span semantic_id qs)) ps) b =
    rw (lt-leb first m b.0) (old-declarators first ps (below-second first (preorder_of qs) (preorder_of ps) b.1))
old-declarators first (more absent ps) b = old-declarators first ps b
old-declarators first (more (list qs) ps) b = old-declarators first ps (below-second first (preorder_of qs) (preorder_of ps) b)
old-declarators first (more (string s) ps) b = old-declarators first ps b
old-declarators first (more no_string ps) b = old-declarators first ps b
old-declarators first (more (boolean x) ps) b = old-declarators first ps b
old-declarators first (more (literal v) ps) b = old-declarators first ps b

list-below : (first : ℕ) (p : Part) → Below first (preorder_of_part p) → Below first (preorder_of (items p))
list-below first (list ps) b = b
list-below first p b = tt

old-no_const : (first : ℕ) (kind : Kind) (m : ℕ) (span : Option (ℕ × ℕ)) (semantic_id : Option ℕ) (ps : Parts) → is_new first m ≡ false → Below first (preorder_of ps) → is_new_const first (Node kind m span semantic_id ps) ≡ false
old-no_const first Kind.VariableDeclaration m span semantic_id ps e b = rw (e, old-declarators first (items (at 1 ps)) (list-below first (at 1 ps) (part-below first 1 ps b))) refl
old-no_const first kind m span semantic_id ps e b = refl

-- so no new node declares a name
accounted-append : (first : ℕ) (own : List ℕ) (ts us : List Tree) → all_accounted first [] own ts ≡ true → all_accounted first [] own us ≡ true → all_accounted first [] own (ts ++ us) ≡ true
accounted-append first own [] us h i = i
accounted-append first own (t ∷ ts) us h i =
    let here = and_parts (not (is_new_const first t)) (is_accounted first [] own t && all_accounted first [] own ts) h in
    let behind = and_parts (is_accounted first [] own t) (all_accounted first [] own ts) here.1 in
    both here.0 (both behind.0 (accounted-append first own ts us behind.1 i))

mutual
  tree-accounted : (first : ℕ) (own : List ℕ) (t : Tree) → Below first (preorder t) → all_accounted first [] own (preorder t) ≡ true
  tree-accounted first own (Node kind m span semantic_id ps) b =
      rw (old-no_const first kind m span semantic_id ps (lt-leb first m b.0) b.1, lt-leb first m b.0, and-false (is_binding_identifier kind)) (parts-accounted first own ps b.1)

  part-accounted : (first : ℕ) (own : List ℕ) (p : Part) → Below first (preorder_of_part p) → all_accounted first [] own (preorder_of_part p) ≡ true
  part-accounted first own (child t) b = tree-accounted first own t b
  part-accounted first own absent b = refl
  part-accounted first own (list ps) b = parts-accounted first own ps b
  part-accounted first own (string s) b = refl
  part-accounted first own no_string b = refl
  part-accounted first own (boolean x) b = refl
  part-accounted first own (literal v) b = refl

  parts-accounted : (first : ℕ) (own : List ℕ) (ps : Parts) → Below first (preorder_of ps) → all_accounted first [] own (preorder_of ps) ≡ true
  parts-accounted first own end b = refl
  parts-accounted first own (more p ps) b =
      accounted-append first own (preorder_of_part p) (preorder_of ps)
      (part-accounted first own p (below-first first (preorder_of_part p) (preorder_of ps) b))
      (parts-accounted first own ps (below-second first (preorder_of_part p) (preorder_of ps) b))

-- ---- each number stands once

pub numbered-once : (t : Tree) → EachOnce (numbers (numbered_from 0 t))
numbered-once t =
    let whole : IsNumbered 0 (numbered_from 0 t) = subst (IsNumbered 0) (renumbered-zero 0 t) (IsNumbered-renumbered 0 t (EachOnce-old_zero t)) in
    whole.once

-- ---- nothing is defined by a node that is not new

both-false : (a b : Bool) → a ≡ true → (a && b) ≡ false → b ≡ false
both-false true b e h = h
both-false false b e h = absurd (true≢false (sym e))

abbrev is_empty : {A : Type 0} → List A → Bool
is_empty [] = true
is_empty (x ∷ xs) = false

append-none : {A : Type 0} (xs ys : List A) → xs ++ ys ≡ [] → (xs ≡ []) × (ys ≡ [])
append-none [] ys e = (refl, e)
append-none (x ∷ xs) ys e = absurd (true≢false (sym (ap is_empty e)))

element-public : (o : Options) (e : Element) → lowers_fields o ≡ true → is_lowered_element o e ≡ false → (e.is_field ≡ false) × (is_instance_method e ≡ false)
element-public o e f h =
    let here = none_of (lowers_fields o && (e.is_field || e.is_private)) (lowers_blocks o && e.is_block) h in
    let parts = none_of e.is_field e.is_private (both-false (lowers_fields o) (e.is_field || e.is_private) f here.0) in
    (parts.0, rw parts.1 refl)

nothing-either : (b : Bool) → cond {A = List FieldDefinition} b [] [] ≡ []
nothing-either true = refl
nothing-either false = refl

module _ (first : ℕ) where
  at-below : (i : ℕ) (ps : Parts) → Below first (preorder_of ps) → Below first (preorder_of_part (at i ps))
  at-below i end b = tt
  at-below zero (more p ps) b = below-first first (preorder_of_part p) (preorder_of ps) b
  at-below (suc i) (more p ps) b = at-below i ps (below-second first (preorder_of_part p) (preorder_of ps) b)

  items-below : (p : Part) → Below first (preorder_of_part p) → Below first (preorder_of (items p))
  items-below (list ps) b = b
  items-below p b = tt

  call-none : (f : Part) (es : Parts) → Below first (preorder_of_part f) → call_definition first [] f es ≡ []
  call-none (child (Node Kind.MemberExpression m span semantic_id (more (child (Node Kind.IdentifierReference n nspan n_semantic_id (more (string s) end))) (more (child (Node Kind.IdentifierName k kspan k_semantic_id (more (string h) end))) rest)))) es b = rw (lt-leb first n b.1.0) refl
  call-none f es b = refl

  definition-none : (o : Options) (kind : Kind) (m : ℕ) (ps : Parts) → m < first → Below first (preorder_of ps) → definition_at first o [] kind m ps ≡ []
  definition-none o Kind.CallExpression m ps l b = call-none (at 0 ps) (items (at 1 ps)) (at-below 0 ps b)
  definition-none o Kind.AssignmentExpression m ps l b = rw (lt-leb first m l) refl
  definition-none o Kind.VariableDeclarator m ps l b = refl
  definition-none o kind m ps l b = refl

  mutual
    definitions_in-none : (o : Options) (n : ℕ) (t : Tree) → Below first (preorder t) → definitions_in first o [] n t ≡ []
    definitions_in-none o n (Node kind m span semantic_id ps) b = rw (definition-none o kind m ps b.0 b.1, definitions_of-none o n ps b.1) (nothing-either _)

    definitions_at-none : (o : Options) (n : ℕ) (p : Part) → Below first (preorder_of_part p) → definitions_at first o [] n p ≡ []
    definitions_at-none o n (child t) b = definitions_in-none o n t b
    definitions_at-none o n absent b = refl
    definitions_at-none o n (list ps) b = definitions_of-none o n ps b
    definitions_at-none o n (string s) b = refl
    definitions_at-none o n no_string b = refl
    definitions_at-none o n (boolean v) b = refl
    definitions_at-none o n (literal v) b = refl

    definitions_of-none : (o : Options) (n : ℕ) (ps : Parts) → Below first (preorder_of ps) → definitions_of first o [] n ps ≡ []
    definitions_of-none o n end b = refl
    definitions_of-none o n (more p ps) b =
        rw (definitions_at-none o n p (below-first first (preorder_of_part p) (preorder_of ps) b), definitions_of-none o n ps (below-second first (preorder_of_part p) (preorder_of ps) b)) refl

  function_definitions-none : (o : Options) (n : ℕ) (p : Part) → Below first (preorder_of_part p) → function_definitions first o [] n p ≡ []
  function_definitions-none o n (child (Node kind m span semantic_id ps)) b = definitions_of-none o n ps b.1
  function_definitions-none o n p b = refl

  -- the function of the constructor stands in the class
  constructor_function-below : (ps : Parts) → Below first (preorder_of ps) → Below first (preorder_of_part (constructor_function ps))
  constructor_function-below end b = tt
  constructor_function-below (more (child (Node Kind.MethodDefinition m span semantic_id qs)) rest) b =
      either-below (is_constructor (string_of (at 2 qs))) (at-below 1 qs (below-first first (preorder_of qs) (preorder_of rest) b.1)) (constructor_function-below rest (below-second first (preorder_of qs) (preorder_of rest) b.1))
    where
      either-below : (c : Bool) → Below first (preorder_of_part (at 1 qs)) → Below first (preorder_of_part (constructor_function rest)) → Below first (preorder_of_part (cond c (at 1 qs) (constructor_function rest)))
      either-below true x y = x
      either-below false x y = y
  constructor_function-below (more p rest) b = constructor_function-below rest (below-second first (preorder_of_part p) (preorder_of rest) b)

  constructor_in-below : (p : Part) → Below first (preorder_of_part p) → Below first (preorder_of_part (constructor_in p))
  constructor_in-below (child (Node Kind.ClassBody m span semantic_id ps)) b = constructor_function-below (items (at 0 ps)) (items-below (at 0 ps) (at-below 0 ps b.1))
  constructor_in-below p b = tt

  -- so in a whole tree there is none
  none-behind : (o : Options) (ts us : List Tree) → all_definitions first o [] ts ≡ [] → all_definitions first o [] us ≡ [] → all_definitions first o [] (ts ++ us) ≡ []
  none-behind o [] us e f = f
  none-behind o (Node kind m span semantic_id ps ∷ ts) us e f =
      let parts = append-none (definition_at first o [] kind m ps) (all_definitions first o [] ts) e in
      rw parts.0 (none-behind o ts us parts.1 f)

  mutual
    all_definitions-none : (o : Options) (t : Tree) → Below first (preorder t) → all_definitions first o [] (preorder t) ≡ []
    all_definitions-none o (Node kind m span semantic_id ps) b = rw (definition-none o kind m ps b.0 b.1) (all_definitions_of-none o ps b.1)

    all_definitions_at-none : (o : Options) (p : Part) → Below first (preorder_of_part p) → all_definitions first o [] (preorder_of_part p) ≡ []
    all_definitions_at-none o (child t) b = all_definitions-none o t b
    all_definitions_at-none o absent b = refl
    all_definitions_at-none o (list ps) b = all_definitions_of-none o ps b
    all_definitions_at-none o (string s) b = refl
    all_definitions_at-none o no_string b = refl
    all_definitions_at-none o (boolean v) b = refl
    all_definitions_at-none o (literal v) b = refl

    all_definitions_of-none : (o : Options) (ps : Parts) → Below first (preorder_of ps) → all_definitions first o [] (preorder_of ps) ≡ []
    all_definitions_of-none o end b = refl
    all_definitions_of-none o (more p ps) b =
        none-behind o (preorder_of_part p) (preorder_of ps) (all_definitions_at-none o p (below-first first (preorder_of_part p) (preorder_of ps) b)) (all_definitions_of-none o ps (below-second first (preorder_of_part p) (preorder_of ps) b))

  constructors-behind : (o : Options) (n : ℕ) (ts us : List Tree) → constructor_definitions first o [] n ts ≡ [] → constructor_definitions first o [] n us ≡ [] → constructor_definitions first o [] n (ts ++ us) ≡ []
  constructors-behind o n [] us e f = f
  constructors-behind o n (Node kind m span semantic_id ps ∷ ts) us e f =
      let parts = append-none (cond (is_class kind && nat_eq n m) (function_definitions first o [] n (constructor_in (at 2 ps))) []) (constructor_definitions first o [] n ts) e in
      rw parts.0 (constructors-behind o n ts us parts.1 f)

  mutual
    constructors-none : (o : Options) (n : ℕ) (t : Tree) → Below first (preorder t) → constructor_definitions first o [] n (preorder t) ≡ []
    constructors-none o n (Node kind m span semantic_id ps) b =
        rw (function_definitions-none o n (constructor_in (at 2 ps)) (constructor_in-below (at 2 ps) (at-below 2 ps b.1)), nothing-either (is_class kind && nat_eq n m)) (constructors_of-none o n ps b.1)

    constructors_at-none : (o : Options) (n : ℕ) (p : Part) → Below first (preorder_of_part p) → constructor_definitions first o [] n (preorder_of_part p) ≡ []
    constructors_at-none o n (child t) b = constructors-none o n t b
    constructors_at-none o n absent b = refl
    constructors_at-none o n (list ps) b = constructors_of-none o n ps b
    constructors_at-none o n (string s) b = refl
    constructors_at-none o n no_string b = refl
    constructors_at-none o n (boolean v) b = refl
    constructors_at-none o n (literal v) b = refl

    constructors_of-none : (o : Options) (n : ℕ) (ps : Parts) → Below first (preorder_of ps) → constructor_definitions first o [] n (preorder_of ps) ≡ []
    constructors_of-none o n end b = refl
    constructors_of-none o n (more p ps) b =
        constructors-behind o n (preorder_of_part p) (preorder_of ps) (constructors_at-none o n p (below-first first (preorder_of_part p) (preorder_of ps) b)) (constructors_of-none o n ps (below-second first (preorder_of_part p) (preorder_of ps) b))

-- ---- and no helper is called by one, and no key kept by a new object or a new private element

callee-none : (first : ℕ) (h : String) (f : Part) → Below first (preorder_of_part f) → is_helper_callee first h f ≡ false
callee-none first h (child (Node Kind.MemberExpression m span semantic_id (more (child (Node Kind.IdentifierReference n nspan n_semantic_id (more (string s) end))) (more (child (Node Kind.IdentifierName k kspan k_semantic_id (more (string t) end))) rest)))) b = rw (lt-leb first n b.1.0) refl
callee-none first h f b = refl

old-private : (first : ℕ) (p : Part) → Below first (preorder_of_part p) → is_new_private first [] p ≡ false
old-private first (child (Node Kind.PrivateIdentifier d span semantic_id ps)) b = lt-leb first d b.0
old-private first p b = refl

module _ (first : ℕ) (keys : List ℕ) (x : Conversions) where
  call-fits : (m : ℕ) (f : Part) (es : Parts) → Below first (preorder_of_part f) → call_fits first [] keys x m f es ≡ true
  call-fits m f end b = refl
  call-fits m f (more e es) b = rw (callee-none first (codes "toPropertyKey") f b, callee-none first (codes "setFunctionName") f b) refl

  node-fits : (names : List String) (kind : Kind) (m : ℕ) (ps : Parts) → m < first → Below first (preorder_of ps) → node_fits first [] keys x names kind m ps ≡ true
  node-fits names Kind.CallExpression m ps l b = call-fits m (at 0 ps) (items (at 1 ps)) (part-below first 0 ps b)
  node-fits names Kind.Property m ps l b = rw (lt-leb first m l) refl
  node-fits names Kind.PropertyDefinition m ps l b = rw (old-private first (at 0 ps) (part-below first 0 ps b)) refl
  node-fits names kind m ps l b = refl

  mutual
    calls-fit : (names : List String) (t : Tree) → Below first (preorder t) → calls_fit first [] keys x names t ≡ true
    calls-fit names (Node kind m span semantic_id ps) b = both (node-fits names kind m ps b.0 b.1) (calls_in-fit (names_inside first [] keys x names kind ps) ps b.1)

    calls_in-fit : (names : List String) (ps : Parts) → Below first (preorder_of ps) → calls_in first [] keys x names ps ≡ true
    calls_in-fit names end b = refl
    calls_in-fit names (more p ps) b =
        both (calls_at-fit names p (below-first first (preorder_of_part p) (preorder_of ps) b)) (calls_in-fit names ps (below-second first (preorder_of_part p) (preorder_of ps) b))

    calls_at-fit : (names : List String) (p : Part) → Below first (preorder_of_part p) → calls_at first [] keys x names p ≡ true
    calls_at-fit names (child t) b = calls-fit names t b
    calls_at-fit names (list ps) b = calls_in-fit names ps b
    calls_at-fit names p b = refl

supers-none : (first : ℕ) (o : Options) (n : ℕ) (ts : List Tree) → super_definitions first o [] n ts ≡ []
supers-none first o n [] = refl
supers-none first o n (Node kind m span semantic_id ps ∷ ts) = supers-none first o n ts

-- ---- so the definitions are those of the fields, of which there are none

-- no element of these is lowered, with class properties on
no_fields : (o : Options) (is_static : Bool) (es : List Element) → lowers_fields o ≡ true → any_element (is_lowered_element o) es ≡ false → defined_fields o is_static es ≡ []
no_fields o is_static [] f h = refl
no_fields o is_static (e ∷ es) f h =
    let parts = none_of (is_lowered_element o e) (any_element (is_lowered_element o) es) h in
    rw ((element-public o e f parts.0).0) (no_fields o is_static es f parts.1)

no_methods : (o : Options) (es : List Element) → lowers_fields o ≡ true → any_element (is_lowered_element o) es ≡ false → any_of is_instance_method es ≡ false
no_methods o [] f h = refl
no_methods o (e ∷ es) f h =
    let parts = none_of (is_lowered_element o e) (any_element (is_lowered_element o) es) h in
    rw ((element-public o e f parts.0).1) (no_methods o es f parts.1)

classes-fit : (o : Options) (p q : Tree) (ts : List Tree) → lowers_fields o ≡ true → ((n : ℕ) → instance_definitions (nodes p) o [] q n ≡ []) → ((n : ℕ) → static_definitions (nodes p) o [] (private_members p) q n ≡ []) → holds_lowered o ts ≡ false → classes_fit (nodes p) o [] (private_members p) p q ts ≡ true
classes-fit o p q [] f i s h = refl
classes-fit o p q (Node kind n span semantic_id ps ∷ ts) f i s h =
    let parts = none_of (is_lowered_class o kind ps) (holds_lowered o ts) h in
    both (class-fits (is_class kind) parts.0) (classes-fit o p q ts f i s parts.1)
  where
    class-fits : (b : Bool) → (b && any_element (is_lowered_element o) (elements_of ps)) ≡ false → (not b || class_fits (nodes p) o [] (private_members p) p q n (elements_of ps)) ≡ true
    class-fits false e = refl
    class-fits true e = rw (no_methods o (elements_of ps) f e, no_fields o false (elements_of ps) f e, no_fields o true (elements_of ps) f e, i n, s n) refl

-- ---- what stands in a program stands in itself

free-either : (t : Tree) (ts us : List Tree) (b c : Bool) → Among ts us → Among (cond b (t ∷ []) (cond c [] ts)) (t ∷ us)
free-either t ts us true c h u here = here
free-either t ts us true c h u (later i) = elim i [ ]
free-either t ts us false true h u i = elim i [ ]
free-either t ts us false false h u i = later (h u i)

mutual
  free-among : (o : Options) (t : Tree) → Among (free_statements o t) (preorder t)
  free-among o (Node kind m span semantic_id ps) = free-either (Node kind m span semantic_id ps) (free_in o ps) (preorder_of ps) (is_free_statement o (Node kind m span semantic_id ps)) (is_lowered_class o kind ps) (free_in-among o ps)

  free_at-among : (o : Options) (p : Part) → Among (free_at o p) (preorder_of_part p)
  free_at-among o (child t) = free-among o t
  free_at-among o absent = λ u i. i
  free_at-among o (list ps) = free_in-among o ps
  free_at-among o (string s) = λ u i. i
  free_at-among o no_string = λ u i. i
  free_at-among o (boolean b) = λ u i. i
  free_at-among o (literal v) = λ u i. i

  free_in-among : (o : Options) (ps : Parts) → Among (free_in o ps) (preorder_of ps)
  free_in-among o end = λ u i. i
  free_in-among o (more p ps) = among-append (free_at o p) (free_in o ps) (preorder_of_part p) (preorder_of ps) (free_at-among o p) (free_in-among o ps)

-- the numbers of the statements and classes of a list stand in it
declared-carried : (t : Tree) → is_within (declared_classes (child t)) (carried_classes (child t)) ≡ true
declared-carried (Node Kind.ClassDeclaration n span semantic_id ps) = within-same (n ∷ [])
declared-carried (Node Kind.ExportNamedDeclaration m span semantic_id (more (child (Node Kind.ClassDeclaration n nspan n_semantic_id ps)) rest)) = within-same (n ∷ [])
declared-carried (Node Kind.ExportDefaultDeclaration m span semantic_id (more (child (Node Kind.ClassDeclaration n nspan n_semantic_id ps)) rest)) = within-same (n ∷ [])
declared-carried t = refl

free_number-within : (o : Options) (t : Tree) → is_within (free_number o (child t)) (item_number (child t)) ≡ true
free_number-within o t = either (is_free_statement o t || stays_in_list t)
  where
    either : (b : Bool) → is_within (cond b (number_of t ∷ []) [] ++ declared_classes (child t)) (number_of t ∷ carried_classes (child t)) ≡ true
    either true = within-both (number_of t) (declared_classes (child t)) (carried_classes (child t)) (declared-carried t)
    either false = within-more (declared_classes (child t)) (number_of t) (carried_classes (child t)) (declared-carried t)

free_numbers-within : (o : Options) (ps : Parts) → is_within (free_numbers o ps) (item_numbers ps) ≡ true
free_numbers-within o end = refl
free_numbers-within o (more (child t) ps) = within-append (free_number o (child t)) (item_number (child t)) (free_numbers o ps) (item_numbers ps) (free_number-within o t) (free_numbers-within o ps)
free_numbers-within o (more absent ps) = free_numbers-within o ps
free_numbers-within o (more (list qs) ps) = free_numbers-within o ps
free_numbers-within o (more (string s) ps) = free_numbers-within o ps
free_numbers-within o (more no_string ps) = free_numbers-within o ps
free_numbers-within o (more (boolean b) ps) = free_numbers-within o ps
free_numbers-within o (more (literal v) ps) = free_numbers-within o ps

-- ---- the statements of a list and the elements of a class stand in it

-- the statements of a node
node-list : (kind : Kind) (n : ℕ) (span : Option (ℕ × ℕ)) (semantic_id : Option ℕ) (ps : Parts) (qs : List Tree) → EachOnce (map number_of qs) → In (Node kind n span semantic_id ps) qs → list_of n qs ≡ item_numbers (statement_list kind ps)
unfolding IsDistinct
node-list kind n span semantic_id ps [] once h = elim h [ ]
node-list kind n span semantic_id ps (q ∷ qs) once here = rw (number-same n) refl
node-list kind n span semantic_id ps (Node other k kspan k_semantic_id ks ∷ qs) once (later i) =
    rw (apart-sym k n (number-apart k (Node kind n span semantic_id ps) qs once.0 i)) (node-list kind n span semantic_id ps qs once.1 i)

lists-either : (l : ℕ × List ℕ) (qs : List Tree) (b : Bool) → is_within l.1 (list_of l.0 qs) ≡ true → all_within (cond b [] (l ∷ [])) qs ≡ true
lists-either l qs true h = refl
lists-either l qs false h = both h refl

among-first : (ts us qs : List Tree) → Among (ts ++ us) qs → Among ts qs
among-first ts us qs h t i = h t (in-left t ts us i)

among-second : (ts us qs : List Tree) → Among (ts ++ us) qs → Among us qs
among-second ts us qs h t i = h t (in-right t ts us i)

module _ (o : Options) (qs : List Tree) (once : EachOnce (map number_of qs)) where
  mutual
    lists-within : (t : Tree) → Among (preorder t) qs → all_within (free_lists o t) qs ≡ true
    lists-within (Node kind m span semantic_id ps) h =
        let stands : is_within (free_numbers o (statement_list kind ps)) (list_of m qs) ≡ true = rw (node-list kind m span semantic_id ps qs once (h (Node kind m span semantic_id ps) here)) (free_numbers-within o (statement_list kind ps)) in
        let list : List (ℕ × List ℕ) = (m, free_numbers o (statement_list kind ps)) ∷ [] in
        all_within-append (cond (is_static_block kind) [] list) (free_lists_in o ps) qs
        (lists-either (m, free_numbers o (statement_list kind ps)) qs (is_static_block kind) stands)
        (lists_in-within ps (λ u i. h u (later i)))

    lists_at-within : (p : Part) → Among (preorder_of_part p) qs → all_within (free_lists_at o p) qs ≡ true
    lists_at-within (child t) h = lists-within t h
    lists_at-within absent h = refl
    lists_at-within (list ps) h = lists_in-within ps h
    lists_at-within (string s) h = refl
    lists_at-within no_string h = refl
    lists_at-within (boolean b) h = refl
    lists_at-within (literal v) h = refl

    lists_in-within : (ps : Parts) → Among (preorder_of ps) qs → all_within (free_lists_in o ps) qs ≡ true
    lists_in-within end h = refl
    lists_in-within (more p ps) h =
        all_within-append (free_lists_at o p) (free_lists_in o ps) qs
        (lists_at-within p (among-first (preorder_of_part p) (preorder_of ps) qs h))
        (lists_in-within ps (among-second (preorder_of_part p) (preorder_of ps) qs h))

-- the elements of a class
class-body : (kind : Kind) (n : ℕ) (span : Option (ℕ × ℕ)) (semantic_id : Option ℕ) (ps : Parts) (qs : List Tree) → is_class kind ≡ true → EachOnce (map number_of qs) → In (Node kind n span semantic_id ps) qs → body_numbers n qs ≡ element_numbers (elements_of ps)
unfolding IsDistinct
class-body kind n span semantic_id ps [] c once h = elim h [ ]
class-body kind n span semantic_id ps (q ∷ qs) c once here = rw (c, number-same n) refl
class-body kind n span semantic_id ps (Node other k kspan k_semantic_id ks ∷ qs) c once (later i) =
    rw (apart-sym k n (number-apart k (Node kind n span semantic_id ps) qs once.0 i), and-false (is_class other)) (class-body kind n span semantic_id ps qs c once.1 i)

unlowered : (o : Options) (es : List Element) → any_element (is_lowered_element o) es ≡ false → chosen (λ e. not (is_lowered_element o e)) es ≡ es
unlowered o [] h = refl
unlowered o (e ∷ es) h =
    let parts = none_of (is_lowered_element o e) (any_element (is_lowered_element o) es) h in
    rw parts.0 (ap (λ ds. e ∷ ds) (unlowered o es parts.1))

elements-stand : (o : Options) (ts qs : List Tree) → holds_lowered o ts ≡ false → Among ts qs → EachOnce (map number_of qs) → elements_kept o ts qs ≡ true
elements-stand o [] qs n h once = refl
elements-stand o (Node kind n span semantic_id ps ∷ ts) qs none h once =
    let parts = none_of (is_lowered_class o kind ps) (holds_lowered o ts) none in
    both (either (is_class kind) refl parts.0) (elements-stand o ts qs parts.1 (λ u i. h u (later i)) once)
  where
    either : (b : Bool) → is_class kind ≡ b → (b && any_element (is_lowered_element o) (elements_of ps)) ≡ false → (not b || is_within (element_numbers (chosen (λ e. not (is_lowered_element o e)) (elements_of ps))) (body_numbers n qs)) ≡ true
    either true c e = rw (unlowered o (elements_of ps) e, class-body kind n span semantic_id ps qs c once (h (Node kind n span semantic_id ps) here)) (within-same (element_numbers (elements_of ps)))
    either false c e = refl

-- ---- the program

same_or : (b : Bool) → (not b || b) ≡ true
same_or true = refl
same_or false = refl

-- the numbers of a program that is numbered from 0
record IsInTurn (t : Tree) : Type 0 where
  once : EachOnce (numbers t)
  below : Below (nodes t) (preorder t)

in-turn : (t : Tree) → t ≡ numbered_from 0 t → IsInTurn t
in-turn t e =
    record { once = subst (λ u. EachOnce (numbers u)) (sym e) (numbered-once t); below = subst (λ u. Below (nodes t) (preorder u)) (sym e) (numbered-below (nodes t) 0 t (omega arith)) }

definitions-stand : (o : Options) (p : Tree) → Below (nodes p) (preorder p) → has_lowered_class o p ≡ false → definitions_stand (nodes p) o [] (private_members p) p p ≡ true
definitions-stand o p below h = either (lowers_fields o) refl
  where
    instances : (n : ℕ) → instance_definitions (nodes p) o [] p n ≡ []
    instances n = rw (supers-none (nodes p) o n (preorder p), constructors-none (nodes p) o n p below) refl

    statics : (n : ℕ) → static_definitions (nodes p) o [] (private_members p) p n ≡ []
    statics n = rw (all_definitions-none (nodes p) o p below) refl

    either : (b : Bool) → lowers_fields o ≡ b → cond b (classes_fit (nodes p) o [] (private_members p) p p (preorder p) && supers_stand (nodes p) o [] (resolve p) (preorder p)) true ≡ true
    either false f = refl
    either true f = both (classes-fit o p p (preorder p) f instances statics h) (supers-stand (nodes p) o (resolve p) (preorder p))

keys-stand : (b : Bool) → (not b || true) ≡ true
keys-stand true = refl
keys-stand false = refl

among-all : (ns ks : List ℕ) → ((n : ℕ) → has_number n ns ≡ true → has_number n ks ≡ true) → all_among ns ks ≡ true
among-all [] ks h = refl
among-all (n ∷ ns) ks h = both (h n (rw (number-same n) refl)) (among-all ns ks (λ k i. h k (or_right (nat_eq k n) (has_number k ns) i)))

all-among : (ns : List ℕ) → all_among ns ns ≡ true
all-among ns = among-all ns ns (λ n h. h)

pub old-characters : (is_name : Bool) (t : Tree) (us : List Tree) (s : List ℕ) → In t us → has_characters is_name us t s ≡ true
old-characters true t us s i = rw (stands-equal t us i) refl
old-characters false t us s i = refl

-- each literal has its text
old-text : (first : ℕ) (t : Tree) (us : List Tree) → number_of t < first → In t us → has_its_text first us t ≡ true
old-text first (Node Kind.Literal n span semantic_id qs) us l i = rw (lt-leb first n l) (stands-equal (Node Kind.Literal n span semantic_id qs) us i)
old-text first (Node Kind.TemplateElement n span semantic_id qs) us l i = rw (lt-leb first n l) (stands-equal (Node Kind.TemplateElement n span semantic_id qs) us i)
old-text first (Node Kind.ExpressionStatement n span semantic_id (more e (more (string s) end))) us l i = or_right (is_new first n) (stands_equal (Node Kind.ExpressionStatement n span semantic_id (more e (more (string s) end))) us) (stands-equal (Node Kind.ExpressionStatement n span semantic_id (more e (more (string s) end))) us i)
old-text first (Node Kind.PrivateIdentifier n span semantic_id qs) us l i = rw (lt-leb first n l) (stands-equal (Node Kind.PrivateIdentifier n span semantic_id qs) us i)
old-text first (Node kind n span semantic_id qs) us l i = old-characters (has_name kind) (Node kind n span semantic_id qs) us (string_of (at 0 qs)) i

old-texts : (first : ℕ) (ts us : List Tree) → Below first ts → Among ts us → all_have_their_texts first us ts ≡ true
old-texts first [] us b h = refl
old-texts first (t ∷ ts) us b h = both (old-text first t us b.0 (h t here)) (old-texts first ts us b.1 (λ u i. h u (later i)))

all-carried : (first : ℕ) (ts us : List Tree) → Below first ts → Among ts us → all_carried first us ts ≡ true
all-carried first [] us b h = refl
all-carried first (t ∷ ts) us b h = both (carried first us t (lt-leb first (number_of t) b.0) (h t here)) (all-carried first ts us b.1 (λ u i. h u (later i)))

pub unchanged-owes : (o : Options) (t : Tree) → t ≡ numbered_from 0 t → has_lowered_class o t ≡ false → nothing_left o t ≡ true → IsLowered (nodes t) o [] t t
unchanged-owes o t e h left =
    let turn : IsInTurn t = in-turn t e in
    record {
      numbered = record { once = turn.once; consecutive = subst (AreConsecutive (nodes t)) (sym (below-none_new (nodes t) (preorder t) turn.below)) tt };
      clauses = record {
        left = left;
        declared = refl;
        accounted = tree-accounted (nodes t) (own_name_numbers t (resolve t) (preorder t)) t turn.below;
        names = names-stay t turn.once;
        references = references-stay (nodes t) o t;
        strict = strict-stays (nodes t) t;
        texts = old-texts (nodes t) (preorder t) (preorder t) turn.below (λ u i. i);
        initialized = refl;
        timely = names-timely (nodes t) (private_members t) t;
        temporaries = refl;
        keys = rw (temporaries-none (nodes t) o (private_members t) t (preorder t)) (keys-stand (lowers_fields o));
        classes = classes-stay (nodes t) t turn.once;
        carriers = both (all-carried (nodes t) (preorder t) (preorder t) turn.below (λ u i. i)) (pairs-stand (all_bound (nodes t) t) (all_bound (nodes t) t) (λ p i. i));
        nodes = all-stand (preorder t) (preorder t) (λ u i. i);
        statements = all-equal (free_statements o t) (preorder t) (free-among o t);
        lists = lists-within o (preorder t) turn.once t (λ u i. i);
        homes = home-same (nodes t) (lowered_blocks o t) (all_homes t);
        definitions = definitions-stand o t turn.below h;
        elements = elements-stand o (preorder t) (preorder t) h (λ u i. i) turn.once;
        calls = calls-fit (nodes t) (keys_that_stay (nodes t) [] t t) (conversions (nodes t) [] (preorder t)) [] t turn.below;
        printable = both (same_or (is_printable t)) (all-among (bare_strings (preorder t)));
      };
    }
