-- Classes that are lowered, and nodes that are kept, under a change of numbers.
use Rattle.std.specs.Prelude.{◌≡◌, ℕ, suc, List, [], ◌∷◌, map, false, cond, not, ◌&&◌, ◌||◌, nat_eq, Option, Some, None}
use Rattle.std.proofs.Common.{refl, ap, ap₂, ◌∙◌}
use Rattle.es_base.specs.Preorder.{preorder, number_of, preorder_of_part}
use Rattle.es_base.specs.Table.{is_statement}
use Rattle.es_base.specs.Tree.{Tree, Part, Parts, Node, end, more, child, absent, list, string, no_string, boolean, literal}
use Rattle.es_base.specs.declared.kind.Kind.{Kind}
use Rattle.es_base.specs.declared.literal.LiteralValue.TheVariants as literal_value
use Rattle.es_steps.specs.Context.{is_constructor}
use Rattle.es_steps.specs.KeptNodes.{are_new_or_among, numbers_in_class, none_enters, classes_kept, stays_in_list, NodeSort, sort_of, is_kept_sort, same_sort, stands_as, all_stand, nodes_kept, is_free_statement, free_statements, free_at, free_in, stands_equal, all_equal, statements_kept, statement_list, declared_classes, class_or_none, given_classes, carried_classes, is_static_block, item_number, item_numbers, is_function_declaration, free_number, free_numbers, free_lists, free_lists_at, free_lists_in, list_of, is_within, all_within, lists_kept, Homed, HomeHere, function_around, is_constructor_part, home_in, has_home, name_of, homed, homes, homes_in, homes_at, homes_of, all_homes, block_numbers, lowered_blocks, home_fits, name_fits, stands_at_home, stands_nowhere, all_at_home, homes_kept}
use Rattle.es_steps.specs.LoweredClasses.{Element, is_private_key, element_of, elements_in, body_elements, elements_of, is_lowered_element, any_element, is_lowered_class, holds_lowered, has_lowered_class, constructor_function, constructor_in, referent_of, is_fixed, has_no_items, is_regular_expression, needs_temporary, is_left_out}
use Rattle.es_steps.specs.Options.{lowers_blocks}
use Rattle.es_steps.specs.Parts.{at, items, string_of}
use Rattle.es_steps.specs.PrivateNames.{is_class}
use Rattle.es_steps.specs.References.{Reference}
use Rattle.es_steps.specs.SameTrees.{same_kind, same_tree, same_part, same_parts}
use Rattle.es_steps.specs.Scopes.{class_in}
use Rattle.es_steps.specs.Values.{Referent, Bound, Free}
use Rattle.es_steps.specs.declared.options.Options.{Options}
use Rattle.es_steps.proofs.Mapped.{Renames, mapped, mapped_part, mapped_parts, mapped_option, mapped_referent, mapped_reference}
use Rattle.es_steps.proofs.PartsMapped.{cond-mapped, append-mapped, at-mapped, items_at-mapped, string_at-mapped, is_true_at-mapped, is_present-mapped, number_of-mapped, preorder-mapped, preorder_of_part-mapped}
use Rattle.es_steps.proofs.ReferencesMapped.{has_number-mapped}
use Rattle.es_steps.proofs.ScopesMapped.{class_in-mapped}

module _ (f : ℕ → ℕ) where
  -- ---- elements

  abbrev pub mapped_element : Element → Element
  mapped_element e = record { number = f e.number; is_static = e.is_static; is_field = e.is_field; is_block = e.is_block; is_private = e.is_private; computed = e.computed; key = mapped_part f e.key; value = mapped_part f e.value }

  pub is_private_key-mapped : (p : Part) → is_private_key (mapped_part f p) ≡ is_private_key p
  is_private_key-mapped (child (Node Kind.PrivateIdentifier m span semantic_id ps)) = refl
  is_private_key-mapped p = refl

  element_of-mapped : (p : Part) → element_of (mapped_part f p) ≡ map mapped_element (element_of p)
  element_of-mapped (child (Node Kind.PropertyDefinition m span semantic_id ps)) = rw (is_true_at-mapped f 2 ps, is_true_at-mapped f 3 ps, at-mapped f 0 ps, at-mapped f 1 ps, is_private_key-mapped (at 0 ps)) refl
  element_of-mapped (child (Node Kind.MethodDefinition m span semantic_id ps)) = rw (is_true_at-mapped f 3 ps, is_true_at-mapped f 4 ps, at-mapped f 0 ps, at-mapped f 1 ps, is_private_key-mapped (at 0 ps)) refl
  element_of-mapped (child (Node Kind.StaticBlock m span semantic_id ps)) = refl
  element_of-mapped p = refl

  elements_in-mapped : (ps : Parts) → elements_in (mapped_parts f ps) ≡ map mapped_element (elements_in ps)
  elements_in-mapped end = refl
  elements_in-mapped (more p ps) = append-mapped mapped_element _ _ (element_of-mapped p) (elements_in-mapped ps)

  body_elements-mapped : (p : Part) → body_elements (mapped_part f p) ≡ map mapped_element (body_elements p)
  body_elements-mapped (child (Node Kind.ClassBody m span semantic_id ps)) = rw (items_at-mapped f 0 ps) (elements_in-mapped (items (at 0 ps)))
  body_elements-mapped p = refl

  pub elements_of-mapped : (ps : Parts) → elements_of (mapped_parts f ps) ≡ map mapped_element (elements_of ps)
  elements_of-mapped ps = ap body_elements (at-mapped f 2 ps) ∙ body_elements-mapped (at 2 ps)

  pub is_left_out-mapped : (o : Options) (e : Element) → is_left_out o (mapped_element e) ≡ is_left_out o e
  is_left_out-mapped o e = rw (is_present-mapped f e.value) refl

  -- ---- lowered classes

  any_lowered-mapped : (o : Options) (es : List Element) → any_element (is_lowered_element o) (map mapped_element es) ≡ any_element (is_lowered_element o) es
  any_lowered-mapped o [] = refl
  any_lowered-mapped o (e ∷ es) = ap (λ b. is_lowered_element o e || b) (any_lowered-mapped o es)

  pub is_lowered_class-mapped : (o : Options) (kind : Kind) (ps : Parts) → is_lowered_class o kind (mapped_parts f ps) ≡ is_lowered_class o kind ps
  is_lowered_class-mapped o kind ps = ap (λ b. is_class kind && b) (ap (any_element (is_lowered_element o)) (elements_of-mapped ps) ∙ any_lowered-mapped o (elements_of ps))

  holds_lowered-mapped : (o : Options) (ts : List Tree) → holds_lowered o (map (mapped f) ts) ≡ holds_lowered o ts
  holds_lowered-mapped o [] = refl
  holds_lowered-mapped o (Node kind m span semantic_id ps ∷ ts) = ap₂ (λ a b. a || b) (is_lowered_class-mapped o kind ps) (holds_lowered-mapped o ts)

  has_lowered_class-mapped : (o : Options) (t : Tree) → has_lowered_class o (mapped f t) ≡ has_lowered_class o t
  has_lowered_class-mapped o t = ap (holds_lowered o) (preorder-mapped f t) ∙ holds_lowered-mapped o (preorder t)

  constructor_function-mapped : (ps : Parts) → constructor_function (mapped_parts f ps) ≡ mapped_part f (constructor_function ps)
  constructor_function-mapped end = refl
  constructor_function-mapped (more (child (Node Kind.MethodDefinition m span semantic_id ps)) rest) = rw (string_at-mapped f 2 ps) (cond-mapped (mapped_part f) (is_constructor (string_of (at 2 ps))) (at 1 ps) (constructor_function rest) (at-mapped f 1 ps) (constructor_function-mapped rest))
  constructor_function-mapped (more p rest) = constructor_function-mapped rest

  pub constructor_in-mapped : (p : Part) → constructor_in (mapped_part f p) ≡ mapped_part f (constructor_in p)
  constructor_in-mapped (child (Node Kind.ClassBody m span semantic_id ps)) = rw (items_at-mapped f 0 ps) (constructor_function-mapped (items (at 0 ps)))
  constructor_in-mapped p = refl

  is_regular_expression-mapped : (p : Part) → is_regular_expression (mapped_part f p) ≡ is_regular_expression p
  is_regular_expression-mapped (literal (literal_value.RegExp source flags)) = refl
  is_regular_expression-mapped p = refl

  has_no_items-mapped : (p : Part) → has_no_items (mapped_part f p) ≡ has_no_items p
  has_no_items-mapped (list end) = refl
  has_no_items-mapped p = refl

  -- ---- statements

  is_free_statement-mapped : (o : Options) (t : Tree) → is_free_statement o (mapped f t) ≡ is_free_statement o t
  is_free_statement-mapped o (Node kind m span semantic_id ps) = ap (λ b. is_statement kind && not b) (has_lowered_class-mapped o (Node kind m span semantic_id ps))

  mutual
    free_statements-mapped : (o : Options) (t : Tree) → free_statements o (mapped f t) ≡ map (mapped f) (free_statements o t)
    free_statements-mapped o (Node kind m span semantic_id ps) =
        rw (is_free_statement-mapped o (Node kind m span semantic_id ps), is_lowered_class-mapped o kind ps)
        (cond-mapped (map (mapped f)) (is_free_statement o (Node kind m span semantic_id ps)) (Node kind m span semantic_id ps ∷ []) _ refl (cond-mapped (map (mapped f)) (is_lowered_class o kind ps) [] (free_in o ps) refl (free_in-mapped o ps)))

    free_at-mapped : (o : Options) (p : Part) → free_at o (mapped_part f p) ≡ map (mapped f) (free_at o p)
    free_at-mapped o (child t) = free_statements-mapped o t
    free_at-mapped o (list ps) = free_in-mapped o ps
    free_at-mapped o p = refl

    free_in-mapped : (o : Options) (ps : Parts) → free_in o (mapped_parts f ps) ≡ map (mapped f) (free_in o ps)
    free_in-mapped o end = refl
    free_in-mapped o (more p ps) = append-mapped (mapped f) _ _ (free_at-mapped o p) (free_in-mapped o ps)

  pub statement_list-mapped : (kind : Kind) (ps : Parts) → statement_list kind (mapped_parts f ps) ≡ mapped_parts f (statement_list kind ps)
  statement_list-mapped Kind.Program ps = items_at-mapped f 1 ps
  statement_list-mapped Kind.BlockStatement ps = items_at-mapped f 0 ps
  statement_list-mapped Kind.StaticBlock ps = items_at-mapped f 0 ps
  statement_list-mapped Kind.SwitchCase ps = items_at-mapped f 1 ps
  statement_list-mapped kind ps = refl

  declared_classes-mapped : (p : Part) → declared_classes (mapped_part f p) ≡ map f (declared_classes p)
  declared_classes-mapped (child (Node Kind.ClassDeclaration n span semantic_id ps)) = refl
  declared_classes-mapped (child (Node Kind.ExportNamedDeclaration m span semantic_id (more (child (Node Kind.ClassDeclaration n nspan n_semantic_id ps)) rest))) = refl
  declared_classes-mapped (child (Node Kind.ExportDefaultDeclaration m span semantic_id (more (child (Node Kind.ClassDeclaration n nspan n_semantic_id ps)) rest))) = refl
  declared_classes-mapped p = refl

  class_or_none-mapped : (n : Option ℕ) → class_or_none (mapped_option f n) ≡ map f (class_or_none n)
  class_or_none-mapped None = refl
  class_or_none-mapped (Some n) = refl

  given_class-mapped : (p : Part) → class_or_none (class_in (mapped_part f p)) ≡ map f (class_or_none (class_in p))
  given_class-mapped p = ap class_or_none (class_in-mapped f p) ∙ class_or_none-mapped (class_in p)

  given_classes-mapped : (ps : Parts) → given_classes (mapped_parts f ps) ≡ map f (given_classes ps)
  given_classes-mapped end = refl
  given_classes-mapped (more (child (Node Kind.VariableDeclarator m span semantic_id ps)) rest) = append-mapped f _ _ (ap (λ p. class_or_none (class_in p)) (at-mapped f 1 ps) ∙ given_class-mapped (at 1 ps)) (given_classes-mapped rest)
  given_classes-mapped (more p rest) = given_classes-mapped rest

  given_classes_at-mapped : (ps : Parts) → given_classes (items (at 1 (mapped_parts f ps))) ≡ map f (given_classes (items (at 1 ps)))
  given_classes_at-mapped ps = ap given_classes (items_at-mapped f 1 ps) ∙ given_classes-mapped (items (at 1 ps))

  carried_classes-mapped : (p : Part) → carried_classes (mapped_part f p) ≡ map f (carried_classes p)
  carried_classes-mapped (child (Node Kind.VariableDeclaration m span semantic_id ps)) = given_classes_at-mapped ps
  carried_classes-mapped (child (Node Kind.ExportNamedDeclaration m span semantic_id (more (child (Node Kind.VariableDeclaration k kspan k_semantic_id ps)) rest))) = given_classes_at-mapped ps
  carried_classes-mapped (child (Node Kind.ExportDefaultDeclaration m span semantic_id (more (child (Node Kind.ClassDeclaration n nspan n_semantic_id ps)) rest))) = refl
  carried_classes-mapped (child (Node Kind.ExportDefaultDeclaration m span semantic_id (more e rest))) = default_classes-mapped e
    where
      default_classes-mapped : (e : Part) → carried_classes (child (Node Kind.ExportDefaultDeclaration (f m) None None (more (mapped_part f e) (mapped_parts f rest)))) ≡ map f (carried_classes (child (Node Kind.ExportDefaultDeclaration m span semantic_id (more e rest))))
      default_classes-mapped (child (Node Kind.ClassDeclaration n nspan n_semantic_id ps)) = refl
      default_classes-mapped e = given_class-mapped e
  carried_classes-mapped p = declared_classes-mapped p

  item_number-mapped : (p : Part) → item_number (mapped_part f p) ≡ map f (item_number p)
  item_number-mapped (child t) = ap₂ (λ n ns. n ∷ ns) (number_of-mapped f t) (carried_classes-mapped (child t))
  item_number-mapped p = refl

  item_numbers-mapped : (ps : Parts) → item_numbers (mapped_parts f ps) ≡ map f (item_numbers ps)
  item_numbers-mapped end = refl
  item_numbers-mapped (more p ps) = append-mapped f _ _ (item_number-mapped p) (item_numbers-mapped ps)

  pub is_function_declaration-mapped : (t : Tree) → is_function_declaration (mapped f t) ≡ is_function_declaration t
  is_function_declaration-mapped (Node Kind.FunctionDeclaration m span semantic_id ps) = refl
  is_function_declaration-mapped t = refl

  stays_in_list-mapped : (t : Tree) → stays_in_list (mapped f t) ≡ stays_in_list t
  stays_in_list-mapped (Node Kind.VariableDeclaration m span semantic_id ps) = refl
  stays_in_list-mapped t = is_function_declaration-mapped t

  free_number-mapped : (o : Options) (p : Part) → free_number o (mapped_part f p) ≡ map f (free_number o p)
  free_number-mapped o (child t) = append-mapped f _ _ (own o t) (declared_classes-mapped (child t))
    where
      own : (o : Options) (t : Tree) → cond (is_free_statement o (mapped f t) || stays_in_list (mapped f t)) (number_of (mapped f t) ∷ []) [] ≡ map f (cond (is_free_statement o t || stays_in_list t) (number_of t ∷ []) [])
      own o t = rw (is_free_statement-mapped o t, stays_in_list-mapped t, number_of-mapped f t) (cond-mapped (map f) (is_free_statement o t || stays_in_list t) (number_of t ∷ []) [] refl refl)
  free_number-mapped o p = refl

  free_numbers-mapped : (o : Options) (ps : Parts) → free_numbers o (mapped_parts f ps) ≡ map f (free_numbers o ps)
  free_numbers-mapped o end = refl
  free_numbers-mapped o (more p ps) = append-mapped f _ _ (free_number-mapped o p) (free_numbers-mapped o ps)

  abbrev mapped_list : ℕ × List ℕ → ℕ × List ℕ
  mapped_list l = (f l.0, map f l.1)

  abbrev own_list : Options → Kind → ℕ → Parts → List (ℕ × List ℕ)
  own_list o kind m ps = cond (is_static_block kind) [] ((m, free_numbers o (statement_list kind ps)) ∷ [])

  own_list-mapped : (o : Options) (kind : Kind) (m : ℕ) (ps : Parts) → own_list o kind (f m) (mapped_parts f ps) ≡ map mapped_list (own_list o kind m ps)
  own_list-mapped o kind m ps =
      ap (λ ns. cond (is_static_block kind) [] ((f m, ns) ∷ [])) (ap (free_numbers o) (statement_list-mapped kind ps) ∙ free_numbers-mapped o (statement_list kind ps))
      ∙ cond-mapped (map mapped_list) (is_static_block kind) [] ((m, free_numbers o (statement_list kind ps)) ∷ []) refl refl

  mutual
    free_lists-mapped : (o : Options) (t : Tree) → free_lists o (mapped f t) ≡ map mapped_list (free_lists o t)
    free_lists-mapped o (Node kind m span semantic_id ps) =
        append-mapped mapped_list _ _ (own_list-mapped o kind m ps) (free_lists_in-mapped o ps)

    free_lists_at-mapped : (o : Options) (p : Part) → free_lists_at o (mapped_part f p) ≡ map mapped_list (free_lists_at o p)
    free_lists_at-mapped o (child t) = free_lists-mapped o t
    free_lists_at-mapped o (list ps) = free_lists_in-mapped o ps
    free_lists_at-mapped o p = refl

    free_lists_in-mapped : (o : Options) (ps : Parts) → free_lists_in o (mapped_parts f ps) ≡ map mapped_list (free_lists_in o ps)
    free_lists_in-mapped o end = refl
    free_lists_in-mapped o (more p ps) = append-mapped mapped_list _ _ (free_lists_at-mapped o p) (free_lists_in-mapped o ps)

  -- ---- homes

  abbrev mapped_homed : Homed → Homed
  mapped_homed x = record { number = f x.number; home = f x.home; spelling = x.spelling; is_own_name = x.is_own_name; in_constructor = x.in_constructor }

  abbrev mapped_here : HomeHere → HomeHere
  mapped_here x = record { of_function = f x.of_function; is_own_name = x.is_own_name; in_constructor = x.in_constructor }

  pub function_around-mapped : (home : ℕ) (kind : Kind) (m i : ℕ) → function_around (f home) kind (f m) i ≡ f (function_around home kind m i)
  function_around-mapped home Kind.FunctionDeclaration m i = cond-mapped f (nat_eq i 0) home m refl refl
  function_around-mapped home Kind.StaticBlock m i = refl
  function_around-mapped home Kind.FunctionExpression m i = refl
  function_around-mapped home Kind.ArrowFunctionExpression m i = refl
  function_around-mapped home kind m i = refl

  pub is_constructor_part-mapped : (kind : Kind) (ps : Parts) (i : ℕ) → is_constructor_part kind (mapped_parts f ps) i ≡ is_constructor_part kind ps i
  is_constructor_part-mapped Kind.MethodDefinition ps i = ap (λ s. nat_eq i 1 && is_constructor s) (string_at-mapped f 2 ps)
  is_constructor_part-mapped kind ps i = refl

  home_in-mapped : (x : HomeHere) (kind : Kind) (m : ℕ) (ps : Parts) (i : ℕ) → home_in (mapped_here x) kind (f m) (mapped_parts f ps) i ≡ mapped_here (home_in x kind m ps i)
  home_in-mapped x kind m ps i = rw (function_around-mapped x.of_function kind m i, is_constructor_part-mapped kind ps i) refl

  name_of-mapped : (kind : Kind) (ps : Parts) → name_of kind (mapped_parts f ps) ≡ name_of kind ps
  name_of-mapped Kind.BindingIdentifier ps = string_at-mapped f 0 ps
  name_of-mapped kind ps = refl

  homed-mapped : (x : HomeHere) (kind : Kind) (m : ℕ) (ps : Parts) → homed (mapped_here x) kind (f m) (mapped_parts f ps) ≡ map mapped_homed (homed x kind m ps)
  homed-mapped x kind m ps =
      rw (name_of-mapped kind ps)
      (cond-mapped (map mapped_homed) (has_home kind) (record { number = m; home = x.of_function; spelling = name_of kind ps; is_own_name = x.is_own_name; in_constructor = x.in_constructor } ∷ []) [] refl refl)

  mutual
    homes-mapped : (x : HomeHere) (t : Tree) → homes (mapped_here x) (mapped f t) ≡ map mapped_homed (homes x t)
    homes-mapped x (Node kind m span semantic_id ps) =
        append-mapped mapped_homed _ _ (homed-mapped x kind m ps) (homes_in-mapped _ (home_in x kind m ps) (home_in-mapped x kind m ps) ps)

    homes_in-mapped : (y x : ℕ → HomeHere) → ((i : ℕ) → y i ≡ mapped_here (x i)) → (ps : Parts) → homes_in y (mapped_parts f ps) ≡ map mapped_homed (homes_in x ps)
    homes_in-mapped y x same end = refl
    homes_in-mapped y x same (more p ps) =
        append-mapped mapped_homed _ _ (ap (λ h. homes_at h (mapped_part f p)) (same 0) ∙ homes_at-mapped (x 0) p)
        (homes_in-mapped (λ i. y (suc i)) (λ i. x (suc i)) (λ i. same (suc i)) ps)

    homes_at-mapped : (x : HomeHere) (p : Part) → homes_at (mapped_here x) (mapped_part f p) ≡ map mapped_homed (homes_at x p)
    homes_at-mapped x (child t) = homes-mapped x t
    homes_at-mapped x (list ps) = homes_of-mapped x ps
    homes_at-mapped x p = refl

    homes_of-mapped : (x : HomeHere) (ps : Parts) → homes_of (mapped_here x) (mapped_parts f ps) ≡ map mapped_homed (homes_of x ps)
    homes_of-mapped x end = refl
    homes_of-mapped x (more p ps) = append-mapped mapped_homed _ _ (homes_at-mapped x p) (homes_of-mapped x ps)

  all_homes-mapped : (t : Tree) → all_homes (mapped f t) ≡ map mapped_homed (all_homes t)
  all_homes-mapped t =
      ap (λ n. homes (record { of_function = n; is_own_name = false; in_constructor = false }) (mapped f t)) (number_of-mapped f t)
      ∙ homes-mapped (record { of_function = number_of t; is_own_name = false; in_constructor = false }) t

  block_numbers-mapped : (ts : List Tree) → block_numbers (map (mapped f) ts) ≡ map f (block_numbers ts)
  block_numbers-mapped [] = refl
  block_numbers-mapped (Node kind m span semantic_id ps ∷ ts) = append-mapped f _ _ (cond-mapped (map f) (is_static_block kind) (m ∷ []) [] refl refl) (block_numbers-mapped ts)

  lowered_blocks-mapped : (o : Options) (p : Tree) → lowered_blocks o (mapped f p) ≡ map f (lowered_blocks o p)
  lowered_blocks-mapped o p = cond-mapped (map f) (lowers_blocks o) (block_numbers (preorder p)) [] (ap block_numbers (preorder-mapped f p) ∙ block_numbers-mapped (preorder p)) refl

module _ {first : ℕ} {f : ℕ → ℕ} (r : Renames first f) where
  -- ---- nothing gets into a class

  pub are_new_or_among-mapped : (there ns : List ℕ) → are_new_or_among first (map f there) (map f ns) ≡ are_new_or_among first there ns
  are_new_or_among-mapped there [] = refl
  are_new_or_among-mapped there (n ∷ ns) = rw (r.new n, has_number-mapped r n there, are_new_or_among-mapped there ns) refl

  numbers-mapped : (ts : List Tree) → map number_of (map (mapped f) ts) ≡ map f (map number_of ts)
  numbers-mapped [] = refl
  numbers-mapped (t ∷ ts) = ap₂ (λ n ns. n ∷ ns) (number_of-mapped f t) (numbers-mapped ts)

  body_numbers-mapped : (ps : Parts) → map number_of (preorder_of_part (at 2 (mapped_parts f ps))) ≡ map f (map number_of (preorder_of_part (at 2 ps)))
  body_numbers-mapped ps = ap (λ p. map number_of (preorder_of_part p)) (at-mapped f 2 ps) ∙ ap (map number_of) (preorder_of_part-mapped f (at 2 ps)) ∙ numbers-mapped (preorder_of_part (at 2 ps))

  numbers_in_class-mapped : (n : ℕ) (ts : List Tree) → numbers_in_class (f n) (map (mapped f) ts) ≡ map f (numbers_in_class n ts)
  numbers_in_class-mapped n [] = refl
  numbers_in_class-mapped n (Node kind m span semantic_id ps ∷ ts) =
      rw (r.apart n m) (cond-mapped (map f) (is_class kind && nat_eq n m) (map number_of (preorder_of_part (at 2 ps))) (numbers_in_class n ts) (body_numbers-mapped ps) (numbers_in_class-mapped n ts))

  none_enters-mapped : (ps ts : List Tree) → none_enters first (map (mapped f) ps) (map (mapped f) ts) ≡ none_enters first ps ts
  none_enters-mapped ps [] = refl
  none_enters-mapped ps (Node kind n span semantic_id qs ∷ ts) =
      ap₂ (λ a b. (not (is_class kind) || a) && b)
      (ap₂ (are_new_or_among first) (numbers_in_class-mapped n ps) (body_numbers-mapped qs) ∙ are_new_or_among-mapped (numbers_in_class n ps) (map number_of (preorder_of_part (at 2 qs))))
      (none_enters-mapped ps ts)

  pub classes_kept-mapped : (p q : Tree) → classes_kept first (mapped f p) (mapped f q) ≡ classes_kept first p q
  classes_kept-mapped p q = rw (preorder-mapped f p, preorder-mapped f q) (none_enters-mapped (preorder p) (preorder q))

  -- ---- keys

  pub referent_of-mapped : (m : ℕ) (rs : List Reference) → referent_of (f m) (map (mapped_reference f) rs) ≡ mapped_option (mapped_referent f) (referent_of m rs)
  referent_of-mapped m [] = refl
  referent_of-mapped m (x ∷ xs) = rw (r.apart m x.number) (cond-mapped (mapped_option (mapped_referent f)) (nat_eq m x.number) (Some x.to) (referent_of m xs) refl (referent_of-mapped m xs))

  is_fixed-mapped : (written : List ℕ) (to : Option Referent) → is_fixed (map f written) (mapped_option (mapped_referent f) to) ≡ is_fixed written to
  is_fixed-mapped written (Some (Bound b)) = ap not (has_number-mapped r b written)
  is_fixed-mapped written (Some (Free s)) = refl
  is_fixed-mapped written None = refl

  pub needs_temporary-mapped : (written : List ℕ) (references : List Reference) (p : Part) → needs_temporary (map f written) (map (mapped_reference f) references) (mapped_part f p) ≡ needs_temporary written references p
  needs_temporary-mapped written references (child (Node Kind.Literal m span semantic_id ps)) = rw (at-mapped f 0 ps) (is_regular_expression-mapped f (at 0 ps))
  needs_temporary-mapped written references (child (Node Kind.TemplateLiteral m span semantic_id ps)) = rw (at-mapped f 1 ps, has_no_items-mapped f (at 1 ps)) refl
  needs_temporary-mapped written references (child (Node Kind.IdentifierReference m span semantic_id ps)) = ap not (ap (is_fixed (map f written)) (referent_of-mapped m references) ∙ is_fixed-mapped written (referent_of m references))
  needs_temporary-mapped written references p = refl

  -- ---- the same trees

  mutual
    same_tree-mapped : (t u : Tree) → same_tree (mapped f t) (mapped f u) ≡ same_tree t u
    same_tree-mapped (Node kind m span semantic_id ps) (Node kind2 m2 span2 semantic_id2 qs) = ap₂ (λ a b. same_kind kind kind2 && (a && b)) (r.apart m m2) (same_parts-mapped ps qs)

    pub same_part-mapped : (p q : Part) → same_part (mapped_part f p) (mapped_part f q) ≡ same_part p q
    same_part-mapped (child t) (child u) = same_tree-mapped t u
    same_part-mapped absent absent = refl
    same_part-mapped (list ps) (list qs) = same_parts-mapped ps qs
    same_part-mapped (string s) (string t) = refl
    same_part-mapped no_string no_string = refl
    same_part-mapped (boolean b) (boolean c) = refl
    same_part-mapped (literal v) (literal w) = refl
    same_part-mapped p q = refl

    pub same_parts-mapped : (ps qs : Parts) → same_parts (mapped_parts f ps) (mapped_parts f qs) ≡ same_parts ps qs
    same_parts-mapped end end = refl
    same_parts-mapped (more p ps) (more q qs) = ap₂ (λ a b. a && b) (same_part-mapped p q) (same_parts-mapped ps qs)
    same_parts-mapped ps qs = refl

  pub stands_equal-mapped : (t : Tree) (qs : List Tree) → stands_equal (mapped f t) (map (mapped f) qs) ≡ stands_equal t qs
  stands_equal-mapped t [] = refl
  stands_equal-mapped t (q ∷ qs) = ap₂ (λ a b. a || b) (same_tree-mapped t q) (stands_equal-mapped t qs)

  all_equal-mapped : (ts qs : List Tree) → all_equal (map (mapped f) ts) (map (mapped f) qs) ≡ all_equal ts qs
  all_equal-mapped [] qs = refl
  all_equal-mapped (t ∷ ts) qs = ap₂ (λ a b. a && b) (stands_equal-mapped t qs) (all_equal-mapped ts qs)

  pub statements_kept-mapped : (o : Options) (p q : Tree) → statements_kept o (mapped f p) (mapped f q) ≡ statements_kept o p q
  statements_kept-mapped o p q = ap₂ all_equal (free_statements-mapped f o p) (preorder-mapped f q) ∙ all_equal-mapped (free_statements o p) (preorder q)

  -- ---- nodes

  stands_as-mapped : (m : ℕ) (sort : NodeSort) (ts : List Tree) → stands_as (f m) sort (map (mapped f) ts) ≡ stands_as m sort ts
  stands_as-mapped m sort [] = refl
  stands_as-mapped m sort (Node kind k span semantic_id ps ∷ ts) = ap₂ (λ a b. (a && same_sort sort (sort_of kind)) || b) (r.apart m k) (stands_as-mapped m sort ts)

  all_stand-mapped : (ts qs : List Tree) → all_stand (map (mapped f) ts) (map (mapped f) qs) ≡ all_stand ts qs
  all_stand-mapped [] qs = refl
  all_stand-mapped (Node kind m span semantic_id ps ∷ ts) qs = ap₂ (λ a b. (not (is_kept_sort (sort_of kind)) || a) && b) (stands_as-mapped m (sort_of kind) qs) (all_stand-mapped ts qs)

  pub nodes_kept-mapped : (p q : Tree) → nodes_kept (mapped f p) (mapped f q) ≡ nodes_kept p q
  nodes_kept-mapped p q = ap₂ all_stand (preorder-mapped f p) (preorder-mapped f q) ∙ all_stand-mapped (preorder p) (preorder q)

  -- ---- lists

  list_of-mapped : (m : ℕ) (ts : List Tree) → list_of (f m) (map (mapped f) ts) ≡ map f (list_of m ts)
  list_of-mapped m [] = refl
  list_of-mapped m (Node kind k span semantic_id ps ∷ ts) = rw (r.apart m k, statement_list-mapped f kind ps) (cond-mapped (map f) (nat_eq m k) (item_numbers (statement_list kind ps)) (list_of m ts) (item_numbers-mapped f (statement_list kind ps)) (list_of-mapped m ts))

  pub is_within-mapped : (xs ys : List ℕ) → is_within (map f xs) (map f ys) ≡ is_within xs ys
  is_within-mapped [] ys = refl
  is_within-mapped (x ∷ xs) [] = refl
  is_within-mapped (x ∷ xs) (y ∷ ys) = rw (r.apart x y, is_within-mapped xs ys) (ap (λ b. cond (nat_eq x y) (is_within xs ys) b) (is_within-mapped (x ∷ xs) ys))

  all_within-mapped : (ls : List (ℕ × List ℕ)) (qs : List Tree) → all_within (map (mapped_list f) ls) (map (mapped f) qs) ≡ all_within ls qs
  all_within-mapped [] qs = refl
  all_within-mapped (l ∷ ls) qs = ap₂ (λ a b. a && b) (ap (is_within (map f l.1)) (list_of-mapped l.0 qs) ∙ is_within-mapped l.1 (list_of l.0 qs)) (all_within-mapped ls qs)

  pub lists_kept-mapped : (o : Options) (p q : Tree) → lists_kept o (mapped f p) (mapped f q) ≡ lists_kept o p q
  lists_kept-mapped o p q = ap₂ all_within (free_lists-mapped f o p) (preorder-mapped f q) ∙ all_within-mapped (free_lists o p) (preorder q)

  -- ---- homes

  home_fits-mapped : (blocks : List ℕ) (x y : Homed) → home_fits first (map f blocks) (mapped_homed f x) (mapped_homed f y) ≡ home_fits first blocks x y
  home_fits-mapped blocks x y = rw (r.apart x.home y.home, has_number-mapped r x.home blocks, r.new y.home) refl

  stands_at_home-mapped : (blocks : List ℕ) (x : Homed) (ys : List Homed) → stands_at_home first (map f blocks) (mapped_homed f x) (map (mapped_homed f) ys) ≡ stands_at_home first blocks x ys
  stands_at_home-mapped blocks x [] = refl
  stands_at_home-mapped blocks x (y ∷ ys) =
      ap₂ (λ a b. a || b) (ap₂ (λ a b. a && (b && name_fits first blocks x y)) (r.apart x.number y.number) (home_fits-mapped blocks x y)) (stands_at_home-mapped blocks x ys)

  stands_nowhere-mapped : (blocks : List ℕ) (x : Homed) (ys : List Homed) → stands_nowhere first (map f blocks) (mapped_homed f x) (map (mapped_homed f) ys) ≡ stands_nowhere first blocks x ys
  stands_nowhere-mapped blocks x [] = refl
  stands_nowhere-mapped blocks x (y ∷ ys) = ap₂ (λ a b. not a && b) (r.apart x.number y.number) (stands_nowhere-mapped blocks x ys)

  all_at_home-mapped : (blocks : List ℕ) (xs ys : List Homed) → all_at_home first (map f blocks) (map (mapped_homed f) xs) (map (mapped_homed f) ys) ≡ all_at_home first blocks xs ys
  all_at_home-mapped blocks [] ys = refl
  all_at_home-mapped blocks (x ∷ xs) ys =
      ap₂ (λ a b. a && b) (ap₂ (λ a b. a || (x.is_own_name && b)) (stands_at_home-mapped blocks x ys) (stands_nowhere-mapped blocks x ys)) (all_at_home-mapped blocks xs ys)

  pub homes_kept-mapped : (o : Options) (p q : Tree) → homes_kept first o (mapped f p) (mapped f q) ≡ homes_kept first o p q
  homes_kept-mapped o p q =
      rw (lowered_blocks-mapped f o p, all_homes-mapped f p, all_homes-mapped f q)
      (all_at_home-mapped (lowered_blocks o p) (all_homes p) (all_homes q))
