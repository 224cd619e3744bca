-- That what reads without an event stands behind what it stood behind does not depend on numbers.
use Rattle.std.specs.Prelude.{◌≡◌, ℕ, suc, List, [], ◌∷◌, ◌++◌, map, Bool, true, false, cond, not, ◌&&◌, ◌||◌, nat_eq, nat_le, bytes_eq, codes, Option, Some, None}
use Rattle.std.proofs.Common.{refl, sym, ap, ap₂, ◌∙◌}
use Rattle.std.proofs.lemmas.List.{map-append}
use Rattle.es_base.specs.Numbered.{is_new}
use Rattle.es_base.specs.Preorder.{preorder, preorder_of, preorder_of_part}
use Rattle.es_base.specs.Tree.{Tree, Part, Parts, Node, end, more, child, list}
use Rattle.es_base.specs.declared.kind.Kind.{Kind}
use Rattle.es_base.specs.declared.ledger.GeneratedKind.{GeneratedKind}
use Rattle.es_base.specs.declared.ledger.LedgerEntry.{LedgerEntry}
use Rattle.es_lowered.specs.ClassNames.{numbers_of, any_among, common}
use Rattle.es_lowered.specs.DeadZones.{touches, bound_numbers, variables_by, variables, class_names, touch, is_still, is_closure, Closures, closure, closures_by, closures, call_form, is_chain, is_function_declaration, is_link, is_turned, is_keyed, is_member, is_pattern, converted, touch_around, throws_always, ends_in_throw, defines_by, defines, is_named_or_this, is_value_slot, sets_member, is_writer, is_setter_slot, is_property_definition, is_private, updates_private, private_updates, right_of, right_operands, throws_at, new_throws, all_throws, nothing_around, in_no_chain, held_behind, held_in, chain_in, spot_in, is_apart, read_form, reference_touches, assignment_form, update_form, called_form, own_touches, keyed, inner_touches, joined, touches_in, touches_at, touches_of, turned, class_touches, key_touches, keys_touched, value_touches, values_touched, without_this, derived_constructor, derived_constructors, constructs, arrows, arrows_at, arrows_in, arrows_of_body, arrows_of_keys, derived_arrows, value_arrows, static_arrows, derived_functions, is_call_of_super, classes_given, parameters_at, field_touches, held_with, with_fields, function_touches, body_touches, bodies_by, bodies, super_calls, reference_number, key_references, passed_numbers, moving_keys, moving_blocks, moving_numbers, class_elements, class_parts, is_touched, times, is_definition, definitions_touched, is_between, is_this, is_same_form, is_asked, is_excepted, held_within, held_inside, in_both, where_run, stands_in_node, is_run_before, closure_run, were_run, stands_in_closure, is_in_same, is_arrow_of, is_run_by, put_off, put_off_behind, all_behind, is_like, stands_like, is_of_body, stands_in_any, is_touched_as, is_touched_in, reads_key, is_behind_super, touch_fits, in_same, run_with, run_without, front_of_run, runs_fit, touches_fit, bodies_fit, bodies_of, dead_zones_stay, TouchForm, Touch, Body, Spot, ClassParts, reads, names_class, makes_class, runs_closure, defines_field, between_parts, another}
use Rattle.es_lowered.specs.Definitions.{spelling, is_assignment, writable_part}
use Rattle.es_lowered.specs.HelperCalls.{part_number, is_class_body, runs_with_class}
use Rattle.es_lowered.specs.Timely.{is_same, is_held, super_functions}
use Rattle.es_steps.specs.ClassHeads.{names_itself}
use Rattle.es_steps.specs.Options.{lowers_fields}
use Rattle.es_steps.specs.Context.{generated_as, is_function, is_super_call}
use Rattle.es_steps.specs.KeptNodes.{is_within}
use Rattle.es_steps.specs.LoweredClasses.{constructor_in}
use Rattle.es_steps.specs.NameScopes.{is_any_function}
use Rattle.es_steps.specs.Parts.{at, items, is_present, string_of}
use Rattle.es_steps.specs.Printable.{has_optional}
use Rattle.es_steps.specs.PrivateNames.{is_class, is_element}
use Rattle.es_steps.specs.LoweredClasses.{Element, elements_of, any_element, needs_temporary, is_lowered_class}
use Rattle.es_steps.specs.References.{Reference, resolve, has_number, written}
use Rattle.es_steps.specs.Shapes.{class_at, is_static_field, runs_before_class}
use Rattle.es_steps.specs.Scopes.{is_class_expression}
use Rattle.es_steps.specs.declared.options.Options.{Options}
use Rattle.es_steps.specs.Repeated.{is_arrow}
use Rattle.es_steps.specs.Values.{String, Referent, Bound, Free}
use Rattle.es_lowered.proofs.ClassNamesMapped.{numbers_of_part-mapped, numbers_of_parts-mapped, any_among-mapped, common-mapped}
use Rattle.es_lowered.proofs.DefinitionsMapped.{spelling-mapped, writable_part-mapped}
use Rattle.es_lowered.proofs.HelperCallsMapped.{part_number-mapped, runs_with_class-mapped}
use Rattle.es_lowered.proofs.TimelyMapped.{mapped_held, is_held-mapped, all_pairs_stand-mapped, super_functions-mapped}
use Rattle.es_steps.proofs.ClassHeadsMapped.{names_itself-mapped}
use Rattle.es_steps.proofs.ContextMapped.{generated_as-mapped, is_super_call-mapped}
use Rattle.es_steps.proofs.KeptNodesMapped.{mapped_element, elements_of-mapped, constructor_in-mapped, is_within-mapped, is_lowered_class-mapped, needs_temporary-mapped}
use Rattle.es_steps.proofs.Mapped.{Renames, mapped, mapped_part, mapped_parts, mapped_pair, mapped_option, mapped_generated, mapped_ledger, mapped_referent, mapped_reference}
use Rattle.es_steps.proofs.PartsMapped.{cond-mapped, append-mapped, at-mapped, items_at-mapped, string_at-mapped, is_present-mapped, is_present_at-mapped, preorder-mapped, preorder_of_part-mapped}
use Rattle.es_steps.proofs.PrintableMapped.{has_optional-mapped}
use Rattle.es_steps.proofs.ReferencesMapped.{resolve-mapped, written-mapped, has_number-mapped}

module _ (f : ℕ → ℕ) where
  abbrev mapped_form : TouchForm → TouchForm
  mapped_form (reads b) = reads (f b)
  mapped_form (runs_closure k) = runs_closure (f k)
  mapped_form form = form

  abbrev held_there : List (ℕ × ℕ) → List (ℕ × ℕ)
  held_there held = map (mapped_held f) held

  abbrev mapped_touch : Touch → Touch
  mapped_touch t = record { number = f t.number; form = mapped_form t.form; held = held_there t.held }

  -- the touch of another with these parts around it
  abbrev made : Touch → List (ℕ × ℕ) → Touch
  made u held = record { number = f u.number; form = mapped_form u.form; held = held }

  abbrev moved : List Touch → List Touch
  moved ts = map mapped_touch ts

  abbrev mapped_spot : Spot → Spot
  mapped_spot x = record { around = map f x.around; held = held_there x.held; chain = map f x.chain }

  abbrev mapped_body : Body → Body
  mapped_body b = record { number = f b.number; is_of_fields = b.is_of_fields; of_class = map f b.of_class; derives = b.derives; touches = moved b.touches }

  abbrev mapped_class : ClassParts → ClassParts
  mapped_class c = record { number = f c.number; passed = map f c.passed; keys = map f c.keys; moving = map f c.moving }

  abbrev there : List Reference → List Reference
  there rs = map (mapped_reference f) rs

  is_this-mapped : (form : TouchForm) → is_this (mapped_form form) ≡ is_this form
  is_this-mapped (reads b) = refl
  is_this-mapped (runs_closure k) = refl
  is_this-mapped form = refl

  without_this-mapped : (ts : List Touch) → without_this (moved ts) ≡ moved (without_this ts)
  without_this-mapped [] = refl
  without_this-mapped (t ∷ ts) =
      append-mapped mapped_touch (cond (is_this t.form) [] (t ∷ [])) (without_this ts)
      (rw (is_this-mapped t.form) (cond-mapped moved (is_this t.form) [] (t ∷ []) refl refl))
      (without_this-mapped ts)

  is_call_of_super-mapped : (form : TouchForm) → is_call_of_super (mapped_form form) ≡ is_call_of_super form
  is_call_of_super-mapped (reads b) = refl
  is_call_of_super-mapped (runs_closure k) = refl
  is_call_of_super-mapped form = refl

  is_between-mapped : (form : TouchForm) → is_between (mapped_form form) ≡ is_between form
  is_between-mapped (reads b) = refl
  is_between-mapped (runs_closure k) = refl
  is_between-mapped form = refl

  is_definition-mapped : (form : TouchForm) → is_definition (mapped_form form) ≡ is_definition form
  is_definition-mapped (reads b) = refl
  is_definition-mapped (runs_closure k) = refl
  is_definition-mapped form = refl

  touch_around-mapped : (x : Spot) → touch_around (mapped_spot x) ≡ moved (touch_around x)
  touch_around-mapped x = around x.around
    where
      around : (ns : List ℕ) → map (λ n. record { number = n; form = between_parts; held = held_there x.held }) (map f ns) ≡ moved (map (λ n. record { number = n; form = between_parts; held = x.held }) ns)
      around [] = refl
      around (n ∷ ns) = ap (λ ts. record { number = f n; form = between_parts; held = held_there x.held } ∷ ts) (around ns)

  converted-mapped : (x : Spot) (kind : Kind) (m : ℕ) → converted (mapped_spot x) kind (f m) ≡ moved (converted x kind m)
  converted-mapped x Kind.Property m = touch_around-mapped x
  converted-mapped x kind m = refl

  is_asked-mapped : (derives : Bool) (form : TouchForm) → is_asked derives (mapped_form form) ≡ is_asked derives form
  is_asked-mapped derives (reads b) = refl
  is_asked-mapped derives (runs_closure k) = refl
  is_asked-mapped derives form = refl

  -- ---- the nodes of classes

  reference_number-mapped : (p : Part) → reference_number (mapped_part f p) ≡ map f (reference_number p)
  reference_number-mapped (child (Node Kind.IdentifierReference m span semantic_id ps)) = refl
  reference_number-mapped p = refl

  key_references-mapped : (es : Parts) → key_references (mapped_parts f es) ≡ map f (key_references es)
  key_references-mapped end = refl
  key_references-mapped (more (child (Node kind m span semantic_id (more k ps))) es) =
      append-mapped f (cond (is_element kind) (reference_number k) []) (key_references es)
      (cond-mapped (map f) (is_element kind) (reference_number k) [] (reference_number-mapped k) refl)
      (key_references-mapped es)
  key_references-mapped (more p es) = key_references-mapped es

  moving_blocks-mapped : (es : Parts) → moving_blocks (mapped_parts f es) ≡ map f (moving_blocks es)
  moving_blocks-mapped end = refl
  moving_blocks-mapped (more (child (Node Kind.StaticBlock m span semantic_id ps)) es) =
      append-mapped f (numbers_of (preorder_of ps)) (moving_blocks es) (numbers_of_parts-mapped f ps) (moving_blocks-mapped es)
  moving_blocks-mapped (more p es) = moving_blocks-mapped es

  any_block-mapped : (es : List Element) → any_element (λ e. e.is_block) (map (mapped_element f) es) ≡ any_element (λ e. e.is_block) es
  any_block-mapped [] = refl
  any_block-mapped (e ∷ es) = ap (λ b. e.is_block || b) (any_block-mapped es)

  any_static-mapped : (es : List Element) → any_element is_static_field (map (mapped_element f) es) ≡ any_element is_static_field es
  any_static-mapped [] = refl
  any_static-mapped (e ∷ es) = ap (λ b. is_static_field e || b) (any_static-mapped es)

  runs_before-mapped : (o : Options) (kind : Kind) (n : ℕ) (ps : Parts) → runs_before_class o (class_at kind (f n) (mapped_parts f ps)) ≡ runs_before_class o (class_at kind n ps)
  runs_before-mapped o kind n ps = rw (elements_of-mapped f ps, any_block-mapped (elements_of ps), any_static-mapped (elements_of ps)) refl

  class_elements-mapped : (p : Part) → class_elements (mapped_part f p) ≡ mapped_parts f (class_elements p)
  class_elements-mapped (child (Node Kind.ClassBody m span semantic_id ps)) = items_at-mapped f 0 ps
  class_elements-mapped p = refl

  elements_at-mapped : (ps : Parts) → class_elements (at 2 (mapped_parts f ps)) ≡ mapped_parts f (class_elements (at 2 ps))
  elements_at-mapped ps = ap class_elements (at-mapped f 2 ps) ∙ class_elements-mapped (at 2 ps)

  -- ---- closures

  abbrev mapped_closure : String × ℕ → String × ℕ
  mapped_closure c = (c.0, f c.1)

  abbrev mapped_closures : Closures → Closures
  mapped_closures cs = map mapped_closure cs

  is_closure-mapped : (g : Option GeneratedKind) → is_closure (mapped_option (mapped_generated f) g) ≡ is_closure g
  is_closure-mapped None = refl
  is_closure-mapped (Some GeneratedKind.Closure) = refl
  is_closure-mapped (Some (GeneratedKind.SuperFn n)) = refl
  is_closure-mapped (Some g) = refl

  closure-mapped : (ledger : List LedgerEntry) (s : String) (p : Part) → closure (mapped_ledger f ledger) s (mapped_part f p) ≡ mapped_closures (closure ledger s p)
  closure-mapped ledger s (child (Node Kind.ArrowFunctionExpression k span semantic_id ps)) =
      ap (λ g. cond (is_closure g) ((s, f k) ∷ []) []) (generated_as-mapped f s ledger)
      ∙ rw (is_closure-mapped (generated_as s ledger)) (cond-mapped (map mapped_closure) (is_closure (generated_as s ledger)) ((s, k) ∷ []) [] refl refl)
  closure-mapped ledger s p = refl

  closure_at-mapped : (ledger : List LedgerEntry) (i j : ℕ) (ps : Parts) → closure (mapped_ledger f ledger) (spelling (at i (mapped_parts f ps))) (at j (mapped_parts f ps)) ≡ mapped_closures (closure ledger (spelling (at i ps)) (at j ps))
  closure_at-mapped ledger i j ps = rw (at-mapped f i ps, spelling-mapped f (at i ps), at-mapped f j ps) (closure-mapped ledger (spelling (at i ps)) (at j ps))

  closures_by-mapped : (ledger : List LedgerEntry) (kind : Kind) (ps : Parts) → closures_by (mapped_ledger f ledger) kind (mapped_parts f ps) ≡ mapped_closures (closures_by ledger kind ps)
  closures_by-mapped ledger Kind.AssignmentExpression ps = closure_at-mapped ledger 1 2 ps
  closures_by-mapped ledger Kind.VariableDeclarator ps = closure_at-mapped ledger 0 1 ps
  closures_by-mapped ledger kind ps = refl

  closures-mapped : (ledger : List LedgerEntry) (ts : List Tree) → closures (mapped_ledger f ledger) (map (mapped f) ts) ≡ mapped_closures (closures ledger ts)
  closures-mapped ledger [] = refl
  closures-mapped ledger (Node kind m span semantic_id ps ∷ ts) = append-mapped mapped_closure (closures_by ledger kind ps) (closures ledger ts) (closures_by-mapped ledger kind ps) (closures-mapped ledger ts)

  call_form-mapped : (b : Bool) (s : String) (cs : Closures) → call_form b s (mapped_closures cs) ≡ mapped_form (call_form b s cs)
  call_form-mapped true s cs = refl
  call_form-mapped false s [] = refl
  call_form-mapped false s (c ∷ cs) = cond-mapped mapped_form (bytes_eq s c.0) (runs_closure c.1) (call_form false s cs) refl (call_form-mapped false s cs)

  -- ---- variables, constructors and arrows

  bound_numbers-mapped : (ts : List Tree) → bound_numbers (map (mapped f) ts) ≡ map f (bound_numbers ts)
  bound_numbers-mapped [] = refl
  bound_numbers-mapped (Node Kind.BindingIdentifier b span semantic_id ps ∷ ts) = ap (λ ns. f b ∷ ns) (bound_numbers-mapped ts)
  bound_numbers-mapped (t ∷ ts) = bound_numbers-mapped ts

  bound_at-mapped : (i : ℕ) (ps : Parts) → bound_numbers (preorder_of_part (at i (mapped_parts f ps))) ≡ map f (bound_numbers (preorder_of_part (at i ps)))
  bound_at-mapped i ps = rw (at-mapped f i ps, preorder_of_part-mapped f (at i ps)) (bound_numbers-mapped (preorder_of_part (at i ps)))

  variables_by-mapped : (kind : Kind) (ps : Parts) → variables_by kind (mapped_parts f ps) ≡ map f (variables_by kind ps)
  variables_by-mapped Kind.VariableDeclarator ps = bound_at-mapped 0 ps
  variables_by-mapped Kind.CatchClause ps = bound_at-mapped 0 ps
  variables_by-mapped Kind.ArrowFunctionExpression ps = bound_at-mapped 0 ps
  variables_by-mapped Kind.FunctionDeclaration ps = bound_at-mapped 1 ps
  variables_by-mapped Kind.FunctionExpression ps = bound_at-mapped 1 ps
  variables_by-mapped kind ps = refl

  variables-mapped : (ts : List Tree) → variables (map (mapped f) ts) ≡ map f (variables ts)
  variables-mapped [] = refl
  variables-mapped (Node kind m span semantic_id ps ∷ ts) = append-mapped f (variables_by kind ps) (variables ts) (variables_by-mapped kind ps) (variables-mapped ts)

  derived_constructor-mapped : (kind : Kind) (ps : Parts) → derived_constructor kind (mapped_parts f ps) ≡ map f (derived_constructor kind ps)
  derived_constructor-mapped kind ps =
      rw (is_present_at-mapped f 1 ps, at-mapped f 2 ps, constructor_in-mapped f (at 2 ps))
      (cond-mapped (map f) (is_class kind && is_present (at 1 ps)) (part_number (constructor_in (at 2 ps))) [] (part_number-mapped f (constructor_in (at 2 ps))) refl)

  derived_constructors-mapped : (ts : List Tree) → derived_constructors (map (mapped f) ts) ≡ map f (derived_constructors ts)
  derived_constructors-mapped [] = refl
  derived_constructors-mapped (Node kind m span semantic_id ps ∷ ts) = append-mapped f (derived_constructor kind ps) (derived_constructors ts) (derived_constructor-mapped kind ps) (derived_constructors-mapped ts)

  mutual
    arrows-mapped : (t : Tree) → arrows (mapped f t) ≡ map f (arrows t)
    arrows-mapped (Node kind m span semantic_id ps) =
        let inner : List ℕ = cond (is_function kind) [] (arrows_in ps) in
        append-mapped f (cond (is_arrow kind) (m ∷ []) []) (cond (is_class_body kind) (arrows_of_body ps) inner)
        (cond-mapped (map f) (is_arrow kind) (m ∷ []) [] refl refl)
        (cond-mapped (map f) (is_class_body kind) (arrows_of_body ps) inner (arrows_of_body-mapped ps) (cond-mapped (map f) (is_function kind) [] (arrows_in ps) refl (arrows_in-mapped ps)))

    arrows_at-mapped : (p : Part) → arrows_at (mapped_part f p) ≡ map f (arrows_at p)
    arrows_at-mapped (child t) = arrows-mapped t
    arrows_at-mapped (list ps) = arrows_in-mapped ps
    arrows_at-mapped p = refl

    arrows_in-mapped : (ps : Parts) → arrows_in (mapped_parts f ps) ≡ map f (arrows_in ps)
    arrows_in-mapped end = refl
    arrows_in-mapped (more p ps) = append-mapped f (arrows_at p) (arrows_in ps) (arrows_at-mapped p) (arrows_in-mapped ps)

    arrows_of_body-mapped : (ps : Parts) → arrows_of_body (mapped_parts f ps) ≡ map f (arrows_of_body ps)
    arrows_of_body-mapped (more (list es) rest) = arrows_of_keys-mapped es
    arrows_of_body-mapped ps = refl

    arrows_of_keys-mapped : (es : Parts) → arrows_of_keys (mapped_parts f es) ≡ map f (arrows_of_keys es)
    arrows_of_keys-mapped end = refl
    arrows_of_keys-mapped (more (child (Node kind m span semantic_id (more k ps))) es) =
        append-mapped f (cond (is_element kind) (arrows_at k) []) (arrows_of_keys es)
        (cond-mapped (map f) (is_element kind) (arrows_at k) [] (arrows_at-mapped k) refl)
        (arrows_of_keys-mapped es)
    arrows_of_keys-mapped (more p es) = arrows_of_keys-mapped es

  value_arrows-mapped : (kind : Kind) (ps : Parts) → value_arrows kind (mapped_parts f ps) ≡ map f (value_arrows kind ps)
  value_arrows-mapped kind ps =
      cond-mapped (map f) (is_element kind) (arrows_at (at 1 ps)) (arrows_in ps) (ap arrows_at (at-mapped f 1 ps) ∙ arrows_at-mapped (at 1 ps)) (arrows_in-mapped ps)

  static_arrows-mapped : (ts : List Tree) → static_arrows (map (mapped f) ts) ≡ map f (static_arrows ts)
  static_arrows-mapped [] = refl
  static_arrows-mapped (Node kind m span semantic_id ps ∷ ts) =
      let runs : Bool = runs_with_class (child (Node kind m span semantic_id ps)) in
      append-mapped f (cond runs (value_arrows kind ps) []) (static_arrows ts)
      (rw (runs_with_class-mapped f (child (Node kind m span semantic_id ps))) (cond-mapped (map f) runs (value_arrows kind ps) [] (value_arrows-mapped kind ps) refl))
      (static_arrows-mapped ts)

  class_names-mapped : (ts : List Tree) → class_names (map (mapped f) ts) ≡ map f (class_names ts)
  class_names-mapped [] = refl
  class_names-mapped (Node kind m span semantic_id ps ∷ ts) =
      append-mapped f (cond (is_class kind) (part_number (at 0 ps)) []) (class_names ts)
      (cond-mapped (map f) (is_class kind) (part_number (at 0 ps)) [] (ap part_number (at-mapped f 0 ps) ∙ part_number-mapped f (at 0 ps)) refl)
      (class_names-mapped ts)

  is_member-mapped : (p : Part) → is_member (mapped_part f p) ≡ is_member p
  is_member-mapped (child (Node Kind.MemberExpression m span semantic_id ps)) = refl
  is_member-mapped (child (Node Kind.PrivateField m span semantic_id ps)) = refl
  is_member-mapped p = refl

  is_pattern-mapped : (p : Part) → is_pattern (mapped_part f p) ≡ is_pattern p
  is_pattern-mapped (child (Node Kind.ArrayAssignmentTarget m span semantic_id ps)) = refl
  is_pattern-mapped (child (Node Kind.ObjectAssignmentTarget m span semantic_id ps)) = refl
  is_pattern-mapped p = refl

  throws_always-mapped : (p : Part) → throws_always (mapped_part f p) ≡ throws_always p
  throws_always-mapped (child (Node Kind.CallExpression m span semantic_id (more (child (Node Kind.MemberExpression k kspan k_semantic_id (more o (more (child (Node Kind.IdentifierName n nspan n_semantic_id ns)) rest)))) arguments))) =
      ap (λ s. bytes_eq s (codes "readOnlyError") || bytes_eq s (codes "writeOnlyError")) (string_at-mapped f 0 ns)
  throws_always-mapped p = refl

  ends_in_throw-mapped : (ps : Parts) → ends_in_throw (mapped_parts f ps) ≡ ends_in_throw ps
  ends_in_throw-mapped end = refl
  ends_in_throw-mapped (more p end) = throws_always-mapped p
  ends_in_throw-mapped (more p (more q ps)) = ends_in_throw-mapped (more q ps)

  defines_by-mapped : (o h : String) (ps : Parts) → defines_by o h (mapped_parts f ps) ≡ defines_by o h ps
  defines_by-mapped o h (more object (more k (more v end))) =
      let helper : Bool = bytes_eq o (codes "babelHelpers") && (bytes_eq h (codes "defineProperty") || bytes_eq h (codes "classPrivateFieldInitSpec")) in
      ap (λ b. helper || (bytes_eq o (codes "Object") && (bytes_eq h (codes "defineProperty") && b))) (ap is_present (writable_part-mapped f v) ∙ is_present-mapped f (writable_part v))
  defines_by-mapped o h ps = refl

  defines-mapped : (p : Part) (ps : Parts) → defines (mapped_part f p) (mapped_parts f ps) ≡ defines p ps
  defines-mapped (child (Node Kind.MemberExpression m span semantic_id (more o (more (child (Node Kind.IdentifierName n nspan n_semantic_id ns)) rest)))) ps =
      ap₂ (λ x y. defines_by x y (mapped_parts f ps)) (spelling-mapped f o) (string_at-mapped f 0 ns) ∙ defines_by-mapped (spelling o) (string_of (at 0 ns)) ps
  defines-mapped p ps = refl

  is_named_or_this-mapped : (p : Part) → is_named_or_this (mapped_part f p) ≡ is_named_or_this p
  is_named_or_this-mapped (child (Node Kind.IdentifierReference m span semantic_id ps)) = refl
  is_named_or_this-mapped (child (Node Kind.ThisExpression m span semantic_id ps)) = refl
  is_named_or_this-mapped p = refl

  is_value_slot-mapped : (p : Part) → is_value_slot (mapped_part f p) ≡ is_value_slot p
  is_value_slot-mapped (child (Node Kind.IdentifierName m span semantic_id ps)) = ap (λ s. bytes_eq s (codes "_")) (string_at-mapped f 0 ps)
  is_value_slot-mapped p = refl

  sets_member-mapped : (p : Part) → sets_member (mapped_part f p) ≡ sets_member p
  sets_member-mapped (child (Node Kind.MemberExpression m span semantic_id (more o (more k rest)))) = ap₂ (λ x y. x && not y) (is_named_or_this-mapped o) (is_value_slot-mapped k)
  sets_member-mapped p = refl

  is_writer-mapped : (p : Part) → is_writer (mapped_part f p) ≡ is_writer p
  is_writer-mapped (child (Node Kind.MemberExpression m span semantic_id (more o (more (child (Node Kind.IdentifierName n nspan n_semantic_id ns)) rest)))) =
      ap₂ (λ x y. bytes_eq x (codes "babelHelpers") && (bytes_eq y (codes "superPropSet") || bytes_eq y (codes "classPrivateFieldSet2"))) (spelling-mapped f o) (string_at-mapped f 0 ns)
  is_writer-mapped p = refl

  is_setter_slot-mapped : (p : Part) → is_setter_slot (mapped_part f p) ≡ is_setter_slot p
  is_setter_slot-mapped (child (Node Kind.MemberExpression m span semantic_id (more (child (Node Kind.CallExpression n nspan n_semantic_id ns)) (more k rest)))) = is_value_slot-mapped k
  is_setter_slot-mapped p = refl

  definition_if-mapped : (b : Bool) → cond b defines_field another ≡ mapped_form (cond b defines_field another)
  definition_if-mapped true = refl
  definition_if-mapped false = refl

  is_private-mapped : (p : Part) → is_private (mapped_part f p) ≡ is_private p
  is_private-mapped (child (Node Kind.PrivateField m span semantic_id ps)) = refl
  is_private-mapped p = refl

  private_at-mapped : (i : ℕ) (ps : Parts) → is_private (at i (mapped_parts f ps)) ≡ is_private (at i ps)
  private_at-mapped i ps = ap is_private (at-mapped f i ps) ∙ is_private-mapped (at i ps)

  updates_private-mapped : (kind : Kind) (ps : Parts) → updates_private kind (mapped_parts f ps) ≡ updates_private kind ps
  updates_private-mapped Kind.AssignmentExpression ps = ap₂ (λ s b. not (bytes_eq s (codes "=")) && b) (string_at-mapped f 0 ps) (private_at-mapped 1 ps)
  updates_private-mapped Kind.UpdateExpression ps = private_at-mapped 1 ps
  updates_private-mapped kind ps = refl

  super_calls-mapped : (ts : List Tree) → super_calls (map (mapped f) ts) ≡ map f (super_calls ts)
  super_calls-mapped [] = refl
  super_calls-mapped (Node kind m span semantic_id ps ∷ ts) =
      append-mapped f (cond (is_super_call kind ps) (m ∷ []) []) (super_calls ts)
      (rw (is_super_call-mapped f kind ps) (cond-mapped (map f) (is_super_call kind ps) (m ∷ []) [] refl refl))
      (super_calls-mapped ts)

module _ {first : ℕ} {f : ℕ → ℕ} (r : Renames first f) where
  moving_keys-mapped : (changed : List ℕ) (rs : List Reference) (es : List Element) → moving_keys (map f changed) (there f rs) (map (mapped_element f) es) ≡ map f (moving_keys changed rs es)
  moving_keys-mapped changed rs [] = refl
  moving_keys-mapped changed rs (e ∷ es) =
      append-mapped f (cond (e.computed && needs_temporary changed rs e.key) (numbers_of (preorder_of_part e.key)) []) (moving_keys changed rs es)
      (rw (needs_temporary-mapped r changed rs e.key) (cond-mapped (map f) (e.computed && needs_temporary changed rs e.key) (numbers_of (preorder_of_part e.key)) [] (numbers_of_part-mapped f e.key) refl))
      (moving_keys-mapped changed rs es)

  moving_numbers-mapped : (o : Options) (changed : List ℕ) (rs : List Reference) (kind : Kind) (n : ℕ) (ps : Parts) → moving_numbers o (map f changed) (there f rs) (class_at kind (f n) (mapped_parts f ps)) (at 2 (mapped_parts f ps)) ≡ map f (moving_numbers o changed rs (class_at kind n ps) (at 2 ps))
  moving_numbers-mapped o changed rs kind n ps =
      append-mapped f (moving_keys changed rs (elements_of ps)) (cond (runs_before_class o (class_at kind n ps)) (moving_blocks (class_elements (at 2 ps))) [])
      (ap (moving_keys (map f changed) (there f rs)) (elements_of-mapped f ps) ∙ moving_keys-mapped changed rs (elements_of ps))
      (rw (runs_before-mapped f o kind n ps) (cond-mapped (map f) (runs_before_class o (class_at kind n ps)) (moving_blocks (class_elements (at 2 ps))) [] (ap moving_blocks (elements_at-mapped f ps) ∙ moving_blocks-mapped f (class_elements (at 2 ps))) refl))

  passed-mapped : (o : Options) (kind : Kind) (n : ℕ) (ps : Parts) → passed_numbers o (class_at kind (f n) (mapped_parts f ps)) ≡ map f (passed_numbers o (class_at kind n ps))
  passed-mapped o kind n ps =
      let heritage : List ℕ = numbers_of (preorder_of_part (at 1 ps)) in
      let still : Bool = is_class_expression kind && not (names_itself n ps) in
      append-mapped f (cond (lowers_fields o) heritage []) (cond still (n ∷ []) [])
      (cond-mapped (map f) (lowers_fields o) heritage [] (ap (λ p. numbers_of (preorder_of_part p)) (at-mapped f 1 ps) ∙ numbers_of_part-mapped f (at 1 ps)) refl)
      (rw (names_itself-mapped f n ps) (cond-mapped (map f) still (n ∷ []) [] refl refl))

  parts-mapped : (o : Options) (changed : List ℕ) (rs : List Reference) (kind : Kind) (n : ℕ) (ps : Parts)
      → record { number = f n; passed = passed_numbers o (class_at kind (f n) (mapped_parts f ps)); keys = key_references (class_elements (at 2 (mapped_parts f ps))); moving = cond (is_lowered_class o kind (mapped_parts f ps)) (moving_numbers o (map f changed) (there f rs) (class_at kind (f n) (mapped_parts f ps)) (at 2 (mapped_parts f ps))) [] } ∷ []
      ≡ map (mapped_class f) (record { number = n; passed = passed_numbers o (class_at kind n ps); keys = key_references (class_elements (at 2 ps)); moving = cond (is_lowered_class o kind ps) (moving_numbers o changed rs (class_at kind n ps) (at 2 ps)) [] } ∷ [])
  parts-mapped o changed rs kind n ps = λ i. record {
    number = f n;
    passed = passed-mapped o kind n ps i;
    keys = (ap key_references (elements_at-mapped f ps) ∙ key_references-mapped f (class_elements (at 2 ps))) i;
    moving = (ap (λ b. cond b (moving_numbers o (map f changed) (there f rs) (class_at kind (f n) (mapped_parts f ps)) (at 2 (mapped_parts f ps))) []) (is_lowered_class-mapped f o kind ps) ∙ cond-mapped (map f) (is_lowered_class o kind ps) (moving_numbers o changed rs (class_at kind n ps) (at 2 ps)) [] (moving_numbers-mapped o changed rs kind n ps) refl) i;
  } ∷ []

  class_parts-mapped : (o : Options) (changed : List ℕ) (rs : List Reference) (ts : List Tree) → class_parts o (map f changed) (there f rs) (map (mapped f) ts) ≡ map (mapped_class f) (class_parts o changed rs ts)
  class_parts-mapped o changed rs [] = refl
  class_parts-mapped o changed rs (Node kind n span semantic_id ps ∷ ts) =
      let moved_here : List ℕ = moving_numbers o changed rs (class_at kind n ps) (at 2 ps) in
      let own : List ClassParts = record { number = n; passed = passed_numbers o (class_at kind n ps); keys = key_references (class_elements (at 2 ps)); moving = cond (is_lowered_class o kind ps) moved_here [] } ∷ [] in
      append-mapped (mapped_class f) (cond (is_class kind) own []) (class_parts o changed rs ts)
      (cond-mapped (map (mapped_class f)) (is_class kind) own [] (parts-mapped o changed rs kind n ps) refl)
      (class_parts-mapped o changed rs ts)

  derived_arrows-mapped : (ks : List ℕ) (ts : List Tree) → derived_arrows (map f ks) (map (mapped f) ts) ≡ map f (derived_arrows ks ts)
  derived_arrows-mapped ks [] = refl
  derived_arrows-mapped ks (Node kind m span semantic_id ps ∷ ts) =
      append-mapped f (cond (is_any_function kind && has_number m ks) (arrows_in ps) []) (derived_arrows ks ts)
      (rw (has_number-mapped r m ks) (cond-mapped (map f) (is_any_function kind && has_number m ks) (arrows_in ps) [] (arrows_in-mapped f ps) refl))
      (derived_arrows-mapped ks ts)

  arrows_of_derived-mapped : (ts : List Tree) → derived_arrows (derived_constructors (map (mapped f) ts)) (map (mapped f) ts) ≡ map f (derived_arrows (derived_constructors ts) ts)
  arrows_of_derived-mapped ts = ap (λ ks. derived_arrows ks (map (mapped f) ts)) (derived_constructors-mapped f ts) ∙ derived_arrows-mapped (derived_constructors ts) ts

  derived_functions-mapped : (ps ts : List Tree) → derived_functions (map (mapped f) ps) (map (mapped f) ts) ≡ map f (derived_functions ps ts)
  derived_functions-mapped ps ts =
      let here : List ℕ = derived_arrows (derived_constructors ps) ps in
      let given : List ℕ = common (static_arrows ps) (derived_arrows (derived_constructors ts) ts) in
      append-mapped f (derived_constructors ts) (here ++ given) (derived_constructors-mapped f ts)
      (append-mapped f here given (arrows_of_derived-mapped ps)
      (ap₂ common (static_arrows-mapped f ps) (arrows_of_derived-mapped ts) ∙ common-mapped r (static_arrows ps) (derived_arrows (derived_constructors ts) ts)))

  constructs-mapped : (k : ℕ) (ts : List Tree) → constructs (f k) (map (mapped f) ts) ≡ map f (constructs k ts)
  constructs-mapped k [] = refl
  constructs-mapped k (Node kind n span semantic_id ps ∷ ts) =
      rw (at-mapped f 2 ps, constructor_in-mapped f (at 2 ps), part_number-mapped f (constructor_in (at 2 ps)), has_number-mapped r k (part_number (constructor_in (at 2 ps))))
      (cond-mapped (map f) (is_class kind && has_number k (part_number (constructor_in (at 2 ps)))) (n ∷ []) (constructs k ts) refl (constructs-mapped k ts))

  classes_given-mapped : (m : ℕ) (ps : List (ℕ × ℕ)) → classes_given (f m) (map (mapped_pair f) ps) ≡ map f (classes_given m ps)
  classes_given-mapped m [] = refl
  classes_given-mapped m (p ∷ ps) =
      append-mapped f (cond (nat_eq m p.0) (p.1 ∷ []) []) (classes_given m ps)
      (rw (r.apart m p.0) (cond-mapped (map f) (nat_eq m p.0) (p.1 ∷ []) [] refl refl))
      (classes_given-mapped m ps)

  held_behind-mapped : (cs : List ℕ) (optional : Bool) (held : List (ℕ × ℕ)) → held_behind (map f cs) optional (held_there f held) ≡ held_there f (held_behind cs optional held)
  held_behind-mapped [] optional held = refl
  held_behind-mapped (c ∷ cs) optional held = cond-mapped (held_there f) optional ((c, 2) ∷ held) held refl refl

  held_in-mapped : (x : Spot) (optional : Bool) (kind : Kind) (m : ℕ) (ps : Parts) (i : ℕ) → held_in (mapped_spot f x) optional kind (f m) (mapped_parts f ps) i ≡ held_there f (held_in x optional kind m ps i)
  held_in-mapped x optional kind m ps i =
      let behind : List (ℕ × ℕ) = held_behind x.chain optional x.held in
      rw (is_held-mapped r kind ps i)
      (cond-mapped (held_there f) ((is_held kind ps i && not (is_chain kind)) || is_arrow kind) ((m, i) ∷ x.held) (cond (nat_eq i 0) x.held behind) refl
      (cond-mapped (held_there f) (nat_eq i 0) x.held behind refl (held_behind-mapped x.chain optional x.held)))

  chain_in-mapped : (x : Spot) (kind : Kind) (m i : ℕ) → chain_in (mapped_spot f x) kind (f m) i ≡ map f (chain_in x kind m i)
  chain_in-mapped x kind m i =
      cond-mapped (map f) (is_chain kind) (m ∷ []) (cond (is_link kind && nat_eq i 0) x.chain []) refl (cond-mapped (map f) (is_link kind && nat_eq i 0) x.chain [] refl refl)

  spot_in-mapped : (x : Spot) (optional : Bool) (kind : Kind) (m : ℕ) (ps : Parts) (i : ℕ) → spot_in (mapped_spot f x) optional kind (f m) (mapped_parts f ps) i ≡ mapped_spot f (spot_in x optional kind m ps i)
  spot_in-mapped x optional kind m ps i = ap₂ (λ held chain. record { around = f m ∷ []; held = held; chain = chain }) (held_in-mapped x optional kind m ps i) (chain_in-mapped x kind m i)

  -- ---- what is touched

  module _ (called : Closures) (asked named : List ℕ) (rs : List Reference) where
    abbrev called_there : Closures
    called_there = mapped_closures f called

    abbrev asked_there : List ℕ
    asked_there = map f asked

    abbrev named_there : List ℕ
    named_there = map f named

    is_apart-mapped : (kind : Kind) (m : ℕ) → is_apart first called_there asked_there named_there (there f rs) kind (f m) ≡ is_apart first called asked named rs kind m
    is_apart-mapped Kind.ArrowFunctionExpression m = ap (λ b. not b) (r.new m)
    is_apart-mapped kind m = refl

    read_form-mapped : (m : ℕ) (to : Referent) → read_form first called_there asked_there named_there (there f rs) (f m) (mapped_referent f to) ≡ mapped_form f (read_form first called asked named rs m to)
    read_form-mapped m (Bound b) =
        rw (has_number-mapped r b asked, has_number-mapped r b named, r.new m)
        (cond-mapped (mapped_form f) (has_number b named) (cond (is_new first m) another names_class) (cond (has_number b asked) (reads b) another)
        (cond-mapped (mapped_form f) (is_new first m) another names_class refl refl)
        (cond-mapped (mapped_form f) (has_number b asked) (reads b) another refl refl))
    read_form-mapped m (Free s) = refl

    reference_touches-mapped : (held : List (ℕ × ℕ)) (m : ℕ) (xs : List Reference) → reference_touches first called_there asked_there named_there (there f rs) (held_there f held) (f m) (there f xs) ≡ moved f (reference_touches first called asked named rs held m xs)
    reference_touches-mapped held m [] = refl
    reference_touches-mapped held m (x ∷ xs) =
        append-mapped (mapped_touch f) (cond (nat_eq m x.number) (touch held m (read_form first called asked named rs m x.to)) []) (reference_touches first called asked named rs held m xs)
        (rw (r.apart m x.number) (cond-mapped (moved f) (nat_eq m x.number) (touch held m (read_form first called asked named rs m x.to)) [] (ap (touch (held_there f held) (f m)) (read_form-mapped m x.to)) refl))
        (reference_touches-mapped held m xs)

    assignment_form-mapped : (m : ℕ) (ps : Parts) → assignment_form first called_there asked_there named_there (there f rs) (f m) (mapped_parts f ps) ≡ mapped_form f (assignment_form first called asked named rs m ps)
    assignment_form-mapped m ps =
        rw (r.new m, string_at-mapped f 0 ps, at-mapped f 1 ps, sets_member-mapped f (at 1 ps), is_setter_slot-mapped f (at 1 ps), is_member-mapped f (at 1 ps))
        (definition_if-mapped f (cond (is_new first m) (is_assignment ps && (sets_member (at 1 ps) || is_setter_slot (at 1 ps))) (not (is_assignment ps) && is_member (at 1 ps))))

    update_form-mapped : (m : ℕ) (ps : Parts) → update_form first called_there asked_there named_there (there f rs) (f m) (mapped_parts f ps) ≡ mapped_form f (update_form first called asked named rs m ps)
    update_form-mapped m ps = rw (r.new m, at-mapped f 1 ps, is_member-mapped f (at 1 ps)) (definition_if-mapped f (not (is_new first m) && is_member (at 1 ps)))

    called_form-mapped : (m : ℕ) (ps : Parts) → called_form first called_there asked_there named_there (there f rs) (f m) (mapped_parts f ps) ≡ mapped_form f (called_form first called asked named rs m ps)
    called_form-mapped m ps =
        let form : TouchForm = call_form (is_super_call Kind.CallExpression ps) (spelling (at 0 ps)) called in
        rw (is_super_call-mapped f Kind.CallExpression ps, at-mapped f 0 ps, spelling-mapped f (at 0 ps), items_at-mapped f 1 ps, defines-mapped f (at 0 ps) (items (at 1 ps)), r.new m, is_writer-mapped f (at 0 ps))
        (cond-mapped (mapped_form f) (defines (at 0 ps) (items (at 1 ps)) || (is_new first m && is_writer (at 0 ps))) defines_field form refl (call_form-mapped f (is_super_call Kind.CallExpression ps) (spelling (at 0 ps)) called))

    own_touches-mapped : (x : Spot) (held : List (ℕ × ℕ)) (kind : Kind) (m : ℕ) (ps : Parts) → own_touches first called_there asked_there named_there (there f rs) (mapped_spot f x) (held_there f held) kind (f m) (mapped_parts f ps) ≡ moved f (own_touches first called asked named rs x held kind m ps)
    own_touches-mapped x held Kind.IdentifierReference m ps = reference_touches-mapped held m rs
    own_touches-mapped x held Kind.CallExpression m ps = ap (touch (held_there f held) (f m)) (called_form-mapped m ps)
    own_touches-mapped x held Kind.AssignmentExpression m ps = ap (touch (held_there f held) (f m)) (assignment_form-mapped m ps)
    own_touches-mapped x held Kind.UpdateExpression m ps = ap (touch (held_there f held) (f m)) (update_form-mapped m ps)
    own_touches-mapped x held Kind.SpreadElement m ps = touch_around-mapped f x
    own_touches-mapped x held Kind.ThisExpression m ps = refl
    own_touches-mapped x held Kind.BindingIdentifier m ps = refl
    own_touches-mapped x held Kind.SequenceExpression m ps = rw (items_at-mapped f 0 ps, ends_in_throw-mapped f (items (at 0 ps))) (cond-mapped (moved f) (ends_in_throw (items (at 0 ps))) (touch held m another) [] refl refl)
    own_touches-mapped x held kind m ps = cond-mapped (moved f) (is_still kind) [] (touch held m another) refl refl

    mutual
      touches-mapped : (x : Spot) (t : Tree) → touches first called_there asked_there named_there (there f rs) (mapped_spot f x) (mapped f t) ≡ moved f (touches first called asked named rs x t)
      touches-mapped x (Node kind m span semantic_id ps) =
          let optional : Bool = has_optional (Node kind m span semantic_id ps) in
          let held : List (ℕ × ℕ) = held_behind x.chain optional x.held in
          let inside : ℕ → Spot = spot_in x optional kind m ps in
          let straight : List Touch = inner_touches first called asked named rs kind (in_no_chain x) inside ps in
          let inner : List Touch = cond (is_keyed kind) (keyed first called asked named rs (converted x kind m) inside ps) straight in
          let other_way : List Touch = cond (is_turned kind) (turned first called asked named rs inside ps) inner in
          let whole : List Touch = cond (is_class kind) (class_touches first called asked named rs (in_no_chain x) m ps) other_way in
          rw (is_apart-mapped kind m, has_optional-mapped f (Node kind m span semantic_id ps), held_behind-mapped x.chain optional x.held)
          (cond-mapped (moved f) (is_apart first called asked named rs kind m) (cond (is_function_declaration kind) (touch x.held m another) []) (whole ++ own_touches first called asked named rs x held kind m ps) (cond-mapped (moved f) (is_function_declaration kind) (touch x.held m another) [] refl refl)
          (append-mapped (mapped_touch f) whole (own_touches first called asked named rs x held kind m ps)
          (cond-mapped (moved f) (is_class kind) (class_touches first called asked named rs (in_no_chain x) m ps) other_way (class_touches-mapped (in_no_chain x) m ps)
          (cond-mapped (moved f) (is_turned kind) (turned first called asked named rs inside ps) inner (turned-mapped _ inside (spot_in-mapped x optional kind m ps) ps)
          (cond-mapped (moved f) (is_keyed kind) (keyed first called asked named rs (converted x kind m) inside ps) straight (keyed-mapped (converted (mapped_spot f x) kind (f m)) (converted x kind m) (converted-mapped f x kind m) _ inside (spot_in-mapped x optional kind m ps) ps)
          (inner_touches-mapped kind (in_no_chain x) _ inside (spot_in-mapped x optional kind m ps) ps))))
          (own_touches-mapped x held kind m ps)))

      keyed-mapped : (c d : List Touch) → c ≡ moved f d → (g h : ℕ → Spot) → ((i : ℕ) → g i ≡ mapped_spot f (h i)) → (ps : Parts) → keyed first called_there asked_there named_there (there f rs) c g (mapped_parts f ps) ≡ moved f (keyed first called asked named rs d h ps)
      keyed-mapped c d e g h same (more k ps) =
          append-mapped (mapped_touch f) (touches_at first called asked named rs (h 0) k) (d ++ touches_in first called asked named rs (λ i. h (suc i)) ps) (ap (λ y. touches_at first called_there asked_there named_there (there f rs) y (mapped_part f k)) (same 0) ∙ touches_at-mapped (h 0) k)
          (append-mapped (mapped_touch f) d (touches_in first called asked named rs (λ i. h (suc i)) ps) e (touches_in-mapped (λ i. g (suc i)) (λ i. h (suc i)) (λ i. same (suc i)) ps))
      keyed-mapped c d e g h same end = refl

      joined-mapped : (x : Spot) (es : Parts) → joined first called_there asked_there named_there (there f rs) (mapped_spot f x) (mapped_parts f es) ≡ moved f (joined first called asked named rs x es)
      joined-mapped x end = refl
      joined-mapped x (more e es) =
          append-mapped (mapped_touch f) (touches_at first called asked named rs x e) (touch_around x ++ joined first called asked named rs x es) (touches_at-mapped x e)
          (append-mapped (mapped_touch f) (touch_around x) (joined first called asked named rs x es) (touch_around-mapped f x) (joined-mapped x es))

      inner_touches-mapped : (kind : Kind) (x : Spot) (g h : ℕ → Spot) → ((i : ℕ) → g i ≡ mapped_spot f (h i)) → (ps : Parts) → inner_touches first called_there asked_there named_there (there f rs) kind (mapped_spot f x) g (mapped_parts f ps) ≡ moved f (inner_touches first called asked named rs kind x h ps)
      inner_touches-mapped Kind.CallExpression x g h same (more (child (Node Kind.ArrowFunctionExpression k span semantic_id ps)) rest) =
          append-mapped (mapped_touch f) (touches_in first called asked named rs (λ i. h (suc i)) rest) (cond (is_new first k) (touches_of first called asked named rs x ps) [])
          (touches_in-mapped (λ i. g (suc i)) (λ i. h (suc i)) (λ i. same (suc i)) rest)
          (rw (r.new k) (cond-mapped (moved f) (is_new first k) (touches_of first called asked named rs x ps) [] (touches_of-mapped x ps) refl))
      inner_touches-mapped Kind.TemplateLiteral x g h same (more quasis (more (list es) rest)) =
          ap (λ y. joined first called_there asked_there named_there (there f rs) y (mapped_parts f es)) (same 1) ∙ joined-mapped (h 1) es
      inner_touches-mapped Kind.AssignmentTargetWithDefault x g h same (more l (more v rest)) =
          rw (is_member-mapped f l)
          (cond-mapped (moved f) (is_member l) (touches_at first called asked named rs (h 0) l ++ touches_at first called asked named rs (h 1) v) (touches_at first called asked named rs (h 1) v ++ touches_at first called asked named rs (h 0) l)
          (append-mapped (mapped_touch f) (touches_at first called asked named rs (h 0) l) (touches_at first called asked named rs (h 1) v) (ap (λ y. touches_at first called_there asked_there named_there (there f rs) y (mapped_part f l)) (same 0) ∙ touches_at-mapped (h 0) l) (ap (λ y. touches_at first called_there asked_there named_there (there f rs) y (mapped_part f v)) (same 1) ∙ touches_at-mapped (h 1) v))
          (append-mapped (mapped_touch f) (touches_at first called asked named rs (h 1) v) (touches_at first called asked named rs (h 0) l) (ap (λ y. touches_at first called_there asked_there named_there (there f rs) y (mapped_part f v)) (same 1) ∙ touches_at-mapped (h 1) v) (ap (λ y. touches_at first called_there asked_there named_there (there f rs) y (mapped_part f l)) (same 0) ∙ touches_at-mapped (h 0) l)))
      inner_touches-mapped Kind.AssignmentExpression x g h same (more operator (more l (more v rest))) =
          rw (is_pattern-mapped f l)
          (cond-mapped (moved f) (is_pattern l) (touches_at first called asked named rs (h 2) v ++ touches_at first called asked named rs (h 1) l) (touches_at first called asked named rs (h 1) l ++ touches_at first called asked named rs (h 2) v)
          (append-mapped (mapped_touch f) (touches_at first called asked named rs (h 2) v) (touches_at first called asked named rs (h 1) l) (ap (λ y. touches_at first called_there asked_there named_there (there f rs) y (mapped_part f v)) (same 2) ∙ touches_at-mapped (h 2) v) (ap (λ y. touches_at first called_there asked_there named_there (there f rs) y (mapped_part f l)) (same 1) ∙ touches_at-mapped (h 1) l))
          (append-mapped (mapped_touch f) (touches_at first called asked named rs (h 1) l) (touches_at first called asked named rs (h 2) v) (ap (λ y. touches_at first called_there asked_there named_there (there f rs) y (mapped_part f l)) (same 1) ∙ touches_at-mapped (h 1) l) (ap (λ y. touches_at first called_there asked_there named_there (there f rs) y (mapped_part f v)) (same 2) ∙ touches_at-mapped (h 2) v)))
      inner_touches-mapped kind x g h same (more p rest) =
          append-mapped (mapped_touch f) (touches_at first called asked named rs (h 0) p) (touches_in first called asked named rs (λ i. h (suc i)) rest)
          (ap (λ y. touches_at first called_there asked_there named_there (there f rs) y (mapped_part f p)) (same 0) ∙ touches_at-mapped (h 0) p)
          (touches_in-mapped (λ i. g (suc i)) (λ i. h (suc i)) (λ i. same (suc i)) rest)
      inner_touches-mapped kind x g h same end = refl

      touches_in-mapped : (g h : ℕ → Spot) → ((i : ℕ) → g i ≡ mapped_spot f (h i)) → (ps : Parts) → touches_in first called_there asked_there named_there (there f rs) g (mapped_parts f ps) ≡ moved f (touches_in first called asked named rs h ps)
      touches_in-mapped g h same end = refl
      touches_in-mapped g h same (more p ps) =
          append-mapped (mapped_touch f) (touches_at first called asked named rs (h 0) p) (touches_in first called asked named rs (λ i. h (suc i)) ps)
          (ap (λ y. touches_at first called_there asked_there named_there (there f rs) y (mapped_part f p)) (same 0) ∙ touches_at-mapped (h 0) p)
          (touches_in-mapped (λ i. g (suc i)) (λ i. h (suc i)) (λ i. same (suc i)) ps)

      touches_at-mapped : (x : Spot) (p : Part) → touches_at first called_there asked_there named_there (there f rs) (mapped_spot f x) (mapped_part f p) ≡ moved f (touches_at first called asked named rs x p)
      touches_at-mapped x (child t) = touches-mapped x t
      touches_at-mapped x (list ps) = touches_of-mapped x ps
      touches_at-mapped x p = refl

      touches_of-mapped : (x : Spot) (ps : Parts) → touches_of first called_there asked_there named_there (there f rs) (mapped_spot f x) (mapped_parts f ps) ≡ moved f (touches_of first called asked named rs x ps)
      touches_of-mapped x end = refl
      touches_of-mapped x (more p ps) = append-mapped (mapped_touch f) (touches_at first called asked named rs x p) (touches_of first called asked named rs x ps) (touches_at-mapped x p) (touches_of-mapped x ps)

      turned-mapped : (g h : ℕ → Spot) → ((i : ℕ) → g i ≡ mapped_spot f (h i)) → (ps : Parts) → turned first called_there asked_there named_there (there f rs) g (mapped_parts f ps) ≡ moved f (turned first called asked named rs h ps)
      turned-mapped g h same (more p (more q ps)) =
          append-mapped (mapped_touch f) (touches_at first called asked named rs (h 1) q) (touches_at first called asked named rs (h 0) p ++ touches_in first called asked named rs (λ i. h (suc (suc i))) ps)
          (ap (λ y. touches_at first called_there asked_there named_there (there f rs) y (mapped_part f q)) (same 1) ∙ touches_at-mapped (h 1) q)
          (append-mapped (mapped_touch f) (touches_at first called asked named rs (h 0) p) (touches_in first called asked named rs (λ i. h (suc (suc i))) ps)
          (ap (λ y. touches_at first called_there asked_there named_there (there f rs) y (mapped_part f p)) (same 0) ∙ touches_at-mapped (h 0) p)
          (touches_in-mapped (λ i. g (suc (suc i))) (λ i. h (suc (suc i))) (λ i. same (suc (suc i))) ps))
      turned-mapped g h same (more p end) = ap (λ y. touches_at first called_there asked_there named_there (there f rs) y (mapped_part f p)) (same 0) ∙ touches_at-mapped (h 0) p
      turned-mapped g h same end = refl

      class_touches-mapped : (x : Spot) (n : ℕ) (ps : Parts) → class_touches first called_there asked_there named_there (there f rs) (mapped_spot f x) (f n) (mapped_parts f ps) ≡ moved f (class_touches first called asked named rs x n ps)
      class_touches-mapped x n (more id (more heritage (more body rest))) =
          let all : List Touch = value_touches first called asked named rs true x body in
          let values : List Touch = without_this all in
          let made : List Touch = touch x.held n makes_class ++ (touch x.held n another ++ values) in
          append-mapped (mapped_touch f) (touches_at first called asked named rs x heritage) (key_touches first called asked named rs x body ++ made) (touches_at-mapped x heritage)
          (append-mapped (mapped_touch f) (key_touches first called asked named rs x body) made (key_touches-mapped x body)
          (append-mapped (mapped_touch f) (touch x.held n makes_class) (touch x.held n another ++ values) refl
          (append-mapped (mapped_touch f) (touch x.held n another) values refl (ap without_this (value_touches-mapped true x body) ∙ without_this-mapped f all))))
      class_touches-mapped x n (more id (more heritage end)) = refl
      class_touches-mapped x n (more id end) = refl
      class_touches-mapped x n end = refl

      key_touches-mapped : (x : Spot) (p : Part) → key_touches first called_there asked_there named_there (there f rs) (mapped_spot f x) (mapped_part f p) ≡ moved f (key_touches first called asked named rs x p)
      key_touches-mapped x (child (Node kind m span semantic_id (more (list es) rest))) = keys_touched-mapped x es
      key_touches-mapped x p = refl

      keys_touched-mapped : (x : Spot) (es : Parts) → keys_touched first called_there asked_there named_there (there f rs) (mapped_spot f x) (mapped_parts f es) ≡ moved f (keys_touched first called asked named rs x es)
      keys_touched-mapped x end = refl
      keys_touched-mapped x (more (child (Node kind m span semantic_id (more k ps))) es) =
          append-mapped (mapped_touch f) (cond (is_element kind) (touches_at first called asked named rs x k) []) (keys_touched first called asked named rs x es)
          (cond-mapped (moved f) (is_element kind) (touches_at first called asked named rs x k) [] (touches_at-mapped x k) refl)
          (keys_touched-mapped x es)
      keys_touched-mapped x (more p es) = keys_touched-mapped x es

      value_touches-mapped : (runs : Bool) (x : Spot) (p : Part) → value_touches first called_there asked_there named_there (there f rs) runs (mapped_spot f x) (mapped_part f p) ≡ moved f (value_touches first called asked named rs runs x p)
      value_touches-mapped runs x (child (Node kind m span semantic_id (more (list es) rest))) = values_touched-mapped runs x es
      value_touches-mapped runs x p = refl

      values_touched-mapped : (runs : Bool) (x : Spot) (es : Parts) → values_touched first called_there asked_there named_there (there f rs) runs (mapped_spot f x) (mapped_parts f es) ≡ moved f (values_touched first called asked named rs runs x es)
      values_touched-mapped runs x end = refl
      values_touched-mapped runs x (more (child (Node kind m span semantic_id (more k ps))) es) =
          let defined : List Touch = cond (is_property_definition kind && not (is_new first m)) (touch x.held m defines_field) [] in
          let own : List Touch = cond (is_element kind) [] (touches_at first called asked named rs x k) ++ (touches_of first called asked named rs x ps ++ defined) in
          rw (runs_with_class-mapped f (child (Node kind m span semantic_id (more k ps))), r.new m)
          (append-mapped (mapped_touch f) (cond (is_same runs (runs_with_class (child (Node kind m span semantic_id (more k ps))))) own []) (values_touched first called asked named rs runs x es)
          (cond-mapped (moved f) (is_same runs (runs_with_class (child (Node kind m span semantic_id (more k ps))))) own []
          (append-mapped (mapped_touch f) (cond (is_element kind) [] (touches_at first called asked named rs x k)) (touches_of first called asked named rs x ps ++ defined)
          (cond-mapped (moved f) (is_element kind) [] (touches_at first called asked named rs x k) refl (touches_at-mapped x k))
          (append-mapped (mapped_touch f) (touches_of first called asked named rs x ps) defined (touches_of-mapped x ps) (cond-mapped (moved f) (is_property_definition kind && not (is_new first m)) (touch x.held m defines_field) [] refl refl)))
          refl)
          (values_touched-mapped runs x es))
      values_touched-mapped runs x (more p es) = values_touched-mapped runs x es

    part_at-mapped : (i : ℕ) (ps : Parts) → touches_at first called_there asked_there named_there (there f rs) nothing_around (at i (mapped_parts f ps)) ≡ moved f (touches_at first called asked named rs nothing_around (at i ps))
    part_at-mapped i ps = ap (touches_at first called_there asked_there named_there (there f rs) nothing_around) (at-mapped f i ps) ∙ touches_at-mapped nothing_around (at i ps)

    module _ (derived : List ℕ) (given : List (ℕ × ℕ)) (nodes : List Tree) where
      abbrev derived_there : List ℕ
      derived_there = map f derived

      abbrev given_there : List (ℕ × ℕ)
      given_there = map (mapped_pair f) given

      abbrev nodes_there : List Tree
      nodes_there = map (mapped f) nodes

      fields-mapped : (ps : Parts) → value_touches first called_there asked_there named_there (there f rs) false nothing_around (at 2 (mapped_parts f ps)) ≡ moved f (value_touches first called asked named rs false nothing_around (at 2 ps))
      fields-mapped ps = ap (value_touches first called_there asked_there named_there (there f rs) false nothing_around) (at-mapped f 2 ps) ∙ value_touches-mapped false nothing_around (at 2 ps)

      field_touches-mapped : (ns : List ℕ) (ts : List Tree) → field_touches first called_there asked_there named_there (there f rs) derived_there given_there nodes_there (map f ns) (map (mapped f) ts) ≡ moved f (field_touches first called asked named rs derived given nodes ns ts)
      field_touches-mapped ns [] = refl
      field_touches-mapped ns (Node kind n span semantic_id ps ∷ ts) =
          rw (has_number-mapped r n ns)
          (cond-mapped (moved f) (is_class kind && has_number n ns) (value_touches first called asked named rs false nothing_around (at 2 ps)) (field_touches first called asked named rs derived given nodes ns ts) (fields-mapped ps) (field_touches-mapped ns ts))

      held_with-mapped : (held : List (ℕ × ℕ)) (ts : List Touch) → held_with first called_there asked_there named_there (there f rs) derived_there given_there nodes_there (held_there f held) (moved f ts) ≡ moved f (held_with first called asked named rs derived given nodes held ts)
      held_with-mapped held [] = refl
      held_with-mapped held (t ∷ ts) =
          ap₂ (λ h us. record { number = f t.number; form = mapped_form f t.form; held = h } ∷ us) (sym (map-append (mapped_held f) t.held held)) (held_with-mapped held ts)

      with_fields-mapped : (fields ts : List Touch) → with_fields first called_there asked_there named_there (there f rs) derived_there given_there nodes_there (moved f fields) (moved f ts) ≡ moved f (with_fields first called asked named rs derived given nodes fields ts)
      with_fields-mapped fields [] = refl
      with_fields-mapped fields (t ∷ ts) =
          append-mapped (mapped_touch f) (t ∷ cond (is_call_of_super t.form) (held_with first called asked named rs derived given nodes t.held fields) []) (with_fields first called asked named rs derived given nodes fields ts)
          (ap (λ us. mapped_touch f t ∷ us) (rw (is_call_of_super-mapped f t.form) (cond-mapped (moved f) (is_call_of_super t.form) (held_with first called asked named rs derived given nodes t.held fields) [] (held_with-mapped t.held fields) refl)))
          (with_fields-mapped fields ts)

      function_touches-mapped : (derives : Bool) (fields : List Touch) (kind : Kind) (m : ℕ) (ps : Parts) → function_touches first called_there asked_there named_there (there f rs) derived_there given_there nodes_there derives (moved f fields) kind (f m) (mapped_parts f ps) ≡ moved f (function_touches first called asked named rs derived given nodes derives fields kind m ps)
      function_touches-mapped derives fields kind m ps =
          let body : List Touch = touches_at first called asked named rs nothing_around (at (suc (parameters_at kind)) ps) in
          append-mapped (mapped_touch f) (touches_at first called asked named rs nothing_around (at (parameters_at kind) ps)) (touch [] m another ++ (cond derives [] fields ++ body)) (part_at-mapped (parameters_at kind) ps)
          (append-mapped (mapped_touch f) (touch [] m another) (cond derives [] fields ++ body) refl
          (append-mapped (mapped_touch f) (cond derives [] fields) body (cond-mapped (moved f) derives [] fields refl refl) (part_at-mapped (suc (parameters_at kind)) ps)))

      body_touches-mapped : (derives : Bool) (fields : List Touch) (kind : Kind) (m : ℕ) (ps : Parts) → body_touches first called_there asked_there named_there (there f rs) derived_there given_there nodes_there derives (moved f fields) kind (f m) (mapped_parts f ps) ≡ moved f (body_touches first called asked named rs derived given nodes derives fields kind m ps)
      body_touches-mapped derives fields kind m ps =
          let whole : List Touch = function_touches first called asked named rs derived given nodes derives fields kind m ps in
          rw (function_touches-mapped derives fields kind m ps)
          (cond-mapped (moved f) derives (with_fields first called asked named rs derived given nodes fields whole) whole (with_fields-mapped fields whole) refl)

      of_class-mapped : (m : ℕ) → constructs (f m) nodes_there ++ classes_given (f m) given_there ≡ map f (constructs m nodes ++ classes_given m given)
      of_class-mapped m = append-mapped f (constructs m nodes) (classes_given m given) (constructs-mapped m nodes) (classes_given-mapped m given)

      other_bodies-mapped : (kind : Kind) (m : ℕ) (ps : Parts) →
          cond (is_any_function kind && is_apart first called_there asked_there named_there (there f rs) kind (f m)) (record { number = f m; is_of_fields = false; of_class = constructs (f m) nodes_there ++ classes_given (f m) given_there; derives = has_number (f m) derived_there; touches = body_touches first called_there asked_there named_there (there f rs) derived_there given_there nodes_there (has_number (f m) derived_there) (field_touches first called_there asked_there named_there (there f rs) derived_there given_there nodes_there (constructs (f m) nodes_there) nodes_there) kind (f m) (mapped_parts f ps) } ∷ [])
          (cond (is_class kind) (record { number = f m; is_of_fields = true; of_class = []; derives = false; touches = value_touches first called_there asked_there named_there (there f rs) false nothing_around (at 2 (mapped_parts f ps)) } ∷ []) [])
          ≡ map (mapped_body f) (cond (is_any_function kind && is_apart first called asked named rs kind m) (record { number = m; is_of_fields = false; of_class = constructs m nodes ++ classes_given m given; derives = has_number m derived; touches = body_touches first called asked named rs derived given nodes (has_number m derived) (field_touches first called asked named rs derived given nodes (constructs m nodes) nodes) kind m ps } ∷ [])
          (cond (is_class kind) (record { number = m; is_of_fields = true; of_class = []; derives = false; touches = value_touches first called asked named rs false nothing_around (at 2 ps) } ∷ []) []))
      other_bodies-mapped kind m ps =
          let fields : List Touch = field_touches first called asked named rs derived given nodes (constructs m nodes) nodes in
          let own : List Body = record { number = m; is_of_fields = false; of_class = constructs m nodes ++ classes_given m given; derives = has_number m derived; touches = body_touches first called asked named rs derived given nodes (has_number m derived) fields kind m ps } ∷ [] in
          let initial : List Body = record { number = m; is_of_fields = true; of_class = []; derives = false; touches = value_touches first called asked named rs false nothing_around (at 2 ps) } ∷ [] in
          rw (is_apart-mapped kind m, of_class-mapped m, has_number-mapped r m derived, constructs-mapped m nodes, field_touches-mapped (constructs m nodes) nodes, body_touches-mapped (has_number m derived) fields kind m ps, fields-mapped ps)
          (cond-mapped (map (mapped_body f)) (is_any_function kind && is_apart first called asked named rs kind m) own (cond (is_class kind) initial []) refl
          (cond-mapped (map (mapped_body f)) (is_class kind) initial [] refl refl))

      bodies_by-mapped : (kind : Kind) (m : ℕ) (ps : Parts) → bodies_by first called_there asked_there named_there (there f rs) derived_there given_there nodes_there kind (f m) (mapped_parts f ps) ≡ map (mapped_body f) (bodies_by first called asked named rs derived given nodes kind m ps)
      bodies_by-mapped Kind.Program m ps = ap (λ ts. record { number = f m; is_of_fields = false; of_class = []; derives = false; touches = ts } ∷ []) (part_at-mapped 1 ps)
      bodies_by-mapped kind m ps = other_bodies-mapped kind m ps

      bodies-mapped : (ts : List Tree) → bodies first called_there asked_there named_there (there f rs) derived_there given_there nodes_there (map (mapped f) ts) ≡ map (mapped_body f) (bodies first called asked named rs derived given nodes ts)
      bodies-mapped [] = refl
      bodies-mapped (Node kind m span semantic_id ps ∷ ts) = append-mapped (mapped_body f) (bodies_by first called asked named rs derived given nodes kind m ps) (bodies first called asked named rs derived given nodes ts) (bodies_by-mapped kind m ps) (bodies-mapped ts)

  -- ---- what stands behind

  is_touched-mapped : (m : ℕ) (ts : List Touch) → is_touched (f m) (moved f ts) ≡ is_touched m ts
  is_touched-mapped m [] = refl
  is_touched-mapped m (t ∷ ts) = ap₂ (λ x y. x || y) (ap₂ (λ x y. x && not y) (r.apart m t.number) (is_asked-mapped f true t.form)) (is_touched-mapped m ts)

  times-mapped : (m : ℕ) (ts : List Touch) → times (f m) (moved f ts) ≡ times m ts
  times-mapped m [] = refl
  times-mapped m (t ∷ ts) = ap₂ (λ b n. cond b (suc n) n) (ap₂ (λ x y. x && not y) (r.apart m t.number) (is_asked-mapped f true t.form)) (times-mapped m ts)

  is_excepted-mapped : (m n : ℕ) (cs : List ClassParts) → is_excepted (f m) (f n) (map (mapped_class f) cs) ≡ is_excepted m n cs
  is_excepted-mapped m n [] = refl
  is_excepted-mapped m n (c ∷ cs) = ap₂ (λ x y. x || y) (ap₂ (λ x y. x && y) (has_number-mapped r m c.moving) (has_number-mapped r n c.passed)) (is_excepted-mapped m n cs)

  is_same_form-mapped : (x y : TouchForm) → is_same_form (mapped_form f x) (mapped_form f y) ≡ is_same_form x y
  is_same_form-mapped (reads b) (reads c) = r.apart b c
  is_same_form-mapped (reads b) y = refl
  is_same_form-mapped x (reads c) = refl
  is_same_form-mapped x y = refl

  -- ---- what is put off

  stands_in_node-mapped : (k : ℕ) (ps : List (ℕ × ℕ)) → stands_in_node (f k) (held_there f ps) ≡ stands_in_node k ps
  stands_in_node-mapped k [] = refl
  stands_in_node-mapped k (p ∷ ps) = ap₂ (λ x y. x || y) (r.apart k p.0) (stands_in_node-mapped k ps)

  is_run_before-mapped : (cs : Closures) (ran : List ℕ) (t u : Touch) → is_run_before (mapped_closures f cs) (map f ran) (mapped_touch f t) (mapped_touch f u) ≡ is_run_before cs ran t u
  is_run_before-mapped [] ran t u = refl
  is_run_before-mapped (c ∷ cs) ran t u =
      ap₂ (λ x y. x && y)
      (ap₂ (λ x y. not x || y) (stands_in_node-mapped c.1 u.held) (ap₂ (λ x y. x || y) (stands_in_node-mapped c.1 t.held) (has_number-mapped r c.1 ran)))
      (is_run_before-mapped cs ran t u)

  closure_run-mapped : (form : TouchForm) → closure_run (mapped_form f form) ≡ map f (closure_run form)
  closure_run-mapped (runs_closure k) = refl
  closure_run-mapped (reads b) = refl
  closure_run-mapped form = refl

  were_run-mapped : (cs : Closures) (t : Touch) (ran : List ℕ) (us : List Touch) → were_run (mapped_closures f cs) (mapped_touch f t) (map f ran) (moved f us) ≡ map f (were_run cs t ran us)
  were_run-mapped cs t ran [] = refl
  were_run-mapped cs t ran (u ∷ us) =
      let runs : Bool = is_run_before cs ran t u in
      ap (λ (ks : List ℕ). were_run (mapped_closures f cs) (mapped_touch f t) ks (moved f us))
      (append-mapped f ran (cond runs (closure_run u.form) []) refl (rw (is_run_before-mapped cs ran t u) (cond-mapped (map f) runs (closure_run u.form) [] (closure_run-mapped u.form) refl)))
      ∙ were_run-mapped cs t (ran ++ cond runs (closure_run u.form) []) us

  stands_in_closure-mapped : (cs : Closures) (t : Touch) → stands_in_closure (mapped_closures f cs) (mapped_touch f t) ≡ stands_in_closure cs t
  stands_in_closure-mapped [] t = refl
  stands_in_closure-mapped (c ∷ cs) t = ap₂ (λ x y. x || y) (stands_in_node-mapped c.1 t.held) (stands_in_closure-mapped cs t)

  is_in_same-mapped : (cs : Closures) (t u : Touch) → is_in_same (mapped_closures f cs) (mapped_touch f t) (mapped_touch f u) ≡ is_in_same cs t u
  is_in_same-mapped [] t u = refl
  is_in_same-mapped (c ∷ cs) t u = ap₂ (λ x y. x && y) (ap₂ (λ x y. not x || y) (stands_in_node-mapped c.1 t.held) (stands_in_node-mapped c.1 u.held)) (is_in_same-mapped cs t u)

  definitions_touched-mapped : (cs : Closures) (t : Touch) (es : List Touch) → definitions_touched (mapped_closures f cs) (mapped_touch f t) (moved f es) ≡ definitions_touched cs t es
  definitions_touched-mapped cs t [] = refl
  definitions_touched-mapped cs t (e ∷ es) = ap₂ (λ b n. cond b (suc n) n) (ap₂ (λ x y. x && y) (is_definition-mapped f e.form) (is_in_same-mapped cs e t)) (definitions_touched-mapped cs t es)

  is_arrow_of-mapped : (k : ℕ) (cs : Closures) → is_arrow_of (f k) (mapped_closures f cs) ≡ is_arrow_of k cs
  is_arrow_of-mapped k [] = refl
  is_arrow_of-mapped k (c ∷ cs) = ap₂ (λ x y. x || y) (r.apart k c.1) (is_arrow_of-mapped k cs)

  is_run_by-mapped : (cs : Closures) (u : Touch) (form : TouchForm) → is_run_by (mapped_closures f cs) (mapped_touch f u) (mapped_form f form) ≡ is_run_by cs u form
  is_run_by-mapped cs u (runs_closure k) = ap₂ (λ x y. x && y) (is_arrow_of-mapped k cs) (stands_in_node-mapped k u.held)
  is_run_by-mapped cs u (reads b) = refl
  is_run_by-mapped cs u form = refl

  held_within-mapped : (k : ℕ) (ps : List (ℕ × ℕ)) → held_within (f k) (held_there f ps) ≡ held_there f (held_within k ps)
  held_within-mapped k [] = refl
  held_within-mapped k (p ∷ ps) =
      ap₂ (λ b rest. cond b [] (mapped_held f p ∷ rest)) (r.apart k p.0) (held_within-mapped k ps)
      ∙ cond-mapped (held_there f) (nat_eq k p.0) [] (p ∷ held_within k ps) refl refl

  held_inside-mapped : (form : TouchForm) (ps : List (ℕ × ℕ)) → held_inside (mapped_form f form) (held_there f ps) ≡ held_there f (held_inside form ps)
  held_inside-mapped (runs_closure k) ps = held_within-mapped k ps
  held_inside-mapped (reads b) ps = refl
  held_inside-mapped form ps = refl

  where_run-mapped : (t u : Touch) → where_run (mapped_touch f t) (mapped_touch f u) ≡ mapped_touch f (where_run t u)
  where_run-mapped t u = ap (λ (held : List (ℕ × ℕ)). made f u held) (append-mapped (mapped_held f) (held_inside t.form u.held) t.held (held_inside-mapped t.form u.held) refl)

  in_both-mapped : (t u : Touch) → in_both (mapped_touch f t) (mapped_touch f u) ≡ mapped_touch f (in_both t u)
  in_both-mapped t u = ap (λ (held : List (ℕ × ℕ)). made f u held) (append-mapped (mapped_held f) u.held t.held refl refl)

  put_off-mapped : (cs : Closures) (ran : List ℕ) (t : Touch) (us : List Touch) → put_off (mapped_closures f cs) (map f ran) (mapped_touch f t) (moved f us) ≡ moved f (put_off cs ran t us)
  put_off-mapped cs ran t [] = refl
  put_off-mapped cs ran t (u ∷ us) =
      append-mapped (mapped_touch f) (cond (not (is_run_before cs ran t u)) (u ∷ []) []) (put_off cs ran t us)
      (rw (is_run_before-mapped cs ran t u) (cond-mapped (moved f) (not (is_run_before cs ran t u)) (u ∷ []) [] refl refl))
      (put_off-mapped cs ran t us)

  put_off_behind-mapped : (cs : Closures) (t : Touch) (front : List Touch) → put_off_behind (mapped_closures f cs) (mapped_touch f t) (moved f front) ≡ moved f (put_off_behind cs t front)
  put_off_behind-mapped cs t front =
      ap (λ (ks : List ℕ). put_off (mapped_closures f cs) ks (mapped_touch f t) (moved f front)) (were_run-mapped cs t [] front)
      ∙ put_off-mapped cs (were_run cs t [] front) t front

  module _ (supers : List ℕ) (classes : List ClassParts) (called : Closures) (sources : List Body) where
    abbrev closures_there : Closures
    closures_there = mapped_closures f called

    abbrev supers_there : List ℕ
    supers_there = map f supers

    abbrev classes_there : List ClassParts
    classes_there = map (mapped_class f) classes

    abbrev sources_there : List Body
    sources_there = map (mapped_body f) sources

    all_behind-mapped : (here : List Touch) (u : Touch) (us ts es : List Touch) → all_behind first supers_there classes_there closures_there sources_there (moved f here) (mapped_touch f u) (moved f us) (moved f ts) (moved f es) ≡ all_behind first supers classes called sources here u us ts es
    all_behind-mapped here u us ts [] = refl
    all_behind-mapped here u us ts (e ∷ es) =
        ap₂ (λ x y. x && y)
        (ap₂ (λ x y. x || y) (ap₂ (λ x y. x || not y) (is_asked-mapped f true e.form) (is_touched-mapped e.number here)) (ap₂ (λ x y. x || y) (ap₂ nat_le (times-mapped e.number ts) (times-mapped e.number us)) (is_excepted-mapped u.number e.number classes)))
        (all_behind-mapped here u us ts es)

    is_like-mapped : (t u : Touch) → is_like first supers_there classes_there closures_there sources_there (mapped_touch f t) (mapped_touch f u) ≡ is_like first supers classes called sources t u
    is_like-mapped t u = ap₂ (λ x y. x && y) (ap₂ (λ x y. x || y) (r.new t.number) (r.apart t.number u.number)) (is_same_form-mapped t.form u.form)

    stands_like-mapped : (t : Touch) (ts here us : List Touch) → stands_like first supers_there classes_there closures_there sources_there (mapped_touch f t) (moved f ts) (moved f here) (moved f us) ≡ stands_like first supers classes called sources t ts here us
    stands_like-mapped t ts here [] = refl
    stands_like-mapped t ts here (u ∷ us) =
        ap₂ (λ x y. x || y)
        (ap₂ (λ x y. x && y) (is_like-mapped t u) (ap₂ (λ x y. x && y) (all_behind-mapped here u us ts ts) (ap₂ (λ x y. x && y) (ap₂ nat_le (definitions_touched-mapped called t ts) (definitions_touched-mapped called u us)) (all_pairs_stand-mapped r u.held t.held))))
        (stands_like-mapped t ts here us)

    is_of_body-mapped : (ready inner : Bool) (b c : Body) → is_of_body first supers_there classes_there closures_there sources_there ready inner (mapped_body f b) (mapped_body f c) ≡ is_of_body first supers classes called sources ready inner b c
    is_of_body-mapped ready inner b c = rw (r.apart b.number c.number, r.new b.number, has_number-mapped r c.number b.of_class) refl

    stands_in_any-mapped : (ready : Bool) (b : Body) (t : Touch) (ts : List Touch) (cs : List Body) → stands_in_any first supers_there classes_there closures_there sources_there ready (mapped_body f b) (mapped_touch f t) (moved f ts) (map (mapped_body f) cs) ≡ stands_in_any first supers classes called sources ready b t ts cs
    stands_in_any-mapped ready b t ts [] = refl
    stands_in_any-mapped ready b t ts (c ∷ cs) =
        ap₂ (λ x y. x || y)
        (ap₂ (λ x y. x && y) (ap (λ i. is_of_body first supers_there classes_there closures_there sources_there ready i (mapped_body f b) (mapped_body f c)) (stands_in_closure-mapped called t) ∙ is_of_body-mapped ready (stands_in_closure called t) b c) (ap₂ (λ x y. (c.derives || not x) && y) (is_this-mapped f t.form) (stands_like-mapped t ts c.touches c.touches)))
        (stands_in_any-mapped ready b t ts cs)

    is_touched_as-mapped : (heads : List ℕ) (form : TouchForm) (us : List Touch) → is_touched_as first supers_there classes_there closures_there sources_there (map f heads) (mapped_form f form) (moved f us) ≡ is_touched_as first supers classes called sources heads form us
    is_touched_as-mapped heads form [] = refl
    is_touched_as-mapped heads form (u ∷ us) = ap₂ (λ x y. x || y) (ap₂ (λ x y. x && y) (has_number-mapped r u.number heads) (is_same_form-mapped form u.form)) (is_touched_as-mapped heads form us)

    is_touched_in-mapped : (heads : List ℕ) (form : TouchForm) (cs : List Body) → is_touched_in first supers_there classes_there closures_there sources_there (map f heads) (mapped_form f form) (map (mapped_body f) cs) ≡ is_touched_in first supers classes called sources heads form cs
    is_touched_in-mapped heads form [] = refl
    is_touched_in-mapped heads form (c ∷ cs) = ap₂ (λ x y. x || y) (is_touched_as-mapped heads form c.touches) (is_touched_in-mapped heads form cs)

    reads_key-mapped : (of_class : List ℕ) (form : TouchForm) (cs : List ClassParts) → reads_key first supers_there classes_there closures_there sources_there (map f of_class) (mapped_form f form) (map (mapped_class f) cs) ≡ reads_key first supers classes called sources of_class form cs
    reads_key-mapped of_class form [] = refl
    reads_key-mapped of_class form (c ∷ cs) = ap₂ (λ x y. x || y) (ap₂ (λ x y. x && y) (has_number-mapped r c.number of_class) (is_touched_in-mapped c.keys form sources)) (reads_key-mapped of_class form cs)

    is_behind_super-mapped : (t : Touch) (front : List Touch) → is_behind_super first supers_there classes_there closures_there sources_there (mapped_touch f t) (moved f front) ≡ is_behind_super first supers classes called sources t front
    is_behind_super-mapped t [] = refl
    is_behind_super-mapped t (s ∷ front) =
        ap₂ (λ x y. x || y) (ap₂ (λ x y. x && y) (ap₂ (λ x y. x || y) (is_call_of_super-mapped f s.form) (ap₂ (λ x y. x && not y) (has_number-mapped r s.number supers) (is_between-mapped f s.form))) (all_pairs_stand-mapped r s.held t.held)) (is_behind_super-mapped t front)

    touch_fits-mapped : (b : Body) (front : List Touch) (t : Touch) (ts : List Touch) → touch_fits first supers_there classes_there closures_there sources_there (mapped_body f b) (moved f front) (mapped_touch f t) (moved f ts) ≡ touch_fits first supers classes called sources b front t ts
    touch_fits-mapped b front t ts =
        rw (is_asked-mapped f b.derives t.form, is_this-mapped f t.form, is_behind_super-mapped t front, reads_key-mapped b.of_class t.form classes, stands_in_any-mapped (not b.derives || is_behind_super first supers classes called sources t front) b t ts sources) refl

    in_same-mapped : (t : Touch) (us : List Touch) → in_same first supers_there classes_there closures_there sources_there (mapped_touch f t) (moved f us) ≡ moved f (in_same first supers classes called sources t us)
    in_same-mapped t [] = refl
    in_same-mapped t (u ∷ us) =
        append-mapped (mapped_touch f) (cond (is_in_same called t u) (u ∷ []) []) (in_same first supers classes called sources t us)
        (rw (is_in_same-mapped called t u) (cond-mapped (moved f) (is_in_same called t u) (u ∷ []) [] refl refl))
        (in_same-mapped t us)

    run_with-mapped : (t : Touch) (us : List Touch) → run_with first supers_there classes_there closures_there sources_there (mapped_touch f t) (moved f us) ≡ moved f (run_with first supers classes called sources t us)
    run_with-mapped t [] = refl
    run_with-mapped t (u ∷ us) =
        append-mapped (mapped_touch f) (cond (is_run_by called u t.form) (u ∷ []) []) (run_with first supers classes called sources t us)
        (rw (is_run_by-mapped called u t.form) (cond-mapped (moved f) (is_run_by called u t.form) (u ∷ []) [] refl refl))
        (run_with-mapped t us)

    run_without-mapped : (t : Touch) (us : List Touch) → run_without first supers_there classes_there closures_there sources_there (mapped_touch f t) (moved f us) ≡ moved f (run_without first supers classes called sources t us)
    run_without-mapped t [] = refl
    run_without-mapped t (u ∷ us) =
        append-mapped (mapped_touch f) (cond (not (is_run_by called u t.form)) (u ∷ []) []) (run_without first supers classes called sources t us)
        (rw (is_run_by-mapped called u t.form) (cond-mapped (moved f) (not (is_run_by called u t.form)) (u ∷ []) [] refl refl))
        (run_without-mapped t us)

    front_of_run-mapped : (front : List Touch) (t : Touch) (before : List Touch) → front_of_run first supers_there classes_there closures_there sources_there (moved f front) (mapped_touch f t) (moved f before) ≡ moved f (front_of_run first supers classes called sources front t before)
    front_of_run-mapped front t before = append-mapped (mapped_touch f) (run_with first supers classes called sources t before) (run_without first supers classes called sources t front) (run_with-mapped t before) (run_without-mapped t front)

    runs_fit-mapped : (b : Body) (front : List Touch) (t : Touch) (ts before us : List Touch) → runs_fit first supers_there classes_there closures_there sources_there (mapped_body f b) (moved f front) (mapped_touch f t) (moved f ts) (moved f before) (moved f us) ≡ runs_fit first supers classes called sources b front t ts before us
    runs_fit-mapped b front t ts before [] = refl
    runs_fit-mapped b front t ts before (u ∷ us) =
        let here : List Touch = front_of_run first supers classes called sources front t before in
        let late : List Touch = put_off_behind called (in_both t u) here in
        let rest : List Touch = run_with first supers classes called sources t us ++ ts in
        ap₂ (λ x y. x && y)
        (ap₂ (λ x y. not x || y) (is_run_by-mapped called u t.form)
        (ap₂ (λ (x : Touch) (xs : List Touch). touch_fits first supers_there classes_there closures_there sources_there (mapped_body f b) (moved f front) x xs) (where_run-mapped t u)
        (append-mapped (mapped_touch f) late rest
        (ap₂ (λ (x : Touch) (xs : List Touch). put_off_behind closures_there x xs) (in_both-mapped t u) (front_of_run-mapped front t before) ∙ put_off_behind-mapped called (in_both t u) here)
        (append-mapped (mapped_touch f) (run_with first supers classes called sources t us) ts (run_with-mapped t us) refl))
        ∙ touch_fits-mapped b front (where_run t u) (late ++ rest)))
        (runs_fit-mapped b front t ts (u ∷ before) us)

    touches_fit-mapped : (b : Body) (front ts : List Touch) → touches_fit first supers_there classes_there closures_there sources_there (mapped_body f b) (moved f front) (moved f ts) ≡ touches_fit first supers classes called sources b front ts
    touches_fit-mapped b front [] = refl
    touches_fit-mapped b front (t ∷ ts) =
        ap₂ (λ x y. x && y)
        (ap₂ (λ x y. x && y) (ap (touch_fits first supers_there classes_there closures_there sources_there (mapped_body f b) (moved f front) (mapped_touch f t)) (append-mapped (mapped_touch f) (put_off_behind called t front) (in_same first supers classes called sources t ts) (put_off_behind-mapped called t front) (in_same-mapped t ts)) ∙ touch_fits-mapped b front t (put_off_behind called t front ++ in_same first supers classes called sources t ts)) (runs_fit-mapped b (t ∷ front) t ts [] b.touches))
        (touches_fit-mapped b (t ∷ front) ts)

    bodies_fit-mapped : (bs : List Body) → bodies_fit first supers_there classes_there closures_there sources_there (map (mapped_body f) bs) ≡ bodies_fit first supers classes called sources bs
    bodies_fit-mapped [] = refl
    bodies_fit-mapped (b ∷ bs) = ap₂ (λ x y. x && y) (touches_fit-mapped b [] b.touches) (bodies_fit-mapped bs)

  bodies_of-mapped : (ledger : List LedgerEntry) (cs : Closures) (ps : List Tree) (t : Tree) → bodies_of first (mapped_ledger f ledger) (mapped_closures f cs) (map (mapped f) ps) (mapped f t) ≡ map (mapped_body f) (bodies_of first ledger cs ps t)
  bodies_of-mapped ledger cs ps t =
      rw (variables-mapped f ps, class_names-mapped f ps, resolve-mapped f t, preorder-mapped f t, super_functions-mapped r ledger (preorder t), derived_functions-mapped ps (preorder t))
      (bodies-mapped cs (variables ps) (class_names ps) (resolve t) (derived_functions ps (preorder t)) (super_functions ledger (preorder t)) (preorder t) (preorder t))

  throws_at-mapped : (kind : Kind) (ps : Parts) → throws_at kind (mapped_parts f ps) ≡ throws_at kind ps
  throws_at-mapped Kind.SequenceExpression ps = ap ends_in_throw (items_at-mapped f 0 ps) ∙ ends_in_throw-mapped f (items (at 0 ps))
  throws_at-mapped kind ps = refl

  private_updates-mapped : (ts : List Tree) → private_updates (map (mapped f) ts) ≡ map f (private_updates ts)
  private_updates-mapped [] = refl
  private_updates-mapped (Node kind m span semantic_id ps ∷ ts) =
      append-mapped f (cond (updates_private kind ps) (m ∷ []) []) (private_updates ts)
      (rw (updates_private-mapped f kind ps) (cond-mapped (map f) (updates_private kind ps) (m ∷ []) [] refl refl))
      (private_updates-mapped ts)

  right_of-mapped : (updates : List ℕ) (kind : Kind) (m : ℕ) (ps : Parts) → right_of (map f updates) kind (f m) (mapped_parts f ps) ≡ map f (right_of updates kind m ps)
  right_of-mapped updates Kind.LogicalExpression m ps =
      rw (has_number-mapped r m updates) (cond-mapped (map f) (has_number m updates) (part_number (at 2 ps)) [] (ap part_number (at-mapped f 2 ps) ∙ part_number-mapped f (at 2 ps)) refl)
  right_of-mapped updates kind m ps = refl

  right_operands-mapped : (updates : List ℕ) (ts : List Tree) → right_operands (map f updates) (map (mapped f) ts) ≡ map f (right_operands updates ts)
  right_operands-mapped updates [] = refl
  right_operands-mapped updates (Node kind m span semantic_id ps ∷ ts) = append-mapped f (right_of updates kind m ps) (right_operands updates ts) (right_of-mapped updates kind m ps) (right_operands-mapped updates ts)

  new_throws-mapped : (updates rights : List ℕ) (ts : List Tree) → new_throws first (map f updates) (map f rights) (map (mapped f) ts) ≡ map f (new_throws first updates rights ts)
  new_throws-mapped updates rights [] = refl
  new_throws-mapped updates rights (Node kind m span semantic_id ps ∷ ts) =
      let alone : Bool = throws_at kind ps && (is_new first m && not (has_number m rights || any_among updates (numbers_of (preorder_of ps)))) in
      append-mapped f (cond alone (m ∷ []) []) (new_throws first updates rights ts)
      (rw (r.new m, throws_at-mapped kind ps, has_number-mapped r m rights, numbers_of_parts-mapped f ps, any_among-mapped r updates (numbers_of (preorder_of ps))) (cond-mapped (map f) alone (m ∷ []) [] refl refl))
      (new_throws-mapped updates rights ts)

  all_throws-mapped : (updates : List ℕ) (ts : List Tree) → all_throws first (map f updates) (map (mapped f) ts) ≡ map f (all_throws first updates ts)
  all_throws-mapped updates ts = ap (λ rs. new_throws first (map f updates) rs (map (mapped f) ts)) (right_operands-mapped updates ts) ∙ new_throws-mapped updates (right_operands updates ts) ts

  throws_of-mapped : (p t : Tree) → all_throws first (private_updates (preorder (mapped f p))) (preorder (mapped f t)) ≡ map f (all_throws first (private_updates (preorder p)) (preorder t))
  throws_of-mapped p t =
      ap₂ (all_throws first) (ap private_updates (preorder-mapped f p) ∙ private_updates-mapped (preorder p)) (preorder-mapped f t)
      ∙ all_throws-mapped (private_updates (preorder p)) (preorder t)

  classes_of-mapped : (o : Options) (p : Tree) → class_parts o (written (mapped f p)) (resolve (mapped f p)) (map (mapped f) (preorder p)) ≡ map (mapped_class f) (class_parts o (written p) (resolve p) (preorder p))
  classes_of-mapped o p =
      ap₂ (λ ws rs. class_parts o ws rs (map (mapped f) (preorder p))) (written-mapped f p) (resolve-mapped f p)
      ∙ class_parts-mapped o (written p) (resolve p) (preorder p)

  pub dead_zones_stay-mapped : (o : Options) (ledger : List LedgerEntry) (p q : Tree) → dead_zones_stay first o (mapped_ledger f ledger) (mapped f p) (mapped f q) ≡ dead_zones_stay first o ledger p q
  dead_zones_stay-mapped o ledger p q =
      let cs : Closures = closures ledger (preorder q) in
      let classes : List ClassParts = class_parts o (written p) (resolve p) (preorder p) in
      ap₂ (λ x y. x && y) (ap₂ is_within (throws_of-mapped p q) (throws_of-mapped p p) ∙ is_within-mapped r (all_throws first (private_updates (preorder p)) (preorder q)) (all_throws first (private_updates (preorder p)) (preorder p)))
      (ap₂ (λ ps xs. bodies_fit first (super_calls ps) (class_parts o (written (mapped f p)) (resolve (mapped f p)) ps) xs (bodies_of first [] [] ps (mapped f p)) (bodies_of first (mapped_ledger f ledger) xs ps (mapped f q))) (preorder-mapped f p) (ap (closures (mapped_ledger f ledger)) (preorder-mapped f q) ∙ closures-mapped f ledger (preorder q))
      ∙ rw (super_calls-mapped f (preorder p), classes_of-mapped o p, bodies_of-mapped [] [] (preorder p) p, bodies_of-mapped ledger cs (preorder p) q)
      (bodies_fit-mapped (super_calls (preorder p)) classes cs (bodies_of first [] [] (preorder p) p) (bodies_of first ledger cs (preorder p) q)))
