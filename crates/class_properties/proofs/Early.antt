-- In what a program of the first form is lowered to classes stand as they stood, and nothing else is read without an event.
use Rattle.std.specs.Prelude.{◌≡◌, ℕ, suc, ◌+◌, List, [], ◌∷◌, ◌++◌, map, Bool, true, false, cond, not, ◌&&◌, ◌||◌, nat_eq, Option, None}
use Rattle.std.proofs.Common.{refl, ap, ap₂, sym, ◌∙◌}
use Rattle.std.proofs.lemmas.Bool.{and_parts}
use Rattle.std.proofs.lemmas.List.{append-nil, append_assoc}
use Rattle.std.proofs.Math.Bool.{and-false}
use Rattle.es_base.specs.Numbered.{is_new}
use Rattle.es_base.specs.Preorder.{preorder, preorder_of, preorder_of_part}
use Rattle.es_base.specs.Tree.{Tree, Part, Parts, Node, end, more, child, list, trees, string}
use Rattle.es_base.specs.declared.kind.Kind.{Kind}
use Rattle.es_left.proofs.Booleans.{both}
use Rattle.es_lowered.specs.ClassNames.{any_among, numbers_of}
use Rattle.es_lowered.specs.Definitions.{spelling, is_assignment}
use Rattle.es_lowered.specs.DeadZones.{touches, variables, class_names, touch, is_still, call_form, is_function_declaration, is_turned, nothing_around, in_no_chain, held_behind, spot_in, is_apart, read_form, reference_touches, own_touches, is_keyed, keyed, is_member, is_pattern, converted, touch_around, defines, sets_member, is_writer, is_setter_slot, ends_in_throw, inner_touches, joined, touches_in, touches_at, touches_of, turned, class_touches, keys_touched, value_touches, values_touched, derived_constructor, derived_constructors, constructs, derived_arrows, classes_given, field_touches, bodies_by, bodies, super_calls, class_parts, is_asked, is_run_by, runs_fit, touches_fit, bodies_fit, bodies_of, private_updates, right_operands, throws_at, new_throws, all_throws, dead_zones_stay, TouchForm, Touch, Body, Spot, ClassParts, makes_class, runs_closure, defines_field, between_parts, another}
use Rattle.es_steps.specs.Context.{is_super_call}
use Rattle.es_steps.specs.FirstForm.{is_first_form}
use Rattle.es_steps.specs.NameScopes.{is_any_function}
use Rattle.es_steps.specs.Printable.{has_optional}
use Rattle.es_steps.specs.PrivateNames.{is_class}
use Rattle.es_steps.specs.KeptNodes.{is_within}
use Rattle.es_steps.specs.References.{Reference, resolve, has_number, written}
use Rattle.es_steps.specs.declared.options.Options.{Options}
use Rattle.es_lowered.specs.Timely.{super_functions}
use Rattle.es_steps.specs.Parts.{at, items}
use Rattle.es_steps.specs.Values.{String}
use Rattle.es_unchanged.proofs.DeadZones.{closures-none, or-first, touches-fit}
use Rattle.class_properties.proofs.Declared.{two_ends, four_ends}
use Rattle.class_properties.proofs.FreeNames.{AreFree, lowered-free}
use Rattle.class_properties.proofs.Numbered.{definitions_from, lowered_elements, lowered_statements, statement_size, lowered_from}
use Rattle.class_properties.proofs.Shaped.{no_value, a_literal, a_reference, a_key, a_field, AreFields, a_body, a_name, a_class, AreClasses, IsProgram, a_program}

-- ---- where each name is free, and no class stands, nothing is read without an event

abbrev no_classes : List Tree → Bool
no_classes [] = true
no_classes (Node kind m span semantic_id ps ∷ ts) = not (is_class kind) && no_classes ts

classes-parts : (xs ys : List Tree) → no_classes (xs ++ ys) ≡ true → (no_classes xs ≡ true) × (no_classes ys ≡ true)
classes-parts [] ys h = (refl, h)
classes-parts (Node kind m span semantic_id ps ∷ xs) ys h =
    let parts = and_parts (not (is_class kind)) (no_classes (xs ++ ys)) h in
    let rest = classes-parts xs ys parts.1 in
    (both parts.0 rest.0, rest.1)

abbrev all_quiet : List Touch → Bool
all_quiet [] = true
all_quiet (t ∷ ts) = not (is_asked false t.form) && all_quiet ts

append-quiet : (xs ys : List Touch) → all_quiet xs ≡ true → all_quiet ys ≡ true → all_quiet (xs ++ ys) ≡ true
append-quiet [] ys e f = f
append-quiet (t ∷ xs) ys e f =
    let parts = and_parts (not (is_asked false t.form)) (all_quiet xs) e in
    both parts.0 (append-quiet xs ys parts.1 f)

cond-quiet : (c : Bool) (xs ys : List Touch) → all_quiet xs ≡ true → all_quiet ys ≡ true → all_quiet (cond c xs ys) ≡ true
cond-quiet true xs ys e f = e
cond-quiet false xs ys e f = f

unless-quiet : (c : Bool) (xs ys : List Touch) → not c ≡ true → all_quiet ys ≡ true → all_quiet (cond c xs ys) ≡ true
unless-quiet true xs ys e f = absurd (cc)
unless-quiet false xs ys e f = f

swap-quiet : (c : Bool) (xs ys : List Touch) → all_quiet xs ≡ true → all_quiet ys ≡ true → all_quiet (cond c (xs ++ ys) (ys ++ xs)) ≡ true
swap-quiet c xs ys h i = cond-quiet c (xs ++ ys) (ys ++ xs) (append-quiet xs ys h i) (append-quiet ys xs i h)

module _ (first : ℕ) (asked named : List ℕ) (rs : List Reference) (free : AreFree rs) where
  reference-quiet : (held : List (ℕ × ℕ)) (m : ℕ) (xs : List Reference) → AreFree xs → all_quiet (reference_touches first [] asked named rs held m xs) ≡ true
  reference-quiet held m [] e = refl
  reference-quiet held m (x ∷ xs) e =
      append-quiet (cond (nat_eq m x.number) (touch held m (read_form first [] asked named rs m x.to)) []) (reference_touches first [] asked named rs held m xs) (cond-quiet (nat_eq m x.number) (touch held m (read_form first [] asked named rs m x.to)) [] (rw e.0 refl) refl) (reference-quiet held m xs e.1)

  call-quiet : (held : List (ℕ × ℕ)) (m : ℕ) (d b : Bool) (s : String) → all_quiet (touch held m (cond d defines_field (call_form b s []))) ≡ true
  call-quiet held m true b s = refl
  call-quiet held m false true s = refl
  call-quiet held m false false s = refl

  assignment-quiet : (held : List (ℕ × ℕ)) (m : ℕ) (b : Bool) → all_quiet (touch held m (cond b defines_field another)) ≡ true
  assignment-quiet held m true = refl
  assignment-quiet held m false = refl

  around-quiet : (x : Spot) → all_quiet (touch_around x) ≡ true
  around-quiet x = each x.around
    where
      each : (ns : List ℕ) → all_quiet (map (λ n. record { number = n; form = between_parts; held = x.held }) ns) ≡ true
      each [] = refl
      each (n ∷ ns) = each ns

  converted-quiet : (x : Spot) (kind : Kind) (m : ℕ) → all_quiet (converted x kind m) ≡ true
  converted-quiet x Kind.Property m = around-quiet x
  converted-quiet x kind m = refl

  own-quiet : (x : Spot) (held : List (ℕ × ℕ)) (kind : Kind) (m : ℕ) (ps : Parts) → all_quiet (own_touches first [] asked named rs x held kind m ps) ≡ true
  own-quiet x held Kind.IdentifierReference m ps = reference-quiet held m rs free
  own-quiet x held Kind.ThisExpression m ps = refl
  own-quiet x held Kind.BindingIdentifier m ps = refl
  own-quiet x held Kind.CallExpression m ps = call-quiet held m (defines (at 0 ps) (items (at 1 ps)) || (is_new first m && is_writer (at 0 ps))) (is_super_call Kind.CallExpression ps) (spelling (at 0 ps))
  own-quiet x held Kind.AssignmentExpression m ps =
      assignment-quiet held m (cond (is_new first m) (is_assignment ps && (sets_member (at 1 ps) || is_setter_slot (at 1 ps))) (not (is_assignment ps) && is_member (at 1 ps)))
  own-quiet x held Kind.UpdateExpression m ps = assignment-quiet held m (not (is_new first m) && is_member (at 1 ps))
  own-quiet x held Kind.SpreadElement m ps = around-quiet x
  own-quiet x held Kind.SequenceExpression m ps = cond-quiet (ends_in_throw (items (at 0 ps))) (touch held m another) [] refl refl
  own-quiet x held kind m ps = cond-quiet (is_still kind) [] (touch held m another) refl refl

  mutual
    tree-quiet : (x : Spot) (t : Tree) → no_classes (preorder t) ≡ true → all_quiet (touches first [] asked named rs x t) ≡ true
    tree-quiet x (Node kind m span semantic_id ps) h =
        let parts = and_parts (not (is_class kind)) (no_classes (preorder_of ps)) h in
        let optional : Bool = has_optional (Node kind m span semantic_id ps) in
        let own : List Touch = own_touches first [] asked named rs x (held_behind x.chain optional x.held) kind m ps in
        let inside : ℕ → Spot = spot_in x optional kind m ps in
        let straight : List Touch = inner_touches first [] asked named rs kind (in_no_chain x) inside ps in
        let inner : List Touch = cond (is_keyed kind) (keyed first [] asked named rs (converted x kind m) inside ps) straight in
        let other_way : List Touch = cond (is_turned kind) (turned first [] asked named rs inside ps) inner in
        cond-quiet (is_apart first [] asked named rs kind m) (cond (is_function_declaration kind) (touch x.held m another) []) (cond (is_class kind) (class_touches first [] asked named rs (in_no_chain x) m ps) other_way ++ own) (cond-quiet (is_function_declaration kind) (touch x.held m another) [] refl refl)
        (append-quiet (cond (is_class kind) (class_touches first [] asked named rs (in_no_chain x) m ps) other_way) own
        (unless-quiet (is_class kind) (class_touches first [] asked named rs (in_no_chain x) m ps) other_way parts.0
        (cond-quiet (is_turned kind) (turned first [] asked named rs inside ps) inner (turned-quiet inside ps parts.1)
        (cond-quiet (is_keyed kind) (keyed first [] asked named rs (converted x kind m) inside ps) straight (keyed-quiet (converted x kind m) (converted-quiet x kind m) inside ps parts.1) (inner-quiet kind (in_no_chain x) inside ps parts.1))))
        (own-quiet x (held_behind x.chain optional x.held) kind m ps))

    keyed-quiet : (c : List Touch) → all_quiet c ≡ true → (x : ℕ → Spot) (ps : Parts) → no_classes (preorder_of ps) ≡ true → all_quiet (keyed first [] asked named rs c x ps) ≡ true
    keyed-quiet c e x (more p ps) h =
        let split = classes-parts (preorder_of_part p) (preorder_of ps) h in
        append-quiet (touches_at first [] asked named rs (x 0) p) (c ++ touches_in first [] asked named rs (λ i. x (suc i)) ps) (part-quiet (x 0) p split.0)
        (append-quiet c (touches_in first [] asked named rs (λ i. x (suc i)) ps) e (parts-quiet (λ i. x (suc i)) ps split.1))
    keyed-quiet c e x end h = refl

    joined-quiet : (x : Spot) (es : Parts) → no_classes (preorder_of es) ≡ true → all_quiet (joined first [] asked named rs x es) ≡ true
    joined-quiet x end h = refl
    joined-quiet x (more p es) h =
        let split = classes-parts (preorder_of_part p) (preorder_of es) h in
        append-quiet (touches_at first [] asked named rs x p) (touch_around x ++ joined first [] asked named rs x es) (part-quiet x p split.0)
        (append-quiet (touch_around x) (joined first [] asked named rs x es) (around-quiet x) (joined-quiet x es split.1))

    inner-quiet : (kind : Kind) (x : Spot) (inside : ℕ → Spot) (ps : Parts) → no_classes (preorder_of ps) ≡ true → all_quiet (inner_touches first [] asked named rs kind x inside ps) ≡ true
    inner-quiet Kind.CallExpression x inside (more (child (Node Kind.ArrowFunctionExpression k span semantic_id ps)) rest) h =
        let split = classes-parts (preorder_of ps) (preorder_of rest) h in
        append-quiet (touches_in first [] asked named rs (λ i. inside (suc i)) rest) (cond (is_new first k) (touches_of first [] asked named rs x ps) []) (parts-quiet (λ i. inside (suc i)) rest split.1)
        (cond-quiet (is_new first k) (touches_of first [] asked named rs x ps) [] (list-quiet x ps split.0) refl)
    inner-quiet Kind.TemplateLiteral x inside (more quasis (more (list es) rest)) h =
        let one = classes-parts (preorder_of_part quasis) (preorder_of es ++ preorder_of rest) h in
        joined-quiet (inside 1) es (classes-parts (preorder_of es) (preorder_of rest) one.1).0
    inner-quiet Kind.AssignmentTargetWithDefault x inside (more l (more v rest)) h =
        let one = classes-parts (preorder_of_part l) (preorder_of_part v ++ preorder_of rest) h in
        swap-quiet (is_member l) (touches_at first [] asked named rs (inside 0) l) (touches_at first [] asked named rs (inside 1) v) (part-quiet (inside 0) l one.0) (part-quiet (inside 1) v (classes-parts (preorder_of_part v) (preorder_of rest) one.1).0)
    inner-quiet Kind.AssignmentExpression x inside (more operator (more l (more v rest))) h =
        let one = classes-parts (preorder_of_part operator) (preorder_of_part l ++ (preorder_of_part v ++ preorder_of rest)) h in
        let two = classes-parts (preorder_of_part l) (preorder_of_part v ++ preorder_of rest) one.1 in
        swap-quiet (is_pattern l) (touches_at first [] asked named rs (inside 2) v) (touches_at first [] asked named rs (inside 1) l) (part-quiet (inside 2) v (classes-parts (preorder_of_part v) (preorder_of rest) two.1).0) (part-quiet (inside 1) l two.0)
    inner-quiet kind x inside (more p rest) h =
        let split = classes-parts (preorder_of_part p) (preorder_of rest) h in
        append-quiet (touches_at first [] asked named rs (inside 0) p) (touches_in first [] asked named rs (λ i. inside (suc i)) rest) (part-quiet (inside 0) p split.0) (parts-quiet (λ i. inside (suc i)) rest split.1)
    inner-quiet kind x inside end h = refl

    parts-quiet : (x : ℕ → Spot) (ps : Parts) → no_classes (preorder_of ps) ≡ true → all_quiet (touches_in first [] asked named rs x ps) ≡ true
    parts-quiet x end h = refl
    parts-quiet x (more p ps) h =
        let split = classes-parts (preorder_of_part p) (preorder_of ps) h in
        append-quiet (touches_at first [] asked named rs (x 0) p) (touches_in first [] asked named rs (λ i. x (suc i)) ps) (part-quiet (x 0) p split.0) (parts-quiet (λ i. x (suc i)) ps split.1)

    part-quiet : (x : Spot) (p : Part) → no_classes (preorder_of_part p) ≡ true → all_quiet (touches_at first [] asked named rs x p) ≡ true
    part-quiet x (child t) h = tree-quiet x t h
    part-quiet x (list ps) h = list-quiet x ps h
    part-quiet x p h = refl

    list-quiet : (x : Spot) (ps : Parts) → no_classes (preorder_of ps) ≡ true → all_quiet (touches_of first [] asked named rs x ps) ≡ true
    list-quiet x end h = refl
    list-quiet x (more p ps) h =
        let split = classes-parts (preorder_of_part p) (preorder_of ps) h in
        append-quiet (touches_at first [] asked named rs x p) (touches_of first [] asked named rs x ps) (part-quiet x p split.0) (list-quiet x ps split.1)

    turned-quiet : (x : ℕ → Spot) (ps : Parts) → no_classes (preorder_of ps) ≡ true → all_quiet (turned first [] asked named rs x ps) ≡ true
    turned-quiet x (more p (more q ps)) h =
        let one = classes-parts (preorder_of_part p) (preorder_of_part q ++ preorder_of ps) h in
        let rest = classes-parts (preorder_of_part q) (preorder_of ps) one.1 in
        append-quiet (touches_at first [] asked named rs (x 1) q) (touches_at first [] asked named rs (x 0) p ++ touches_in first [] asked named rs (λ i. x (suc (suc i))) ps) (part-quiet (x 1) q rest.0)
        (append-quiet (touches_at first [] asked named rs (x 0) p) (touches_in first [] asked named rs (λ i. x (suc (suc i))) ps) (part-quiet (x 0) p one.0) (parts-quiet (λ i. x (suc (suc i))) ps rest.1))
    turned-quiet x (more p end) h = part-quiet (x 0) p (classes-parts (preorder_of_part p) [] h).0
    turned-quiet x end h = refl

-- ---- the constructor of a class

definitions-no_classes : (es : Parts) → AreFields es → (k : ℕ) → no_classes (preorder_of (trees (definitions_from k es))) ≡ true
definitions-no_classes end h k = refl
definitions-no_classes (more p es) (a_field m span semantic_id key v (a_key i ispan i_semantic_id x) no_value, h) k = definitions-no_classes es h (k + 9)
definitions-no_classes (more p es) (a_field m span semantic_id key v (a_key i ispan i_semantic_id x) (a_literal l lspan l_semantic_id w fine), h) k = definitions-no_classes es h (k + 7)
definitions-no_classes (more p es) (a_field m span semantic_id key v (a_key i ispan i_semantic_id x) (a_reference r rspan r_semantic_id y), h) k = definitions-no_classes es h (k + 7)

module _ (first : ℕ) (asked named : List ℕ) (rs : List Reference) (given : List (ℕ × ℕ)) (nodes : List Tree) where
  definitions-bodies : (es : Parts) → AreFields es → (k : ℕ) → bodies first [] asked named rs [] given nodes (preorder_of (trees (definitions_from k es))) ≡ []
  definitions-bodies end h k = refl
  definitions-bodies (more p es) (a_field m span semantic_id key v (a_key i ispan i_semantic_id x) no_value, h) k = definitions-bodies es h (k + 9)
  definitions-bodies (more p es) (a_field m span semantic_id key v (a_key i ispan i_semantic_id x) (a_literal l lspan l_semantic_id w fine), h) k = definitions-bodies es h (k + 7)
  definitions-bodies (more p es) (a_field m span semantic_id key v (a_key i ispan i_semantic_id x) (a_reference r rspan r_semantic_id y), h) k = definitions-bodies es h (k + 7)

  bodies-append : (xs ys : List Tree) → bodies first [] asked named rs [] given nodes (xs ++ ys) ≡ bodies first [] asked named rs [] given nodes xs ++ bodies first [] asked named rs [] given nodes ys
  bodies-append [] ys = refl
  bodies-append (Node kind m span semantic_id ps ∷ xs) ys =
      ap (λ bs. bodies_by first [] asked named rs [] given nodes kind m ps ++ bs) (bodies-append xs ys) ∙ sym (append_assoc (bodies_by first [] asked named rs [] given nodes kind m ps) (bodies first [] asked named rs [] given nodes xs) (bodies first [] asked named rs [] given nodes ys))

no-fields : (first : ℕ) (asked named : List ℕ) (rs : List Reference) (m : ℕ) (span : Option (ℕ × ℕ)) (semantic_id : Option ℕ) (es : Parts) (k : ℕ) → value_touches first [] asked named rs false nothing_around (child (Node Kind.ClassBody m span semantic_id (more (list (lowered_elements k es)) end))) ≡ []
no-fields first asked named rs m span semantic_id end k = refl
no-fields first asked named rs m span semantic_id (more e es) k = refl

-- ---- no class of the lowered program has fields

abbrev is_no_touch : List Touch → Bool
is_no_touch [] = true
is_no_touch (t ∷ ts) = false

no-touch : (ts : List Touch) → is_no_touch ts ≡ true → ts ≡ []
no-touch [] e = refl
no-touch (t ∷ ts) e = absurd (cc)

module _ (first : ℕ) (asked named : List ℕ) (rs : List Reference) where
  abbrev fields_none : List Tree → Bool
  fields_none [] = true
  fields_none (Node kind n span semantic_id ps ∷ ts) = (not (is_class kind) || is_no_touch (value_touches first [] asked named rs false nothing_around (at 2 ps))) && fields_none ts

  fields-append : (xs ys : List Tree) → fields_none xs ≡ true → fields_none ys ≡ true → fields_none (xs ++ ys) ≡ true
  fields-append [] ys e f = f
  fields-append (Node kind n span semantic_id ps ∷ xs) ys e f =
      let parts = and_parts (not (is_class kind) || is_no_touch (value_touches first [] asked named rs false nothing_around (at 2 ps))) (fields_none xs) e in
      both parts.0 (fields-append xs ys parts.1 f)

  neither-way : (a h : Bool) (xs ys : List Touch) → (not a || is_no_touch xs) ≡ true → ys ≡ [] → cond (a && h) xs ys ≡ []
  neither-way true true xs ys e f = no-touch xs e
  neither-way true false xs ys e f = f
  neither-way false h xs ys e f = f

  fields-untouched : (derived : List ℕ) (given : List (ℕ × ℕ)) (all : List Tree) (ns : List ℕ) (ts : List Tree) → fields_none ts ≡ true → field_touches first [] asked named rs derived given all ns ts ≡ []
  fields-untouched derived given all ns [] e = refl
  fields-untouched derived given all ns (Node kind n span semantic_id ps ∷ ts) e =
      let parts = and_parts (not (is_class kind) || is_no_touch (value_touches first [] asked named rs false nothing_around (at 2 ps))) (fields_none ts) e in
      neither-way (is_class kind) (has_number n ns) (value_touches first [] asked named rs false nothing_around (at 2 ps)) (field_touches first [] asked named rs derived given all ns ts) parts.0 (fields-untouched derived given all ns ts parts.1)

  definitions-fieldless : (es : Parts) → AreFields es → (k : ℕ) → fields_none (preorder_of (trees (definitions_from k es))) ≡ true
  definitions-fieldless end h k = refl
  definitions-fieldless (more p es) (a_field m span semantic_id key v (a_key i ispan i_semantic_id x) no_value, h) k = definitions-fieldless es h (k + 9)
  definitions-fieldless (more p es) (a_field m span semantic_id key v (a_key i ispan i_semantic_id x) (a_literal l lspan l_semantic_id w fine), h) k = definitions-fieldless es h (k + 7)
  definitions-fieldless (more p es) (a_field m span semantic_id key v (a_key i ispan i_semantic_id x) (a_reference r rspan r_semantic_id y), h) k = definitions-fieldless es h (k + 7)

  elements-fieldless : (es : Parts) → AreFields es → (k : ℕ) → fields_none (preorder_of (lowered_elements k es)) ≡ true
  elements-fieldless end h k = refl
  elements-fieldless (more p es) h k = rw (four_ends (preorder_of (trees (definitions_from (k + 4) (more p es))))) (definitions-fieldless (more p es) h (k + 4))

  classes-fieldless : (ps : Parts) → AreClasses ps → (k : ℕ) → fields_none (preorder_of (lowered_statements k ps)) ≡ true
  classes-fieldless end h k = refl
  classes-fieldless (more p ps) (a_class n span semantic_id id body (a_name i ispan i_semantic_id x free) (a_body m bspan b_semantic_id es he), h) k =
      let elements : List Tree = preorder_of (lowered_elements k es) in
      let rest : List Tree = preorder_of (lowered_statements (k + statement_size p) ps) in
      rw (two_ends elements rest, no-fields first asked named rs m bspan b_semantic_id es k) (fields-append elements rest (elements-fieldless es he k) (classes-fieldless ps h (k + statement_size p)))

keys-untouched : (first : ℕ) (asked named : List ℕ) (rs : List Reference) (es : Parts) → AreFields es → keys_touched first [] asked named rs nothing_around es ≡ []
keys-untouched first asked named rs end h = refl
keys-untouched first asked named rs (more p es) (a_field m span semantic_id key v (a_key i ispan i_semantic_id x) hv, h) = keys-untouched first asked named rs es h

values-untouched : (first : ℕ) (asked named : List ℕ) (rs : List Reference) (es : Parts) → AreFields es → values_touched first [] asked named rs true nothing_around es ≡ []
values-untouched first asked named rs end h = refl
values-untouched first asked named rs (more p es) (a_field m span semantic_id key v hk hv, h) = values-untouched first asked named rs es h

-- the program touches its classes, as it did
touches-same : (first : ℕ) (asked named : List ℕ) (xs rs : List Reference) (ps : Parts) → AreClasses ps → (k : ℕ) → touches_of first [] asked named xs nothing_around (lowered_statements k ps) ≡ touches_of first [] asked named rs nothing_around ps
touches-same first asked named xs rs end h k = refl
touches-same first asked named xs rs (more p ps) (a_class n span semantic_id id body (a_name i ispan i_semantic_id x free) (a_body m bspan b_semantic_id end he), h) k =
    ap (λ ts. touch [] n makes_class ++ (touch [] n another ++ ts)) (touches-same first asked named xs rs ps h (k + statement_size p))
touches-same first asked named xs rs (more p ps) (a_class n span semantic_id id body (a_name i ispan i_semantic_id x free) (a_body m bspan b_semantic_id (more e es) (a_field l lspan l_semantic_id key v (a_key j jspan j_semantic_id y) hv, he)), h) k =
    rw (keys-untouched first asked named rs es he, values-untouched first asked named rs es he) (ap (λ ts. touch [] n makes_class ++ (touch [] n another ++ ts)) (touches-same first asked named xs rs ps h (k + statement_size p)))

-- ---- each body fits

module _ (first : ℕ) (supers : List ℕ) (classes : List ClassParts) (sources : List Body) where
  runs-none : (u : Touch) (form : TouchForm) → is_run_by [] u form ≡ false
  runs-none u (runs_closure k) = refl
  runs-none u form = refl

  runs-fit : (b : Body) (front : List Touch) (t : Touch) (ts before us : List Touch) → runs_fit first supers classes [] sources b front t ts before us ≡ true
  runs-fit b front t ts before [] = refl
  runs-fit b front t ts before (u ∷ us) = rw (runs-none u t.form) (runs-fit b front t ts (u ∷ before) us)

  quiet-fit : (b : Body) → b.derives ≡ false → (front ts : List Touch) → all_quiet ts ≡ true → touches_fit first supers classes [] sources b front ts ≡ true
  quiet-fit b e front [] h = refl
  quiet-fit b e front (t ∷ ts) h =
      let parts = and_parts (not (is_asked false t.form)) (all_quiet ts) h in
      both (both (or-first {a = not (is_asked b.derives t.form)} (rw e parts.0) _) (runs-fit b (t ∷ front) t ts [] b.touches)) (quiet-fit b e (t ∷ front) ts parts.1)

  append-fit : (bs cs : List Body) → bodies_fit first supers classes [] sources bs ≡ true → bodies_fit first supers classes [] sources cs ≡ true → bodies_fit first supers classes [] sources (bs ++ cs) ≡ true
  append-fit [] cs e f = f
  append-fit (b ∷ bs) cs e f =
      let parts = and_parts (touches_fit first supers classes [] sources b [] b.touches) (bodies_fit first supers classes [] sources bs) e in
      both parts.0 (append-fit bs cs parts.1 f)

  module _ (asked named : List ℕ) (rs : List Reference) (free : AreFree rs) (given : List (ℕ × ℕ)) (nodes : List Tree) (none : fields_none first asked named rs nodes ≡ true) where
    constructor-fits : (b : Body) → b.derives ≡ false → (m k : ℕ) (fields : List Touch) → fields ≡ [] → (ts : Parts) → no_classes (preorder_of ts) ≡ true → b.touches ≡ touch [] m another ++ (fields ++ touches first [] asked named rs nothing_around (Node Kind.BlockStatement k None None (more (list ts) end))) → bodies_fit first supers classes [] sources (b ∷ []) ≡ true
    constructor-fits b e m k fields f ts h same =
        both (quiet-fit b e [] b.touches (rw (same, f) (both refl (tree-quiet first asked named rs free nothing_around (Node Kind.BlockStatement k None None (more (list ts) end)) (rw (append-nil (preorder_of ts)) h))))) refl

    elements-fit : (es : Parts) → AreFields es → (k : ℕ) → bodies_fit first supers classes [] sources (bodies first [] asked named rs [] given nodes (preorder_of (lowered_elements k es))) ≡ true
    elements-fit end h k = refl
    elements-fit (more p es) h k =
        let ts : Parts = trees (definitions_from (k + 4) (more p es)) in
        let fields : List Touch = field_touches first [] asked named rs [] given nodes (constructs (k + 2) nodes) nodes in
        rw (four_ends (preorder_of ts), definitions-bodies first asked named rs given nodes (more p es) h (k + 4))
        (constructor-fits (record { number = k + 2; is_of_fields = false; of_class = constructs (k + 2) nodes ++ classes_given (k + 2) given; derives = false; touches = touch [] (k + 2) another ++ (fields ++ touches first [] asked named rs nothing_around (Node Kind.BlockStatement (k + 3) None None (more (list ts) end))) }) refl (k + 2) (k + 3) fields (fields-untouched first asked named rs [] given nodes (constructs (k + 2) nodes) nodes none) ts (definitions-no_classes (more p es) h (k + 4)) refl)

    classes-fit : (ps : Parts) → AreClasses ps → (k : ℕ) → bodies_fit first supers classes [] sources (bodies first [] asked named rs [] given nodes (preorder_of (lowered_statements k ps))) ≡ true
    classes-fit end h k = refl
    classes-fit (more p ps) (a_class n span semantic_id id body (a_name i ispan i_semantic_id x other) (a_body m bspan b_semantic_id es he), h) k =
        let elements : List Tree = preorder_of (lowered_elements k es) in
        let rest : List Tree = preorder_of (lowered_statements (k + statement_size p) ps) in
        rw (two_ends elements rest, bodies-append first asked named rs given nodes elements rest, no-fields first asked named rs m bspan b_semantic_id es k)
        (append-fit (bodies first [] asked named rs [] given nodes elements) (bodies first [] asked named rs [] given nodes rest) (elements-fit es he k) (classes-fit ps h (k + statement_size p)))

-- ---- no class has a heritage

constructors-append : (xs ys : List Tree) → derived_constructors (xs ++ ys) ≡ derived_constructors xs ++ derived_constructors ys
constructors-append [] ys = refl
constructors-append (Node kind m span semantic_id ps ∷ xs) ys = ap (λ ns. derived_constructor kind ps ++ ns) (constructors-append xs ys) ∙ sym (append_assoc (derived_constructor kind ps) (derived_constructors xs) (derived_constructors ys))

fields-underived : (es : Parts) → AreFields es → derived_constructors (preorder_of es) ≡ []
fields-underived end h = refl
fields-underived (more p es) (a_field m span semantic_id key v (a_key i ispan i_semantic_id x) no_value, h) = fields-underived es h
fields-underived (more p es) (a_field m span semantic_id key v (a_key i ispan i_semantic_id x) (a_literal l lspan l_semantic_id w fine), h) = fields-underived es h
fields-underived (more p es) (a_field m span semantic_id key v (a_key i ispan i_semantic_id x) (a_reference r rspan r_semantic_id y), h) = fields-underived es h

classes-underived : (ps : Parts) → AreClasses ps → derived_constructors (preorder_of ps) ≡ []
classes-underived end h = refl
classes-underived (more p ps) (a_class n span semantic_id id body (a_name i ispan i_semantic_id x free) (a_body m bspan b_semantic_id es he), h) =
    rw (two_ends (preorder_of es) (preorder_of ps), constructors-append (preorder_of es) (preorder_of ps), fields-underived es he) (classes-underived ps h)

definitions-underived : (es : Parts) → AreFields es → (k : ℕ) → derived_constructors (preorder_of (trees (definitions_from k es))) ≡ []
definitions-underived end h k = refl
definitions-underived (more p es) (a_field m span semantic_id key v (a_key i ispan i_semantic_id x) no_value, h) k = definitions-underived es h (k + 9)
definitions-underived (more p es) (a_field m span semantic_id key v (a_key i ispan i_semantic_id x) (a_literal l lspan l_semantic_id w fine), h) k = definitions-underived es h (k + 7)
definitions-underived (more p es) (a_field m span semantic_id key v (a_key i ispan i_semantic_id x) (a_reference r rspan r_semantic_id y), h) k = definitions-underived es h (k + 7)

elements-underived : (es : Parts) → AreFields es → (k : ℕ) → derived_constructors (preorder_of (lowered_elements k es)) ≡ []
elements-underived end h k = refl
elements-underived (more p es) h k = rw (four_ends (preorder_of (trees (definitions_from (k + 4) (more p es))))) (definitions-underived (more p es) h (k + 4))

lowered-underived : (ps : Parts) → AreClasses ps → (k : ℕ) → derived_constructors (preorder_of (lowered_statements k ps)) ≡ []
lowered-underived end h k = refl
lowered-underived (more p ps) (a_class n span semantic_id id body (a_name i ispan i_semantic_id x free) (a_body m bspan b_semantic_id es he), h) k =
    let elements : List Tree = preorder_of (lowered_elements k es) in
    let rest : List Tree = preorder_of (lowered_statements (k + statement_size p) ps) in
    rw (two_ends elements rest, constructors-append elements rest, elements-underived es he k) (lowered-underived ps h (k + statement_size p))

no-arrows : (ts : List Tree) → derived_arrows [] ts ≡ []
no-arrows [] = refl
no-arrows (Node kind m span semantic_id ps ∷ ts) = rw (and-false (is_any_function kind), no-arrows ts) refl

-- ---- the program

bodies-plain : (first : ℕ) (ps : List Tree) (t : Tree) → derived_constructors ps ≡ [] → derived_constructors (preorder t) ≡ [] → bodies_of first [] [] ps t ≡ bodies first [] (variables ps) (class_names ps) (resolve t) [] (super_functions [] (preorder t)) (preorder t) (preorder t)
bodies-plain first ps t c d = rw (c, d, no-arrows ps, no-arrows (preorder t)) refl

-- ---- nothing throws always

module _ (first : ℕ) (updates rights : List ℕ) where
  throws-append : (xs ys : List Tree) → new_throws first updates rights (xs ++ ys) ≡ new_throws first updates rights xs ++ new_throws first updates rights ys
  throws-append [] ys = refl
  throws-append (Node kind m span semantic_id ps ∷ xs) ys =
      let own : List ℕ = cond (throws_at kind ps && (is_new first m && not (has_number m rights || any_among updates (numbers_of (preorder_of ps))))) (m ∷ []) [] in
      ap (λ ns. own ++ ns) (throws-append xs ys) ∙ sym (append_assoc own (new_throws first updates rights xs) (new_throws first updates rights ys))

  definitions-throwless : (es : Parts) → AreFields es → (k : ℕ) → new_throws first updates rights (preorder_of (trees (definitions_from k es))) ≡ []
  definitions-throwless end h k = refl
  definitions-throwless (more p es) (a_field m span semantic_id key v (a_key i ispan i_semantic_id x) no_value, h) k = definitions-throwless es h (k + 9)
  definitions-throwless (more p es) (a_field m span semantic_id key v (a_key i ispan i_semantic_id x) (a_literal l lspan l_semantic_id w fine), h) k = definitions-throwless es h (k + 7)
  definitions-throwless (more p es) (a_field m span semantic_id key v (a_key i ispan i_semantic_id x) (a_reference r rspan r_semantic_id y), h) k = definitions-throwless es h (k + 7)

  elements-throwless : (es : Parts) → AreFields es → (k : ℕ) → new_throws first updates rights (preorder_of (lowered_elements k es)) ≡ []
  elements-throwless end h k = refl
  elements-throwless (more p es) h k = rw (four_ends (preorder_of (trees (definitions_from (k + 4) (more p es))))) (definitions-throwless (more p es) h (k + 4))

  lowered-throwless : (ps : Parts) → AreClasses ps → (k : ℕ) → new_throws first updates rights (preorder_of (lowered_statements k ps)) ≡ []
  lowered-throwless end h k = refl
  lowered-throwless (more p ps) (a_class n span semantic_id id body (a_name i ispan i_semantic_id x free) (a_body m bspan b_semantic_id es he), h) k =
      let elements : List Tree = preorder_of (lowered_elements k es) in
      let rest : List Tree = preorder_of (lowered_statements (k + statement_size p) ps) in
      rw (two_ends elements rest, throws-append elements rest, elements-throwless es he k) (lowered-throwless ps h (k + statement_size p))

pub dead_zones-stay : (first k : ℕ) (o : Options) (t : Tree) → IsProgram t → is_first_form t [] ≡ true → dead_zones_stay first o [] t (lowered_from k t) ≡ true
dead_zones-stay first k o t (a_program m span semantic_id s all h) f =
    let p : Tree = Node Kind.Program m span semantic_id (more (string s) (more (list all) end)) in
    let low : Parts = lowered_statements k all in
    let q : Tree = Node Kind.Program m span semantic_id (more (string s) (more (list low) end)) in
    let ps : List Tree = preorder p in
    let asked : List ℕ = variables ps in
    let named : List ℕ = class_names ps in
    let supers : List ℕ = super_calls ps in
    let classes : List ClassParts = class_parts o (written p) (resolve p) ps in
    let given : List (ℕ × ℕ) = super_functions [] (preorder q) in
    let own : Body = record { number = m; is_of_fields = false; of_class = []; derives = false; touches = touches_of first [] asked named (resolve p) nothing_around all } in
    let later : List Body = bodies first [] asked named (resolve p) [] (super_functions [] ps) ps (preorder_of all ++ []) in
    let sources : List Body = own ∷ later in
    let free : AreFree (resolve q) = lowered-free k p (a_program m span semantic_id s all h) f in
    let source_plain : derived_constructors ps ≡ [] = constructors-append (preorder_of all) [] ∙ rw (classes-underived all h) refl in
    let low_plain : derived_constructors (preorder q) ≡ [] = constructors-append (preorder_of low) [] ∙ rw (lowered-underived all h k) refl in
    let none : fields_none first asked named (resolve q) (preorder q) ≡ true = fields-append first asked named (resolve q) (preorder_of low) [] (classes-fieldless first asked named (resolve q) all h k) refl in
    let updates : List ℕ = private_updates ps in
    let rights : List ℕ = right_operands updates (preorder q) in
    let throwless : all_throws first updates (preorder q) ≡ [] = throws-append first updates rights (preorder_of low) [] ∙ rw (lowered-throwless first updates rights all h k) refl in
    both (ap (λ ns. is_within ns (all_throws first updates ps)) throwless)
    (ap (λ cs. bodies_fit first supers classes cs (bodies_of first [] [] ps p) (bodies_of first [] cs ps q)) (closures-none (preorder q))
    ∙ (ap₂ (bodies_fit first supers classes []) (bodies-plain first ps p source_plain source_plain) (bodies-plain first ps q source_plain low_plain)
    ∙ both
    (ap (λ ts. touches_fit first supers classes [] sources (record { number = m; is_of_fields = false; of_class = []; derives = false; touches = ts }) [] ts) (touches-same first asked named (resolve q) (resolve p) all h k)
    ∙ touches-fit first supers classes sources own [] [] own.touches refl [] later refl)
    (rw (bodies-append first asked named (resolve q) given (preorder q) (preorder_of low) []) (append-fit first supers classes sources (bodies first [] asked named (resolve q) [] given (preorder q) (preorder_of low)) [] (classes-fit first supers classes sources asked named (resolve q) free given (preorder q) none all h k) refl))))
