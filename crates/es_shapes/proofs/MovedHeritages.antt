-- Heritages with events: a node by its parts, and its parts one by one.
use Rattle.std.proofs.Common.{◌≡◌, refl, ap, sym, ◌∙◌, ℕ, suc, ◌+◌, ◌<◌, arith, List, ◌∷◌, ◌++◌, length, drop, drop-cons, get_or, Bool, true, false, cond, ◌&&◌, ◌||◌, Option, Some, None}
use Rattle.std.proofs.lemmas.Bool.Decides.{nat_tests}
use Rattle.std.proofs.lemmas.List.{at_drop_more}
use Rattle.es_base.specs.Tree.{Tree, Part, Parts, Node, end, more, trees, nullable, nullable_trees}
use Rattle.es_base.specs.declared.kind.Kind.{Kind}
use Rattle.es_node.specs.View.{kind_of, number_in, parts_in, part_of, parts_of}
use Rattle.es_node.specs.declared.node.Part as code
use Rattle.es_steps.specs.LoweredClasses.{is_lowered_class}
use Rattle.es_steps.specs.Parts.{at}
use Rattle.es_steps.specs.PrivateNames.{is_class}
use Rattle.es_steps.specs.Quiet.{Around, gives_arguments, is_block, class_name, acts, is_evaluated, has_events, has_events_in, has_events_at, has_events_of}
use Rattle.es_steps.specs.References.{resolve, written}
use Rattle.es_steps.specs.Shapes.{ClassAt, class_at, moves_before_heritage, moves_heritage, moves_heritage_in, moves_heritage_at, moves_heritage_of}
use Rattle.es_steps.specs.declared.options.Options.{Options}
use Rattle.es_shapes.specs.Around.{around, around_in}
use Rattle.es_shapes.specs.Classes.{class_of, is_lowered}
use Rattle.es_shapes.specs.Quiet.{is_heritage}
use Rattle.es_shapes.specs.declared.around.Standing.{Standing}

pub or_none : (b : Bool) → (b || false) ≡ b
or_none true = refl
or_none false = refl

grouped : (a b c : Bool) → ((a || b) || c) ≡ (a || (b || c))
grouped true b c = refl
grouped false b c = refl

-- ---- the parts from the i-th on

first : (i : ℕ) → (i + 0) ≡ i
first i = omega arith

later : (i k : ℕ) → (i + suc k) ≡ ((i + 1) + k)
later i k = omega arith

same : (j : ℕ) → (0 + j) ≡ j
same j = omega arith

module _ (o : Options) (program : Tree) (a : ℕ → Around) (chosen : ℕ → Bool) where
  abbrev pub events_from : ℕ → Parts → Bool
  events_from i ps = has_events_in o program (λ k. a (i + k)) (λ k. chosen (i + k)) ps

  next_part : (i : ℕ) (p : Part) (ps : Parts) → events_from i (more p ps) ≡ ((chosen i && has_events_at o program (a i) p) || events_from (i + 1) ps)
  next_part i p ps =
      ap (λ k. (chosen k && has_events_at o program (a k) p) || has_events_in o program (λ j. a (i + suc j)) (λ j. chosen (i + suc j)) ps) (first i)
      ∙ ap (λ (f : ℕ → ℕ). (chosen i && has_events_at o program (a i) p) || has_events_in o program (λ j. a (f j)) (λ j. chosen (f j)) ps) (λ x j. later i j x)

  pub all_events : (ps : Parts) → events_from 0 ps ≡ has_events_in o program a chosen ps
  all_events ps = ap (λ (f : ℕ → ℕ). has_events_in o program (λ j. a (f j)) (λ j. chosen (f j)) ps) (λ x j. same j x)

  -- the part at a place of a list
  pub events_pass : (parts : List code.Part) (i : ℕ) (p : code.Part) → i < length parts → p ≡ get_or parts i p → (b : Around) → b ≡ a i → (is_chosen : Bool) → is_chosen ≡ chosen i → (found : Bool) → found ≡ has_events_at o program b (part_of p)
      → (before : Bool) → (((before || (is_chosen && found)) || events_from (i + 1) (parts_of (drop (i + 1) parts))) ≡ (before || events_from i (parts_of (drop i parts))))
  events_pass parts i p below is b is_around c is_chosen found e before =
      let next : i + 1 ≡ suc i = omega arith in
      let split : drop i parts ≡ (p ∷ drop (i + 1) parts) = drop-cons parts i p below ∙ ap (λ u. u ∷ drop (suc i) parts) (sym is) ∙ ap (λ k. p ∷ drop k parts) (sym next) in
      let here : (c && found) ≡ (chosen i && has_events_at o program (a i) (part_of p)) = ap (λ x. x && found) is_chosen ∙ ap (λ x. chosen i && x) (e ∙ ap (λ x. has_events_at o program x (part_of p)) is_around) in
      grouped before (c && found) (events_from (i + 1) (parts_of (drop (i + 1) parts)))
      ∙ ap (λ x. before || (x || events_from (i + 1) (parts_of (drop (i + 1) parts)))) here
      ∙ ap (λ x. before || x) (sym (next_part i (part_of p) (parts_of (drop (i + 1) parts))))
      ∙ ap (λ ps. before || events_from i (parts_of ps)) (sym split)

module _ (o : Options) (program : Tree) (a : ℕ → Around) where
  abbrev pub moves_from : ℕ → Parts → Bool
  moves_from i ps = moves_heritage_in o program (λ k. a (i + k)) ps

  next_move : (i : ℕ) (p : Part) (ps : Parts) → moves_from i (more p ps) ≡ (moves_heritage_at o program (a i) p || moves_from (i + 1) ps)
  next_move i p ps =
      ap (λ k. moves_heritage_at o program (a k) p || moves_heritage_in o program (λ j. a (i + suc j)) ps) (first i)
      ∙ ap (λ (f : ℕ → ℕ). moves_heritage_at o program (a i) p || moves_heritage_in o program (λ j. a (f j)) ps) (λ x j. later i j x)

  pub all_moves : (ps : Parts) → moves_from 0 ps ≡ moves_heritage_in o program a ps
  all_moves ps = ap (λ (f : ℕ → ℕ). moves_heritage_in o program (λ j. a (f j)) ps) (λ x j. same j x)

  pub moves_pass : (parts : List code.Part) (i : ℕ) (p : code.Part) → i < length parts → p ≡ get_or parts i p → (b : Around) → b ≡ a i → (found : Bool) → found ≡ moves_heritage_at o program b (part_of p)
      → (before : Bool) → (((before || found) || moves_from (i + 1) (parts_of (drop (i + 1) parts))) ≡ (before || moves_from i (parts_of (drop i parts))))
  moves_pass parts i p below is b is_around found e before =
      let next : i + 1 ≡ suc i = omega arith in
      let split : drop i parts ≡ (p ∷ drop (i + 1) parts) = drop-cons parts i p below ∙ ap (λ u. u ∷ drop (suc i) parts) (sym is) ∙ ap (λ k. p ∷ drop k parts) (sym next) in
      grouped before found (moves_from (i + 1) (parts_of (drop (i + 1) parts)))
      ∙ ap (λ x. before || (x || moves_from (i + 1) (parts_of (drop (i + 1) parts)))) (e ∙ ap (λ x. moves_heritage_at o program x (part_of p)) is_around)
      ∙ ap (λ x. before || x) (sym (next_move i (part_of p) (parts_of (drop (i + 1) parts))))
      ∙ ap (λ ps. before || moves_from i (parts_of ps)) (sym split)

-- ---- the nodes of a list one by one

module _ (o : Options) (program : Tree) (a : Around) where
  pub events_next : (ts : List Tree) (i : ℕ) (t : Tree) → i < length ts → t ≡ get_or ts i t → (found : Bool) → found ≡ has_events o program a t → (before : Bool)
      → ((before || found) || has_events_of o program a (trees (drop (i + 1) ts))) ≡ (before || has_events_of o program a (trees (drop i ts)))
  events_next ts i t below is found e before =
      grouped before found (has_events_of o program a (trees (drop (i + 1) ts)))
      ∙ ap (λ x. before || (x || has_events_of o program a (trees (drop (i + 1) ts)))) (e ∙ ap (has_events o program a) is)
      ∙ sym (at_drop_more (λ (xs : List Tree). before || has_events_of o program a (trees xs)) ts i t below)

  pub moves_next : (ts : List Tree) (i : ℕ) (t : Tree) → i < length ts → t ≡ get_or ts i t → (found : Bool) → found ≡ moves_heritage o program a t → (before : Bool)
      → ((before || found) || moves_heritage_of o program a (trees (drop (i + 1) ts))) ≡ (before || moves_heritage_of o program a (trees (drop i ts)))
  moves_next ts i t below is found e before =
      grouped before found (moves_heritage_of o program a (trees (drop (i + 1) ts)))
      ∙ ap (λ x. before || (x || moves_heritage_of o program a (trees (drop (i + 1) ts)))) (e ∙ ap (moves_heritage o program a) is)
      ∙ sym (at_drop_more (λ (xs : List Tree). before || moves_heritage_of o program a (trees xs)) ts i t below)

  pub hole_events_next : (ts : List (Option Tree)) (i : ℕ) (t : Option Tree) → i < length ts → t ≡ get_or ts i t → (found : Bool) → found ≡ has_events_at o program a (nullable t) → (before : Bool)
      → ((before || found) || has_events_of o program a (nullable_trees (drop (i + 1) ts))) ≡ (before || has_events_of o program a (nullable_trees (drop i ts)))
  hole_events_next ts i t below is found e before =
      grouped before found (has_events_of o program a (nullable_trees (drop (i + 1) ts)))
      ∙ ap (λ x. before || (x || has_events_of o program a (nullable_trees (drop (i + 1) ts)))) (e ∙ ap (λ x. has_events_at o program a (nullable x)) is)
      ∙ sym (at_drop_more (λ (xs : List (Option Tree)). before || has_events_of o program a (nullable_trees xs)) ts i t below)

  pub hole_moves_next : (ts : List (Option Tree)) (i : ℕ) (t : Option Tree) → i < length ts → t ≡ get_or ts i t → (found : Bool) → found ≡ moves_heritage_at o program a (nullable t) → (before : Bool)
      → ((before || found) || moves_heritage_of o program a (nullable_trees (drop (i + 1) ts))) ≡ (before || moves_heritage_of o program a (nullable_trees (drop i ts)))
  hole_moves_next ts i t below is found e before =
      grouped before found (moves_heritage_of o program a (nullable_trees (drop (i + 1) ts)))
      ∙ ap (λ x. before || (x || moves_heritage_of o program a (nullable_trees (drop (i + 1) ts)))) (e ∙ ap (λ x. moves_heritage_at o program a (nullable x)) is)
      ∙ sym (at_drop_more (λ (xs : List (Option Tree)). before || moves_heritage_of o program a (nullable_trees xs)) ts i t below)

-- ---- the heritage among the parts

beyond : (i : ℕ) → is_heritage (suc (suc i)) ≡ false
beyond i = grind (arith, nat_tests)

none_chosen : (o : Options) (program : Tree) (a : ℕ → Around) (ps : Parts) → has_events_in o program a (λ i. false) ps ≡ false
none_chosen o program a end = refl
none_chosen o program a (more p ps) = none_chosen o program (λ i. a (suc i)) ps

pub heritage_among : (o : Options) (program : Tree) (a : ℕ → Around) (ps : Parts) → has_events_in o program a is_heritage ps ≡ has_events_at o program (a 1) (at 1 ps)
heritage_among o program a end = refl
heritage_among o program a (more p end) = refl
heritage_among o program a (more p (more q ps)) =
    ap (λ (chosen : ℕ → Bool). has_events_at o program (a 1) q || has_events_in o program (λ i. a (suc (suc i))) chosen ps) (λ x i. beyond i x)
    ∙ ap (λ b. has_events_at o program (a 1) q || b) (none_chosen o program (λ i. a (suc (suc i))) ps)
    ∙ or_none (has_events_at o program (a 1) q)

-- ---- what is around a part

pub around_part : (ids : List ℕ) (h : Bool) (kind : Kind) (i : ℕ) (s : Standing) → s.has_arguments ≡ (gives_arguments kind i || h) → s.in_block ≡ is_block kind → around ids s ≡ around_in ids h kind i
around_part ids h kind i s has in_block = λ j. record { class_names = ids; has_arguments = has j; in_block = in_block j }

-- ---- a node by its parts

pub events_node : (o : Options) (program : Tree) (a : Around) (ids : List ℕ) (t : Tree) → ids ≡ class_name (kind_of t) (parts_in t) ++ a.class_names
    → (acts o program a (kind_of t) (number_in t) (parts_in t) || has_events_in o program (around_in ids a.has_arguments (kind_of t)) (is_evaluated (kind_of t) (parts_in t)) (parts_in t)) ≡ has_events o program a t
events_node o program a ids (Node kind m span semantic_id ps) e = ap (λ ids. acts o program a kind m ps || has_events_in o program (around_in ids a.has_arguments kind) (is_evaluated kind ps) ps) e

turned : (lowered heritage moves rest : Bool) → ((heritage && (lowered && moves)) || rest) ≡ ((lowered && (heritage && moves)) || rest)
turned true true moves rest = refl
turned true false moves rest = refl
turned false true moves rest = refl
turned false false moves rest = refl

pub moves_node : (o : Options) (program : Tree) (a : Around) (ids : List ℕ) (t : Tree) → ids ≡ class_name (kind_of t) (parts_in t) ++ a.class_names
    → ((has_events_in o program (around_in ids a.has_arguments (kind_of t)) is_heritage (parts_in t) && (is_lowered_class o (kind_of t) (parts_in t) && moves_before_heritage o (written program) (resolve program) (class_at (kind_of t) (number_in t) (parts_in t)))) || moves_heritage_in o program (around_in ids a.has_arguments (kind_of t)) (parts_in t)) ≡ moves_heritage o program a t
moves_node o program a ids (Node kind m span semantic_id ps) e =
    let lowered = is_lowered_class o kind ps in
    let moves = moves_before_heritage o (written program) (resolve program) (class_at kind m ps) in
    turned lowered (has_events_in o program (around_in ids a.has_arguments kind) is_heritage ps) moves (moves_heritage_in o program (around_in ids a.has_arguments kind) ps)
    ∙ ap (λ h. (lowered && (h && moves)) || moves_heritage_in o program (around_in ids a.has_arguments kind) ps) (heritage_among o program (around_in ids a.has_arguments kind) ps)
    ∙ ap (λ ids. (lowered && (has_events_at o program (around_in ids a.has_arguments kind 1) (at 1 ps) && moves)) || moves_heritage_in o program (around_in ids a.has_arguments kind) ps) e

-- ---- a class by its elements

abbrev passes : Options → Tree → Option ClassAt → Bool
passes o program None = false
passes o program (Some k) = is_lowered o k && moves_before_heritage o (written program) (resolve program) k

moving : (o : Options) (program : Tree) (t : Tree) → passes o program (class_of t) ≡ (is_lowered_class o (kind_of t) (parts_in t) && moves_before_heritage o (written program) (resolve program) (class_at (kind_of t) (number_in t) (parts_in t)))
moving o program (Node kind m span semantic_id ps) = here (is_class kind)
  where
    here : (b : Bool) → passes o program (cond b (Some (class_at kind m ps)) None) ≡ ((b && is_lowered o (class_at kind m ps)) && moves_before_heritage o (written program) (resolve program) (class_at kind m ps))
    here true = refl
    here false = refl

pub moving_class : (o : Options) (program : Tree) (t : Tree) (k : Option ClassAt) → k ≡ class_of t → passes o program k ≡ (is_lowered_class o (kind_of t) (parts_in t) && moves_before_heritage o (written program) (resolve program) (class_at (kind_of t) (number_in t) (parts_in t)))
moving_class o program t k e = ap (passes o program) e ∙ moving o program t
