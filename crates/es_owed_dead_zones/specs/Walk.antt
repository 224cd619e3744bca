-- The walk that collects touches, as code has it.
use Rattle.std.specs.Prelude.{ℕ, ◌+◌, List, [], ◌++◌, Bool, cond, not, ◌&&◌, Option, Some, None}
use Rattle.std.specs.Option.{option_to_list}
use Rattle.es_base.specs.Numbered.{is_new}
use Rattle.es_base.specs.Tree.{Tree, Part, Parts, Node, end, more, child, list}
use Rattle.es_base.specs.declared.kind.Kind.{Kind}
use Rattle.es_lowered.specs.DeadZones as spec
use Rattle.es_lowered.specs.DeadZones.{Touch, TouchForm, converted, held_in, in_no_chain, is_keyed, is_property_definition, is_turned, spot_in, touch}
use Rattle.es_lowered.specs.HelperCalls.{runs_with_class}
use Rattle.es_lowered.specs.Timely.{is_same}
use Rattle.es_marks.specs.Around as around
use Rattle.es_references.specs.References.{references_of}
use Rattle.es_steps.specs.Printable.{has_optional}
use Rattle.es_steps.specs.PrivateNames.{is_class, is_element}
use Rattle.es_steps.specs.References.{Reference}
use Rattle.es_steps.specs.Values.{Referent}
use Rattle.es_touches.specs.Touches.{closures_of}
use Rattle.es_owed_dead_zones.specs.declared.spot.Spot.{Spot}
use Rattle.es_owed_dead_zones.specs.declared.terms.Terms.{Terms}

abbrev pub spot_of : Spot → spec.Spot
spot_of x = record { around = option_to_list x.around; held = around.held_in x.held; chain = option_to_list x.chain }

-- around the parts of a node
abbrev pub spot_at : spec.Spot → Tree → ℕ → spec.Spot
spot_at x (Node kind m span semantic_id ps) = spot_in x (has_optional (Node kind m span semantic_id ps)) kind m ps

-- of a node that is there
abbrev pub if_tree : (Tree → List Touch) → Option Tree → List Touch
if_tree touched None = []
if_tree touched (Some u) = touched u

module _ (t : Terms) where
  abbrev pub touches : spec.Spot → Tree → List Touch
  touches = spec.touches t.first (closures_of t.called.now) t.asked.now t.named.now (references_of t.references.now.list.items)

  abbrev pub keyed : List Touch → (ℕ → spec.Spot) → Parts → List Touch
  keyed = spec.keyed t.first (closures_of t.called.now) t.asked.now t.named.now (references_of t.references.now.list.items)

  abbrev pub inner_touches : Kind → spec.Spot → (ℕ → spec.Spot) → Parts → List Touch
  inner_touches = spec.inner_touches t.first (closures_of t.called.now) t.asked.now t.named.now (references_of t.references.now.list.items)

  abbrev pub joined : spec.Spot → Parts → List Touch
  joined = spec.joined t.first (closures_of t.called.now) t.asked.now t.named.now (references_of t.references.now.list.items)

  abbrev pub touches_in : (ℕ → spec.Spot) → Parts → List Touch
  touches_in = spec.touches_in t.first (closures_of t.called.now) t.asked.now t.named.now (references_of t.references.now.list.items)

  abbrev pub touches_at : spec.Spot → Part → List Touch
  touches_at = spec.touches_at t.first (closures_of t.called.now) t.asked.now t.named.now (references_of t.references.now.list.items)

  abbrev pub touches_of : spec.Spot → Parts → List Touch
  touches_of = spec.touches_of t.first (closures_of t.called.now) t.asked.now t.named.now (references_of t.references.now.list.items)

  abbrev pub turned : (ℕ → spec.Spot) → Parts → List Touch
  turned = spec.turned t.first (closures_of t.called.now) t.asked.now t.named.now (references_of t.references.now.list.items)

  abbrev pub class_touches : spec.Spot → ℕ → Parts → List Touch
  class_touches = spec.class_touches t.first (closures_of t.called.now) t.asked.now t.named.now (references_of t.references.now.list.items)

  abbrev pub key_touches : spec.Spot → Part → List Touch
  key_touches = spec.key_touches t.first (closures_of t.called.now) t.asked.now t.named.now (references_of t.references.now.list.items)

  abbrev pub keys_touched : spec.Spot → Parts → List Touch
  keys_touched = spec.keys_touched t.first (closures_of t.called.now) t.asked.now t.named.now (references_of t.references.now.list.items)

  abbrev pub value_touches : Bool → spec.Spot → Part → List Touch
  value_touches = spec.value_touches t.first (closures_of t.called.now) t.asked.now t.named.now (references_of t.references.now.list.items)

  abbrev pub values_touched : Bool → spec.Spot → Parts → List Touch
  values_touched = spec.values_touched t.first (closures_of t.called.now) t.asked.now t.named.now (references_of t.references.now.list.items)

  abbrev pub own_touches : spec.Spot → List (ℕ × ℕ) → Kind → ℕ → Parts → List Touch
  own_touches = spec.own_touches t.first (closures_of t.called.now) t.asked.now t.named.now (references_of t.references.now.list.items)

  abbrev pub is_apart : Kind → ℕ → Bool
  is_apart = spec.is_apart t.first (closures_of t.called.now) t.asked.now t.named.now (references_of t.references.now.list.items)

  abbrev pub read_form : ℕ → Referent → TouchForm
  read_form = spec.read_form t.first (closures_of t.called.now) t.asked.now t.named.now (references_of t.references.now.list.items)

  abbrev pub reference_touches : List (ℕ × ℕ) → ℕ → List Reference → List Touch
  reference_touches = spec.reference_touches t.first (closures_of t.called.now) t.asked.now t.named.now (references_of t.references.now.list.items)

  abbrev pub assignment_form : ℕ → Parts → TouchForm
  assignment_form = spec.assignment_form t.first (closures_of t.called.now) t.asked.now t.named.now (references_of t.references.now.list.items)

  abbrev pub update_form : ℕ → Parts → TouchForm
  update_form = spec.update_form t.first (closures_of t.called.now) t.asked.now t.named.now (references_of t.references.now.list.items)

  abbrev pub called_form : ℕ → Parts → TouchForm
  called_form = spec.called_form t.first (closures_of t.called.now) t.asked.now t.named.now (references_of t.references.now.list.items)

  -- of the parts from the i-th on
  abbrev pub touches_from : (ℕ → spec.Spot) → ℕ → Parts → List Touch
  touches_from x i end = []
  touches_from x i (more p ps) = touches_at (x i) p ++ touches_from x (i + 1) ps

  -- of a node that does not run later or elsewhere, but for its own
  abbrev pub touches_inside : spec.Spot → Tree → List Touch
  touches_inside x (Node kind m span semantic_id ps) =
      cond (is_class kind) (class_touches (in_no_chain x) m ps) (cond (is_turned kind) (turned (spot_at x (Node kind m span semantic_id ps)) ps) (cond (is_keyed kind) (keyed (converted x kind m) (spot_at x (Node kind m span semantic_id ps)) ps) (inner_touches kind (in_no_chain x) (spot_at x (Node kind m span semantic_id ps)) ps)))

  abbrev pub key_touch : spec.Spot → Tree → List Touch
  key_touch x (Node kind m span semantic_id (more k ps)) = cond (is_element kind) (touches_at x k) []
  key_touch x u = []

  abbrev pub field_touch : spec.Spot → Kind → ℕ → List Touch
  field_touch x kind m = cond (is_property_definition kind && not (is_new t.first m)) (touch x.held m spec.defines_field) []

  -- of an element that runs with the class, or of another
  abbrev pub value_touch : Bool → spec.Spot → Tree → List Touch
  value_touch runs x (Node kind m span semantic_id (more k ps)) = cond (is_same runs (runs_with_class (child (Node kind m span semantic_id (more k ps))))) (cond (is_element kind) [] (touches_at x k) ++ (touches_of x ps ++ field_touch x kind m)) []
  value_touch runs x u = []

  -- of the keys, or of the elements that run with the class or of the others, in the list that a body has
  abbrev pub keys_of_part : spec.Spot → Part → List Touch
  keys_of_part x (list es) = keys_touched x es
  keys_of_part x p = []

  abbrev pub values_of_part : Bool → spec.Spot → Part → List Touch
  values_of_part runs x (list es) = values_touched runs x es
  values_of_part runs x p = []

  -- of the first of these parts, if so
  abbrev pub first_touches : Bool → spec.Spot → Parts → List Touch
  first_touches asked x (more k ps) = cond asked (touches_at x k) []
  first_touches asked x end = []
