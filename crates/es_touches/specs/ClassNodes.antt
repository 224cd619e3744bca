-- The nodes of classes, as code finds them.
use Rattle.std.specs.Prelude.{ℕ, List, [], ◌∷◌, ◌++◌, Bool, cond, not, ◌&&◌, Option, Some, None}
use Rattle.es_base.specs.Preorder.{preorder_of, preorder_of_part}
use Rattle.es_base.specs.Tree.{Tree, Node, more}
use Rattle.es_base.specs.declared.kind.Kind.{Kind}
use Rattle.es_lowered.specs.ClassNames.{numbers_of}
use Rattle.es_lowered.specs.DeadZones.{ClassParts, class_elements, key_references, moving_numbers, names_own, reference_number}
use Rattle.es_shapes.specs.Classes.{is_lowered}
use Rattle.es_steps.specs.Options.{lowers_fields}
use Rattle.es_steps.specs.PrivateNames.{is_element}
use Rattle.es_steps.specs.References.{Reference}
use Rattle.es_steps.specs.Shapes.{ClassAt}
use Rattle.es_steps.specs.declared.options.Options.{Options}

abbrev pub moving_of : Options → List ℕ → List Reference → ClassAt → List ℕ
moving_of o changed references k = cond (is_lowered o k) (moving_numbers o changed references k k.body) []

-- whether the making of a class expression is no event
abbrev pub is_still : ClassAt → Bool
is_still k = k.is_expression && not (names_own k)

abbrev pub passed_if : Bool → Options → ClassAt → List ℕ
passed_if still o k = cond (lowers_fields o) (numbers_of (preorder_of_part k.heritage)) [] ++ cond still (k.number ∷ []) []

abbrev pub parts_of_class : Bool → Options → List ℕ → List Reference → ClassAt → ClassParts
parts_of_class still o changed references k = record { number = k.number; passed = passed_if still o k; keys = key_references (class_elements k.body); moving = moving_of o changed references k }

abbrev pub parts_if : Options → List ℕ → List Reference → Option ClassAt → List ClassParts
parts_if o changed references None = []
parts_if o changed references (Some k) = parts_of_class (is_still k) o changed references k ∷ []

-- the key of an element, if it is a reference
abbrev pub keys_of : Tree → List ℕ
keys_of (Node kind m span semantic_id (more k ps)) = cond (is_element kind) (reference_number k) []
keys_of t = []

abbrev pub moved_block : Tree → List ℕ
moved_block (Node Kind.StaticBlock m span semantic_id ps) = numbers_of (preorder_of ps)
moved_block t = []
