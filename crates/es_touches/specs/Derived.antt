-- The arrows of functions, as code finds them.
use Rattle.std.specs.Prelude.{ℕ, List, [], cond, Option, Some, None}
use Rattle.es_base.specs.Tree.{Tree, Node, more}
use Rattle.es_lowered.specs.DeadZones.{arrows_at, arrows_in, arrows_of_body}
use Rattle.es_lowered.specs.HelperCalls.{is_class_body}
use Rattle.es_steps.specs.Context.{is_function}
use Rattle.es_steps.specs.PrivateNames.{is_element}

-- but for the node
abbrev pub arrows_inside : Tree → List ℕ
arrows_inside (Node kind m span semantic_id ps) = cond (is_class_body kind) (arrows_of_body ps) (cond (is_function kind) [] (arrows_in ps))

abbrev pub arrows_of_key : Tree → List ℕ
arrows_of_key (Node kind m span semantic_id (more k ps)) = cond (is_element kind) (arrows_at k) []
arrows_of_key t = []

abbrev pub arrows_of_key_hole : Option Tree → List ℕ
arrows_of_key_hole None = []
arrows_of_key_hole (Some t) = arrows_of_key t
