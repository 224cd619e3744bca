-- References of a spelling, and the keys of elements, as code finds them.
use Rattle.std.specs.Prelude.{List, [], Bool, false, cond, bytes_eq}
use Rattle.es_base.specs.Preorder.{preorder_of_part}
use Rattle.es_base.specs.Tree.{Tree, Node, end, more}
use Rattle.es_base.specs.declared.kind.Kind.{Kind}
use Rattle.es_steps.specs.Parts.{at, string_of}
use Rattle.es_steps.specs.PrivateNames.{is_element}
use Rattle.es_steps.specs.Values.{String}

abbrev pub spells : String → Tree → Bool
spells s (Node Kind.IdentifierReference m span semantic_id ps) = bytes_eq s (string_of (at 0 ps))
spells s t = false

-- the nodes of the key of an element
abbrev pub element_key : Tree → List Tree
element_key (Node kind m span semantic_id end) = []
element_key (Node kind m span semantic_id (more key ps)) = cond (is_element kind) (preorder_of_part key) []
