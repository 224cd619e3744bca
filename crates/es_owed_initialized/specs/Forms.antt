-- Forms by their nodes.
use Rattle.std.specs.Prelude.{ℕ, List, [], ◌∷◌, Bool, true, false, ◌&&◌, bytes_eq, codes, Option, Some, None}
use Rattle.es_base.specs.Numbered.{is_new}
use Rattle.es_base.specs.Tree.{Tree, Node, end, more, string}
use Rattle.es_base.specs.declared.kind.Kind.{Kind}
use Rattle.es_steps.specs.Values.{String}

abbrev pub is_reference_named : String → Tree → Bool
is_reference_named s (Node Kind.IdentifierReference b span semantic_id (more (string t) end)) = bytes_eq s t
is_reference_named s t = false

abbrev pub is_babel_helpers : ℕ → Tree → Bool
is_babel_helpers first (Node Kind.IdentifierReference b span semantic_id (more (string s) end)) = is_new first b && bytes_eq s (codes "babelHelpers")
is_babel_helpers first t = false

abbrev pub is_property_named : String → Tree → Bool
is_property_named s (Node Kind.IdentifierName k span semantic_id (more (string t) end)) = bytes_eq s t
is_property_named s t = false

abbrev pub has_none : List Tree → Bool
has_none [] = true
has_none (t ∷ ts) = false

abbrev pub only_tree : List Tree → Option Tree
only_tree (t ∷ []) = Some t
only_tree ts = None
