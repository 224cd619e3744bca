-- The members of a node by their places in the table.
use Rattle.std.specs.Prelude.{ℕ, zero, suc, List, [], Bool, true, false, not, ◌||◌}
use Rattle.es_base.specs.Tree.{Part, Parts, Node, end, more, child, absent, list, string, boolean}
use Rattle.es_base.specs.declared.kind.Kind.{Kind}

-- the i-th member
abbrev pub at : ℕ → Parts → Part
at i end = absent
at zero (more p ps) = p
at (suc i) (more p ps) = at i ps

-- the items of a list, and of the block that is a body
abbrev pub items : Part → Parts
items (list ps) = ps
items p = end

abbrev pub block_items : Part → Parts
block_items (child (Node kind m span semantic_id (more p ps))) = items p
block_items p = end

abbrev pub string_of : Part → List ℕ
string_of (string s) = s
string_of p = []

abbrev pub is_true : Part → Bool
is_true (boolean b) = b
is_true p = false

abbrev pub is_present : Part → Bool
is_present absent = false
is_present p = true

-- whether a parameter among these is neither an identifier nor an identifier as a rest
abbrev pub is_simple_parameter : Part → Bool
is_simple_parameter (child (Node Kind.BindingIdentifier m span semantic_id ps)) = true
is_simple_parameter (child (Node Kind.RestElement m span semantic_id (more (child (Node Kind.BindingIdentifier b bspan b_semantic_id bs)) rest))) = true
is_simple_parameter p = false

abbrev pub has_pattern : Parts → Bool
has_pattern end = false
has_pattern (more p ps) = not (is_simple_parameter p) || has_pattern ps
