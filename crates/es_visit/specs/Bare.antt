-- Whether nodes stand at a part.
use Rattle.std.specs.Prelude.{Bool, true, false}
use Rattle.es_base.specs.Tree.{Part, child, list}

-- whether no node stands there
abbrev pub is_bare : Part → Bool
is_bare (child t) = false
is_bare (list all) = false
is_bare p = true

abbrev pub is_child : Part → Bool
is_child (child t) = true
is_child p = false
