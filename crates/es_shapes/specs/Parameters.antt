-- The constructor among the elements of a class.
use Rattle.std.specs.Prelude.{Option, Some, None}
use Rattle.es_base.specs.Tree.{Tree, Part, child}

-- the node, or else what stands there
abbrev pub child_or : Option Tree → Part → Part
child_or None p = p
child_or (Some t) p = child t
