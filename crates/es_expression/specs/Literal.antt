-- Printed by tools/tree.py from tools/kinds.py.
-- Literals: the tree of each kind by its members (ESTree; the order of members is our own).
use Rattle.std.specs.Prelude.{ℕ, Option, None}
use Rattle.es_base.specs.Tree.{Tree, Node, end, more, literal as literal_part}
use Rattle.es_base.specs.declared.kind.Kind.{Kind}
use Rattle.es_base.specs.declared.literal.LiteralValue.{LiteralValue}

-- A literal (ECMA-262, 12.8 and 13.2.3).
abbrev pub literal : ℕ → Option (ℕ × ℕ) → LiteralValue → Tree
literal node_id span value =
    Node Kind.Literal node_id span None (more (literal_part value) end)
