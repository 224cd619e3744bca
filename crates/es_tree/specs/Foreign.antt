-- Printed by tools/tree.py from tools/kinds.py.
-- What the trees here do not describe: the tree of each kind by its members (ESTree; the order of members is our own).
use Rattle.std.specs.Prelude.{ℕ, List, Option, None}
use Rattle.es_base.specs.Tree.{Tree, Node, end, more, string}
use Rattle.es_base.specs.declared.kind.Kind.{Kind}

-- A node of TypeScript, JSX, a decorator or an accessor property, of which only the string of
-- `type` is kept.
abbrev pub foreign : ℕ → Option (ℕ × ℕ) → List ℕ → Tree
foreign node_id span kind =
    Node Kind.Foreign node_id span None (more (string kind) end)
