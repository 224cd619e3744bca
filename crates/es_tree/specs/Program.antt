-- Printed by tools/tree.py from tools/kinds.py.
-- The root: the tree of each kind by its members (ESTree; the order of members is our own).
use Rattle.std.specs.Prelude.{ℕ, List, Option}
use Rattle.es_base.specs.Tree.{Tree, Node, end, more, list, string, trees}
use Rattle.es_base.specs.Words.{source_type_string}
use Rattle.es_base.specs.declared.kind.Kind.{Kind}
use Rattle.es_base.specs.declared.operator.SourceType.{SourceType}

-- A script or a module (ECMA-262, 16).
abbrev pub program : ℕ → Option (ℕ × ℕ) → Option ℕ → SourceType → List Tree → Tree
program node_id span scope_id source_type body =
    Node Kind.Program node_id span scope_id (more (string (source_type_string source_type))
    (more (list (trees body)) end))
