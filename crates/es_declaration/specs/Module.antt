-- Printed by tools/tree.py from tools/kinds.py.
-- Imports and exports: the tree of each kind by its members (ESTree; the order of members is our own).
use Rattle.std.specs.Prelude.{ℕ, List, Option, None}
use Rattle.es_base.specs.Tree.{Tree, Node, end, more, child, list, trees, nullable}
use Rattle.es_base.specs.declared.kind.Kind.{Kind}

-- `import specifiers from source` (ECMA-262, 16.2.2).
abbrev pub import_declaration : ℕ → Option (ℕ × ℕ) → List Tree → Tree → Tree
import_declaration node_id span specifiers source =
    Node Kind.ImportDeclaration node_id span None (more (list (trees specifiers))
    (more (child source) end))

-- `imported as local` (ECMA-262, 16.2.2).
abbrev pub import_specifier : ℕ → Option (ℕ × ℕ) → Tree → Tree → Tree
import_specifier node_id span imported local =
    Node Kind.ImportSpecifier node_id span None (more (child imported) (more (child local) end))

-- The name of a default import (ECMA-262, 16.2.2).
abbrev pub import_default_specifier : ℕ → Option (ℕ × ℕ) → Tree → Tree
import_default_specifier node_id span local =
    Node Kind.ImportDefaultSpecifier node_id span None (more (child local) end)

-- `* as local` (ECMA-262, 16.2.2).
abbrev pub import_namespace_specifier : ℕ → Option (ℕ × ℕ) → Tree → Tree
import_namespace_specifier node_id span local =
    Node Kind.ImportNamespaceSpecifier node_id span None (more (child local) end)

-- `export declaration` or `export { specifiers } from source` (ECMA-262, 16.2.3).
abbrev pub export_named_declaration : ℕ → Option (ℕ × ℕ) → Option Tree → List Tree → Option Tree
    → Tree
export_named_declaration node_id span declaration specifiers source =
    Node Kind.ExportNamedDeclaration node_id span None (more (nullable declaration)
    (more (list (trees specifiers)) (more (nullable source) end)))

-- `local as exported` (ECMA-262, 16.2.3).
abbrev pub export_specifier : ℕ → Option (ℕ × ℕ) → Tree → Tree → Tree
export_specifier node_id span local exported =
    Node Kind.ExportSpecifier node_id span None (more (child local) (more (child exported) end))

-- `export default declaration` (ECMA-262, 16.2.3).
abbrev pub export_default_declaration : ℕ → Option (ℕ × ℕ) → Tree → Tree
export_default_declaration node_id span declaration =
    Node Kind.ExportDefaultDeclaration node_id span None (more (child declaration) end)

-- `export * as exported from source` (ECMA-262, 16.2.3).
abbrev pub export_all_declaration : ℕ → Option (ℕ × ℕ) → Option Tree → Tree → Tree
export_all_declaration node_id span exported source =
    Node Kind.ExportAllDeclaration node_id span None (more (nullable exported) (more (child source)
    end))
