-- Printed by tools/tree.py from tools/kinds.py.
-- Identifiers: the tree of each kind by its members (ESTree; the order of members is our own).
use Rattle.std.specs.Prelude.{ℕ, List, Option, None}
use Rattle.es_base.specs.Tree.{Tree, Node, end, more, string}
use Rattle.es_base.specs.declared.kind.Kind.{Kind}

-- `#name`, whose string has no `#` (ECMA-262, 12.7).
abbrev pub private_identifier : ℕ → Option (ℕ × ℕ) → List ℕ → Tree
private_identifier node_id span name =
    Node Kind.PrivateIdentifier node_id span None (more (string name) end)

-- An identifier that is read or written (ECMA-262, 13.1).
abbrev pub identifier_reference : ℕ → Option (ℕ × ℕ) → Option ℕ → List ℕ → Tree
identifier_reference node_id span reference_id name =
    Node Kind.IdentifierReference node_id span reference_id (more (string name) end)

-- An identifier that declares (ECMA-262, 13.1).
abbrev pub binding_identifier : ℕ → Option (ℕ × ℕ) → Option ℕ → List ℕ → Tree
binding_identifier node_id span symbol_id name =
    Node Kind.BindingIdentifier node_id span symbol_id (more (string name) end)

-- An identifier that is a mere name, as a label or an uncomputed key (ECMA-262, 12.7).
abbrev pub identifier_name : ℕ → Option (ℕ × ℕ) → List ℕ → Tree
identifier_name node_id span name =
    Node Kind.IdentifierName node_id span None (more (string name) end)
