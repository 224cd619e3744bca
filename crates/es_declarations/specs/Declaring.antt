-- Declaring identifiers, part by part.
use Rattle.std.specs.Prelude.{ℕ, ◌+◌, List, [], ◌++◌}
use Rattle.es_base.specs.Tree.{Tree, Parts, Node, end, more}
use Rattle.es_steps.specs.Meaning.{DeclarationKind, declares_at, declaring_part}

-- what the identifiers in the i-th part of a node declare
abbrev pub declares_within : ℕ → Tree → DeclarationKind → ℕ → DeclarationKind
declares_within first (Node kind m span semantic_id ps) d i = declares_at first kind m ps d i

-- those of the parts from the i-th on
abbrev pub declaring_from : ℕ → (ℕ → DeclarationKind) → ℕ → Parts → List (ℕ × DeclarationKind)
declaring_from first d i end = []
declaring_from first d i (more p ps) = declaring_part first (d i) p ++ declaring_from first d (i + 1) ps
