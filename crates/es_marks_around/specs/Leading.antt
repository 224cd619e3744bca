-- Declarators, one by one.
use Rattle.std.specs.Prelude.{Bool, false, not}
use Rattle.es_base.specs.Tree.{Tree, Node}
use Rattle.es_base.specs.declared.kind.Kind.{Kind}
use Rattle.es_steps.specs.Parts.{at, is_present}

-- whether a declarator has no value
abbrev pub is_bare : Tree → Bool
is_bare (Node Kind.VariableDeclarator m span semantic_id ps) = not (is_present (at 1 ps))
is_bare t = false
