-- What one class is known by.
use Rattle.std.specs.Prelude.{ℕ, List, []}
use Rattle.es_base.specs.Tree.{Tree, Node}
use Rattle.es_base.specs.declared.kind.Kind.{Kind}
use Rattle.es_steps.specs.ClassHeads.{head_nodes, named_by, unnamed_class}
use Rattle.es_steps.specs.Parts.{at}

-- the class that a node is, with what it is known by
abbrev pub named_class : Tree → List (ℕ × ℕ)
named_class (Node Kind.ClassDeclaration n span semantic_id ps) = unnamed_class n (at 0 ps)
named_class (Node Kind.ClassExpression n span semantic_id ps) = named_by n (at 0 ps) (head_nodes ps)
named_class t = []
