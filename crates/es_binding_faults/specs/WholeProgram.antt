-- What code asks of each node of a program.
use Rattle.std.specs.Prelude.{ℕ, List, [], ◌++◌, Bool, true, false, cond, Option, Some, None}
use Rattle.es_base.specs.Tree.{Tree, Parts, Node}
use Rattle.es_base.specs.declared.kind.Kind.{Kind}
use Rattle.es_steps.specs.Parts.{at}
use Rattle.es_steps.specs.Scopes.{is_var}
use Rattle.es_validity.specs.Facts.{function_name}

-- the place of what `let`, `const`, `class` and `import` declare
abbrev pub lexical_place : Kind → Parts → Option ℕ
lexical_place Kind.VariableDeclaration ps = cond (is_var ps) None (Some 1)
lexical_place Kind.ClassDeclaration ps = Some 0
lexical_place Kind.ImportDeclaration ps = Some 0
lexical_place kind ps = None

abbrev pub is_function_declaration : Kind → Bool
is_function_declaration Kind.FunctionDeclaration = true
is_function_declaration kind = false

abbrev pub is_if : Kind → Bool
is_if Kind.IfStatement = true
is_if kind = false

-- the names of functions that are branches of a node
abbrev pub branches_at : Tree → List ℕ
branches_at (Node kind m span semantic_id ps) = cond (is_if kind) (function_name (at 1 ps) ++ function_name (at 2 ps)) []
