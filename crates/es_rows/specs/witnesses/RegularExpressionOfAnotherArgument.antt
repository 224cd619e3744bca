-- Printed by tools/rows/witnesses.js.
use Rattle.std.specs.Prelude.{ℕ, List, [], ◌∷◌, false, codes, Some, None}
use Rattle.es_base.specs.Tree.{Tree, end, more, child, absent, list, string, no_string, boolean, literal, trees}
use Rattle.es_base.specs.declared.kind.Kind.{Kind}
use Rattle.es_base.specs.declared.ledger.LedgerEntry.{LedgerEntry}
use Rattle.es_base.specs.declared.literal.LiteralValue.TheVariants as literal_value
use Rattle.es_steps.specs.Generated.{node}
use Rattle.es_steps.specs.Options.{options_of}
use Rattle.es_steps.specs.declared.options.Options.{Options}

-- `f(y = /a/, /a/, class { x = 1; });`
abbrev pub source_regular_expression_of_another_argument : Tree
source_regular_expression_of_another_argument = node Kind.Program 0 (more (string (codes "script")) (more (list (trees (node Kind.ExpressionStatement 1 (more (child (node Kind.CallExpression 2 (more (child (node Kind.IdentifierReference 3 (more (string (codes "f")) end))) (more (list (trees (node Kind.AssignmentExpression 4 (more (string (codes "=")) (more (child (node Kind.IdentifierReference 5 (more (string (codes "y")) end))) (more (child (node Kind.Literal 6 (more (literal (literal_value.RegExp (codes "a") (codes ""))) end))) end))) ∷ node Kind.Literal 7 (more (literal (literal_value.RegExp (codes "a") (codes ""))) end) ∷ node Kind.ClassExpression 8 (more absent (more absent (more (child (node Kind.ClassBody 9 (more (list (trees (node Kind.PropertyDefinition 10 (more (child (node Kind.IdentifierName 11 (more (string (codes "x")) end))) (more (child (node Kind.Literal 12 (more (literal (literal_value.Number (codes "1"))) end))) (more (boolean false) (more (boolean false) end)))) ∷ []))) end))) end))) ∷ []))) (more (boolean false) end))))) (more no_string end)) ∷ []))) end))

-- a regular expression exchanged with another one of its text, which is an argument: `f(/a/, y = /a/, class { constructor() { B.defineProperty(this, "x", 1); } });`
abbrev pub output_regular_expression_of_another_argument : Tree
output_regular_expression_of_another_argument = node Kind.Program 0 (more (string (codes "script")) (more (list (trees (node Kind.ExpressionStatement 1 (more (child (node Kind.CallExpression 2 (more (child (node Kind.IdentifierReference 3 (more (string (codes "f")) end))) (more (list (trees (node Kind.Literal 6 (more (literal (literal_value.RegExp (codes "a") (codes ""))) end) ∷ node Kind.AssignmentExpression 4 (more (string (codes "=")) (more (child (node Kind.IdentifierReference 5 (more (string (codes "y")) end))) (more (child (node Kind.Literal 7 (more (literal (literal_value.RegExp (codes "a") (codes ""))) end))) end))) ∷ node Kind.ClassExpression 8 (more absent (more absent (more (child (node Kind.ClassBody 9 (more (list (trees (node Kind.MethodDefinition 13 (more (child (node Kind.IdentifierName 14 (more (string (codes "constructor")) end))) (more (child (node Kind.FunctionExpression 15 (more absent (more (list end) (more (child (node Kind.BlockStatement 16 (more (list (trees (node Kind.ExpressionStatement 17 (more (child (node Kind.CallExpression 18 (more (child (node Kind.MemberExpression 19 (more (child (node Kind.IdentifierReference 20 (more (string (codes "babelHelpers")) end))) (more (child (node Kind.IdentifierName 21 (more (string (codes "defineProperty")) end))) (more (boolean false) (more (boolean false) end)))))) (more (list (trees (node Kind.ThisExpression 22 end ∷ node Kind.Literal 23 (more (literal (literal_value.String (codes "x") None)) end) ∷ node Kind.Literal 12 (more (literal (literal_value.Number (codes "1"))) end) ∷ []))) (more (boolean false) end))))) (more no_string end)) ∷ []))) end))) (more (boolean false) (more (boolean false) end))))))) (more (string (codes "constructor")) (more (boolean false) (more (boolean false) end))))) ∷ []))) end))) end))) ∷ []))) (more (boolean false) end))))) (more no_string end)) ∷ []))) end))

abbrev pub generated_regular_expression_of_another_argument : List LedgerEntry
generated_regular_expression_of_another_argument = []

abbrev pub options_regular_expression_of_another_argument : Options
options_regular_expression_of_another_argument = options_of false (Some (record { loose = false })) false
