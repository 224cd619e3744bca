-- Printed by tools/rows/witnesses.js.
use Rattle.std.specs.Prelude.{ℕ, List, [], ◌∷◌, false, codes, Some, None}
use Rattle.es_base.specs.Tree.{Tree, end, more, child, absent, list, string, no_string, boolean, literal, trees}
use Rattle.es_base.specs.declared.kind.Kind.{Kind}
use Rattle.es_base.specs.declared.ledger.LedgerEntry.{LedgerEntry}
use Rattle.es_base.specs.declared.literal.LiteralValue.TheVariants as literal_value
use Rattle.es_steps.specs.Generated.{node}
use Rattle.es_steps.specs.Options.{options_of}
use Rattle.es_steps.specs.declared.options.Options.{Options}

-- `f(/a/.b += 1, class { x = 1; });`
abbrev pub source_copied_regular_expression : Tree
source_copied_regular_expression = node Kind.Program 0 (more (string (codes "script")) (more (list (trees (node Kind.ExpressionStatement 1 (more (child (node Kind.CallExpression 2 (more (child (node Kind.IdentifierReference 3 (more (string (codes "f")) end))) (more (list (trees (node Kind.AssignmentExpression 4 (more (string (codes "+=")) (more (child (node Kind.MemberExpression 5 (more (child (node Kind.Literal 6 (more (literal (literal_value.RegExp (codes "a") (codes ""))) end))) (more (child (node Kind.IdentifierName 7 (more (string (codes "b")) end))) (more (boolean false) (more (boolean false) end)))))) (more (child (node Kind.Literal 8 (more (literal (literal_value.Number (codes "1"))) end))) end))) ∷ node Kind.ClassExpression 9 (more absent (more absent (more (child (node Kind.ClassBody 10 (more (list (trees (node Kind.PropertyDefinition 11 (more (child (node Kind.IdentifierName 12 (more (string (codes "x")) end))) (more (child (node Kind.Literal 13 (more (literal (literal_value.Number (codes "1"))) end))) (more (boolean false) (more (boolean false) end)))) ∷ []))) end))) end))) ∷ []))) (more (boolean false) end))))) (more no_string end)) ∷ []))) end))

-- a regular expression that stands twice, of which one is a copy: `f(/a/.b = /a/.b + 1, class { constructor() { B.defineProperty(this, "x", 1); } });`
abbrev pub output_copied_regular_expression : Tree
output_copied_regular_expression = node Kind.Program 0 (more (string (codes "script")) (more (list (trees (node Kind.ExpressionStatement 1 (more (child (node Kind.CallExpression 2 (more (child (node Kind.IdentifierReference 3 (more (string (codes "f")) end))) (more (list (trees (node Kind.AssignmentExpression 14 (more (string (codes "=")) (more (child (node Kind.MemberExpression 15 (more (child (node Kind.Literal 6 (more (literal (literal_value.RegExp (codes "a") (codes ""))) end))) (more (child (node Kind.IdentifierName 7 (more (string (codes "b")) end))) (more (boolean false) (more (boolean false) end)))))) (more (child (node Kind.BinaryExpression 4 (more (string (codes "+")) (more (child (node Kind.MemberExpression 5 (more (child (node Kind.Literal 16 (more (literal (literal_value.RegExp (codes "a") (codes ""))) end))) (more (child (node Kind.IdentifierName 17 (more (string (codes "b")) end))) (more (boolean false) (more (boolean false) end)))))) (more (child (node Kind.Literal 8 (more (literal (literal_value.Number (codes "1"))) end))) end))))) end))) ∷ node Kind.ClassExpression 9 (more absent (more absent (more (child (node Kind.ClassBody 10 (more (list (trees (node Kind.MethodDefinition 18 (more (child (node Kind.IdentifierName 19 (more (string (codes "constructor")) end))) (more (child (node Kind.FunctionExpression 20 (more absent (more (list end) (more (child (node Kind.BlockStatement 21 (more (list (trees (node Kind.ExpressionStatement 22 (more (child (node Kind.CallExpression 23 (more (child (node Kind.MemberExpression 24 (more (child (node Kind.IdentifierReference 25 (more (string (codes "babelHelpers")) end))) (more (child (node Kind.IdentifierName 26 (more (string (codes "defineProperty")) end))) (more (boolean false) (more (boolean false) end)))))) (more (list (trees (node Kind.ThisExpression 27 end ∷ node Kind.Literal 28 (more (literal (literal_value.String (codes "x") None)) end) ∷ node Kind.Literal 13 (more (literal (literal_value.Number (codes "1"))) end) ∷ []))) (more (boolean false) end))))) (more no_string end)) ∷ []))) end))) (more (boolean false) (more (boolean false) end))))))) (more (string (codes "constructor")) (more (boolean false) (more (boolean false) end))))) ∷ []))) end))) end))) ∷ []))) (more (boolean false) end))))) (more no_string end)) ∷ []))) end))

abbrev pub generated_copied_regular_expression : List LedgerEntry
generated_copied_regular_expression = []

abbrev pub options_copied_regular_expression : Options
options_copied_regular_expression = options_of false (Some (record { loose = false })) false
