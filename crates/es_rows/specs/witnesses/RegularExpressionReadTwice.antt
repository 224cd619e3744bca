-- Printed by tools/rows/witnesses.js.
use Rattle.std.specs.Prelude.{ℕ, List, [], ◌∷◌, false, codes, Some, None}
use Rattle.es_base.specs.Tree.{Tree, end, more, child, absent, list, string, no_string, boolean, literal, trees}
use Rattle.es_base.specs.declared.kind.Kind.{Kind}
use Rattle.es_base.specs.declared.ledger.GeneratedKind.{GeneratedKind}
use Rattle.es_base.specs.declared.ledger.LedgerEntry.{LedgerEntry}
use Rattle.es_base.specs.declared.literal.LiteralValue.TheVariants as literal_value
use Rattle.es_steps.specs.Generated.{node}
use Rattle.es_steps.specs.Options.{options_of}
use Rattle.es_steps.specs.declared.options.Options.{Options}

-- `f(/a/, /a/, class { x = 1; });`
abbrev pub source_regular_expression_read_twice : Tree
source_regular_expression_read_twice = node Kind.Program 0 (more (string (codes "script")) (more (list (trees (node Kind.ExpressionStatement 1 (more (child (node Kind.CallExpression 2 (more (child (node Kind.IdentifierReference 3 (more (string (codes "f")) end))) (more (list (trees (node Kind.Literal 4 (more (literal (literal_value.RegExp (codes "a") (codes ""))) end) ∷ node Kind.Literal 5 (more (literal (literal_value.RegExp (codes "a") (codes ""))) end) ∷ node Kind.ClassExpression 6 (more absent (more absent (more (child (node Kind.ClassBody 7 (more (list (trees (node Kind.PropertyDefinition 8 (more (child (node Kind.IdentifierName 9 (more (string (codes "x")) end))) (more (child (node Kind.Literal 10 (more (literal (literal_value.Number (codes "1"))) end))) (more (boolean false) (more (boolean false) end)))) ∷ []))) end))) end))) ∷ []))) (more (boolean false) end))))) (more no_string end)) ∷ []))) end))

-- a regular expression that a parameter of a new arrow stands for, read twice for two of them, where `f(/a/, /a/, class { constructor() { B.defineProperty(this, "x", 1); } });` is right
abbrev pub output_regular_expression_read_twice : Tree
output_regular_expression_read_twice = node Kind.Program 0 (more (string (codes "script")) (more (list (trees (node Kind.ExpressionStatement 1 (more (child (node Kind.CallExpression 11 (more (child (node Kind.ArrowFunctionExpression 12 (more (list (trees (node Kind.BindingIdentifier 13 (more (string (codes "_p")) end) ∷ []))) (more (child (node Kind.CallExpression 2 (more (child (node Kind.IdentifierReference 3 (more (string (codes "f")) end))) (more (list (trees (node Kind.IdentifierReference 14 (more (string (codes "_p")) end) ∷ node Kind.IdentifierReference 15 (more (string (codes "_p")) end) ∷ node Kind.ClassExpression 6 (more absent (more absent (more (child (node Kind.ClassBody 7 (more (list (trees (node Kind.MethodDefinition 16 (more (child (node Kind.IdentifierName 17 (more (string (codes "constructor")) end))) (more (child (node Kind.FunctionExpression 18 (more absent (more (list end) (more (child (node Kind.BlockStatement 19 (more (list (trees (node Kind.ExpressionStatement 20 (more (child (node Kind.CallExpression 21 (more (child (node Kind.MemberExpression 22 (more (child (node Kind.IdentifierReference 23 (more (string (codes "babelHelpers")) end))) (more (child (node Kind.IdentifierName 24 (more (string (codes "defineProperty")) end))) (more (boolean false) (more (boolean false) end)))))) (more (list (trees (node Kind.ThisExpression 25 end ∷ node Kind.Literal 26 (more (literal (literal_value.String (codes "x") None)) end) ∷ node Kind.Literal 10 (more (literal (literal_value.Number (codes "1"))) end) ∷ []))) (more (boolean false) end))))) (more no_string end)) ∷ []))) end))) (more (boolean false) (more (boolean false) end))))))) (more (string (codes "constructor")) (more (boolean false) (more (boolean false) end))))) ∷ []))) end))) end))) ∷ []))) (more (boolean false) end))))) (more (boolean false) end))))) (more (list (trees (node Kind.Literal 4 (more (literal (literal_value.RegExp (codes "a") (codes ""))) end) ∷ []))) (more (boolean false) end))))) (more no_string end)) ∷ []))) end))

abbrev pub generated_regular_expression_read_twice : List LedgerEntry
generated_regular_expression_read_twice = record { name = codes "_p"; kind = GeneratedKind.Param } ∷ []

abbrev pub options_regular_expression_read_twice : Options
options_regular_expression_read_twice = options_of false (Some (record { loose = false })) false
