-- Printed by tools/rows/witnesses.js.
use Rattle.std.specs.Prelude.{ℕ, List, [], ◌∷◌, false, codes, Some, None}
use Rattle.es_base.specs.Tree.{Tree, end, more, child, absent, list, string, no_string, boolean, literal, trees}
use Rattle.es_base.specs.declared.kind.Kind.{Kind}
use Rattle.es_base.specs.declared.ledger.GeneratedKind.{GeneratedKind}
use Rattle.es_base.specs.declared.ledger.LedgerEntry.{LedgerEntry}
use Rattle.es_base.specs.declared.literal.LiteralValue.TheVariants as literal_value
use Rattle.es_steps.specs.Generated.{node}
use Rattle.es_steps.specs.Options.{options_of}
use Rattle.es_steps.specs.declared.options.Options.{Options}

-- ` class D { x = 1; m(s) { return h(/a/g, s); } }`
abbrev pub source_regular_expression_in_a_temporary : Tree
source_regular_expression_in_a_temporary = node Kind.Program 0 (more (string (codes "script")) (more (list (trees (node Kind.ClassDeclaration 1 (more (child (node Kind.BindingIdentifier 2 (more (string (codes "D")) end))) (more absent (more (child (node Kind.ClassBody 3 (more (list (trees (node Kind.PropertyDefinition 4 (more (child (node Kind.IdentifierName 5 (more (string (codes "x")) end))) (more (child (node Kind.Literal 6 (more (literal (literal_value.Number (codes "1"))) end))) (more (boolean false) (more (boolean false) end)))) ∷ node Kind.MethodDefinition 7 (more (child (node Kind.IdentifierName 8 (more (string (codes "m")) end))) (more (child (node Kind.FunctionExpression 9 (more absent (more (list (trees (node Kind.BindingIdentifier 10 (more (string (codes "s")) end) ∷ []))) (more (child (node Kind.BlockStatement 11 (more (list (trees (node Kind.ReturnStatement 12 (more (child (node Kind.CallExpression 13 (more (child (node Kind.IdentifierReference 14 (more (string (codes "h")) end))) (more (list (trees (node Kind.Literal 15 (more (literal (literal_value.RegExp (codes "a") (codes "g"))) end) ∷ node Kind.IdentifierReference 16 (more (string (codes "s")) end) ∷ []))) (more (boolean false) end))))) end) ∷ []))) end))) (more (boolean false) (more (boolean false) end))))))) (more (string (codes "method")) (more (boolean false) (more (boolean false) end))))) ∷ []))) end))) end))) ∷ []))) end))

-- a regular expression made once and kept, where ` class D { constructor() { B.defineProperty(this, "x", 1); } m(s) { return h(/a/g, s); } }` is right
abbrev pub output_regular_expression_in_a_temporary : Tree
output_regular_expression_in_a_temporary = node Kind.Program 0 (more (string (codes "script")) (more (list (trees (node Kind.VariableDeclaration 17 (more (string (codes "var")) (more (list (trees (node Kind.VariableDeclarator 18 (more (child (node Kind.BindingIdentifier 19 (more (string (codes "_t")) end))) (more absent end)) ∷ []))) end)) ∷ node Kind.ExpressionStatement 20 (more (child (node Kind.AssignmentExpression 21 (more (string (codes "=")) (more (child (node Kind.IdentifierReference 22 (more (string (codes "_t")) end))) (more (child (node Kind.Literal 15 (more (literal (literal_value.RegExp (codes "a") (codes "g"))) end))) end))))) (more no_string end)) ∷ node Kind.ClassDeclaration 1 (more (child (node Kind.BindingIdentifier 2 (more (string (codes "D")) end))) (more absent (more (child (node Kind.ClassBody 3 (more (list (trees (node Kind.MethodDefinition 23 (more (child (node Kind.IdentifierName 24 (more (string (codes "constructor")) end))) (more (child (node Kind.FunctionExpression 25 (more absent (more (list end) (more (child (node Kind.BlockStatement 26 (more (list (trees (node Kind.ExpressionStatement 27 (more (child (node Kind.CallExpression 28 (more (child (node Kind.MemberExpression 29 (more (child (node Kind.IdentifierReference 30 (more (string (codes "babelHelpers")) end))) (more (child (node Kind.IdentifierName 31 (more (string (codes "defineProperty")) end))) (more (boolean false) (more (boolean false) end)))))) (more (list (trees (node Kind.ThisExpression 32 end ∷ node Kind.Literal 33 (more (literal (literal_value.String (codes "x") None)) end) ∷ node Kind.Literal 6 (more (literal (literal_value.Number (codes "1"))) end) ∷ []))) (more (boolean false) end))))) (more no_string end)) ∷ []))) end))) (more (boolean false) (more (boolean false) end))))))) (more (string (codes "constructor")) (more (boolean false) (more (boolean false) end))))) ∷ node Kind.MethodDefinition 7 (more (child (node Kind.IdentifierName 8 (more (string (codes "m")) end))) (more (child (node Kind.FunctionExpression 9 (more absent (more (list (trees (node Kind.BindingIdentifier 10 (more (string (codes "s")) end) ∷ []))) (more (child (node Kind.BlockStatement 11 (more (list (trees (node Kind.ReturnStatement 12 (more (child (node Kind.CallExpression 13 (more (child (node Kind.IdentifierReference 14 (more (string (codes "h")) end))) (more (list (trees (node Kind.IdentifierReference 34 (more (string (codes "_t")) end) ∷ node Kind.IdentifierReference 16 (more (string (codes "s")) end) ∷ []))) (more (boolean false) end))))) end) ∷ []))) end))) (more (boolean false) (more (boolean false) end))))))) (more (string (codes "method")) (more (boolean false) (more (boolean false) end))))) ∷ []))) end))) end))) ∷ []))) end))

abbrev pub generated_regular_expression_in_a_temporary : List LedgerEntry
generated_regular_expression_in_a_temporary = record { name = codes "_t"; kind = GeneratedKind.Temp } ∷ []

abbrev pub options_regular_expression_in_a_temporary : Options
options_regular_expression_in_a_temporary = options_of false (Some (record { loose = false })) false
