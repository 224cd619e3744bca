-- Printed by tools/rows/witnesses.js.
use Rattle.std.specs.Prelude.{ℕ, List, [], ◌∷◌, false, codes, Some, None}
use Rattle.es_base.specs.Tree.{Tree, end, more, child, absent, list, string, no_string, boolean, literal, trees}
use Rattle.es_base.specs.declared.kind.Kind.{Kind}
use Rattle.es_base.specs.declared.ledger.GeneratedKind.{GeneratedKind}
use Rattle.es_base.specs.declared.ledger.LedgerEntry.{LedgerEntry}
use Rattle.es_base.specs.declared.literal.LiteralValue.TheVariants as literal_value
use Rattle.es_steps.specs.Generated.{node}
use Rattle.es_steps.specs.Options.{options_of}
use Rattle.es_steps.specs.declared.options.Options.{Options}

-- ` class D { x = 1; m() { h(() => y); var y = g(); } }`
abbrev pub source_parameter_read_later : Tree
source_parameter_read_later = node Kind.Program 0 (more (string (codes "script")) (more (list (trees (node Kind.ClassDeclaration 1 (more (child (node Kind.BindingIdentifier 2 (more (string (codes "D")) end))) (more absent (more (child (node Kind.ClassBody 3 (more (list (trees (node Kind.PropertyDefinition 4 (more (child (node Kind.IdentifierName 5 (more (string (codes "x")) end))) (more (child (node Kind.Literal 6 (more (literal (literal_value.Number (codes "1"))) end))) (more (boolean false) (more (boolean false) end)))) ∷ node Kind.MethodDefinition 7 (more (child (node Kind.IdentifierName 8 (more (string (codes "m")) end))) (more (child (node Kind.FunctionExpression 9 (more absent (more (list end) (more (child (node Kind.BlockStatement 10 (more (list (trees (node Kind.ExpressionStatement 11 (more (child (node Kind.CallExpression 12 (more (child (node Kind.IdentifierReference 13 (more (string (codes "h")) end))) (more (list (trees (node Kind.ArrowFunctionExpression 14 (more (list end) (more (child (node Kind.IdentifierReference 15 (more (string (codes "y")) end))) (more (boolean false) end))) ∷ []))) (more (boolean false) end))))) (more no_string end)) ∷ node Kind.VariableDeclaration 16 (more (string (codes "var")) (more (list (trees (node Kind.VariableDeclarator 17 (more (child (node Kind.BindingIdentifier 18 (more (string (codes "y")) end))) (more (child (node Kind.CallExpression 19 (more (child (node Kind.IdentifierReference 20 (more (string (codes "g")) end))) (more (list end) (more (boolean false) end))))) end)) ∷ []))) end)) ∷ []))) end))) (more (boolean false) (more (boolean false) end))))))) (more (string (codes "method")) (more (boolean false) (more (boolean false) end))))) ∷ []))) end))) end))) ∷ []))) end))

-- a parameter of a new arrow read when its call is over, where ` class D { constructor() { B.defineProperty(this, "x", 1); } m() { h(() => y); var y = g(); } }` is right
abbrev pub output_parameter_read_later : Tree
output_parameter_read_later = node Kind.Program 0 (more (string (codes "script")) (more (list (trees (node Kind.ClassDeclaration 1 (more (child (node Kind.BindingIdentifier 2 (more (string (codes "D")) end))) (more absent (more (child (node Kind.ClassBody 3 (more (list (trees (node Kind.MethodDefinition 21 (more (child (node Kind.IdentifierName 22 (more (string (codes "constructor")) end))) (more (child (node Kind.FunctionExpression 23 (more absent (more (list end) (more (child (node Kind.BlockStatement 24 (more (list (trees (node Kind.ExpressionStatement 25 (more (child (node Kind.CallExpression 26 (more (child (node Kind.MemberExpression 27 (more (child (node Kind.IdentifierReference 28 (more (string (codes "babelHelpers")) end))) (more (child (node Kind.IdentifierName 29 (more (string (codes "defineProperty")) end))) (more (boolean false) (more (boolean false) end)))))) (more (list (trees (node Kind.ThisExpression 30 end ∷ node Kind.Literal 31 (more (literal (literal_value.String (codes "x") None)) end) ∷ node Kind.Literal 6 (more (literal (literal_value.Number (codes "1"))) end) ∷ []))) (more (boolean false) end))))) (more no_string end)) ∷ []))) end))) (more (boolean false) (more (boolean false) end))))))) (more (string (codes "constructor")) (more (boolean false) (more (boolean false) end))))) ∷ node Kind.MethodDefinition 7 (more (child (node Kind.IdentifierName 8 (more (string (codes "m")) end))) (more (child (node Kind.FunctionExpression 9 (more absent (more (list end) (more (child (node Kind.BlockStatement 10 (more (list (trees (node Kind.ExpressionStatement 11 (more (child (node Kind.CallExpression 32 (more (child (node Kind.ArrowFunctionExpression 33 (more (list (trees (node Kind.BindingIdentifier 34 (more (string (codes "_p")) end) ∷ []))) (more (child (node Kind.CallExpression 12 (more (child (node Kind.IdentifierReference 13 (more (string (codes "h")) end))) (more (list (trees (node Kind.ArrowFunctionExpression 14 (more (list end) (more (child (node Kind.IdentifierReference 35 (more (string (codes "_p")) end))) (more (boolean false) end))) ∷ []))) (more (boolean false) end))))) (more (boolean false) end))))) (more (list (trees (node Kind.IdentifierReference 15 (more (string (codes "y")) end) ∷ []))) (more (boolean false) end))))) (more no_string end)) ∷ node Kind.VariableDeclaration 16 (more (string (codes "var")) (more (list (trees (node Kind.VariableDeclarator 17 (more (child (node Kind.BindingIdentifier 18 (more (string (codes "y")) end))) (more (child (node Kind.CallExpression 19 (more (child (node Kind.IdentifierReference 20 (more (string (codes "g")) end))) (more (list end) (more (boolean false) end))))) end)) ∷ []))) end)) ∷ []))) end))) (more (boolean false) (more (boolean false) end))))))) (more (string (codes "method")) (more (boolean false) (more (boolean false) end))))) ∷ []))) end))) end))) ∷ []))) end))

abbrev pub generated_parameter_read_later : List LedgerEntry
generated_parameter_read_later = record { name = codes "_p"; kind = GeneratedKind.Param } ∷ []

abbrev pub options_parameter_read_later : Options
options_parameter_read_later = options_of false (Some (record { loose = false })) false
