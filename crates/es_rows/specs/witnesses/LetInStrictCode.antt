-- Printed by tools/rows/witnesses.js.
use Rattle.std.specs.Prelude.{ℕ, List, [], ◌∷◌, false, codes, Some, None}
use Rattle.es_base.specs.Tree.{Tree, end, more, child, absent, list, string, no_string, boolean, literal, trees}
use Rattle.es_base.specs.declared.kind.Kind.{Kind}
use Rattle.es_base.specs.declared.ledger.LedgerEntry.{LedgerEntry}
use Rattle.es_base.specs.declared.literal.LiteralValue.TheVariants as literal_value
use Rattle.es_steps.specs.Generated.{node}
use Rattle.es_steps.specs.Options.{options_of}
use Rattle.es_steps.specs.declared.options.Options.{Options}

-- `var let = 1; class A { x = 1; m() { return 1; } }`
abbrev pub source_let_in_strict_code : Tree
source_let_in_strict_code = node Kind.Program 0 (more (string (codes "script")) (more (list (trees (node Kind.VariableDeclaration 1 (more (string (codes "var")) (more (list (trees (node Kind.VariableDeclarator 2 (more (child (node Kind.BindingIdentifier 3 (more (string (codes "let")) end))) (more (child (node Kind.Literal 4 (more (literal (literal_value.Number (codes "1"))) end))) end)) ∷ []))) end)) ∷ node Kind.ClassDeclaration 5 (more (child (node Kind.BindingIdentifier 6 (more (string (codes "A")) end))) (more absent (more (child (node Kind.ClassBody 7 (more (list (trees (node Kind.PropertyDefinition 8 (more (child (node Kind.IdentifierName 9 (more (string (codes "x")) end))) (more (child (node Kind.Literal 10 (more (literal (literal_value.Number (codes "1"))) end))) (more (boolean false) (more (boolean false) end)))) ∷ node Kind.MethodDefinition 11 (more (child (node Kind.IdentifierName 12 (more (string (codes "m")) end))) (more (child (node Kind.FunctionExpression 13 (more absent (more (list end) (more (child (node Kind.BlockStatement 14 (more (list (trees (node Kind.ReturnStatement 15 (more (child (node Kind.Literal 16 (more (literal (literal_value.Number (codes "1"))) end))) end) ∷ []))) end))) (more (boolean false) (more (boolean false) end))))))) (more (string (codes "method")) (more (boolean false) (more (boolean false) end))))) ∷ []))) end))) end))) ∷ []))) end))

-- a new name `let` in a method, where `var let = 1; class A { constructor() { B.defineProperty(this, "x", 1); } m() { return 1; } }` is right
abbrev pub output_let_in_strict_code : Tree
output_let_in_strict_code = node Kind.Program 0 (more (string (codes "script")) (more (list (trees (node Kind.VariableDeclaration 1 (more (string (codes "var")) (more (list (trees (node Kind.VariableDeclarator 2 (more (child (node Kind.BindingIdentifier 3 (more (string (codes "let")) end))) (more (child (node Kind.Literal 4 (more (literal (literal_value.Number (codes "1"))) end))) end)) ∷ []))) end)) ∷ node Kind.ClassDeclaration 5 (more (child (node Kind.BindingIdentifier 6 (more (string (codes "A")) end))) (more absent (more (child (node Kind.ClassBody 7 (more (list (trees (node Kind.MethodDefinition 17 (more (child (node Kind.IdentifierName 18 (more (string (codes "constructor")) end))) (more (child (node Kind.FunctionExpression 19 (more absent (more (list end) (more (child (node Kind.BlockStatement 20 (more (list (trees (node Kind.ExpressionStatement 21 (more (child (node Kind.CallExpression 22 (more (child (node Kind.MemberExpression 23 (more (child (node Kind.IdentifierReference 24 (more (string (codes "babelHelpers")) end))) (more (child (node Kind.IdentifierName 25 (more (string (codes "defineProperty")) end))) (more (boolean false) (more (boolean false) end)))))) (more (list (trees (node Kind.ThisExpression 26 end ∷ node Kind.Literal 27 (more (literal (literal_value.String (codes "x") None)) end) ∷ node Kind.Literal 10 (more (literal (literal_value.Number (codes "1"))) end) ∷ []))) (more (boolean false) end))))) (more no_string end)) ∷ []))) end))) (more (boolean false) (more (boolean false) end))))))) (more (string (codes "constructor")) (more (boolean false) (more (boolean false) end))))) ∷ node Kind.MethodDefinition 11 (more (child (node Kind.IdentifierName 12 (more (string (codes "m")) end))) (more (child (node Kind.FunctionExpression 13 (more absent (more (list end) (more (child (node Kind.BlockStatement 14 (more (list (trees (node Kind.ExpressionStatement 28 (more (child (node Kind.IdentifierReference 29 (more (string (codes "let")) end))) (more no_string end)) ∷ node Kind.ReturnStatement 15 (more (child (node Kind.Literal 16 (more (literal (literal_value.Number (codes "1"))) end))) end) ∷ []))) end))) (more (boolean false) (more (boolean false) end))))))) (more (string (codes "method")) (more (boolean false) (more (boolean false) end))))) ∷ []))) end))) end))) ∷ []))) end))

abbrev pub generated_let_in_strict_code : List LedgerEntry
generated_let_in_strict_code = []

abbrev pub options_let_in_strict_code : Options
options_let_in_strict_code = options_of false (Some (record { loose = false })) false
