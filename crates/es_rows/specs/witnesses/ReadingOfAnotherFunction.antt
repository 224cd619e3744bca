-- Printed by tools/rows/witnesses.js.
use Rattle.std.specs.Prelude.{ℕ, List, [], ◌∷◌, false, codes, Some, None}
use Rattle.es_base.specs.Tree.{Tree, end, more, child, absent, list, string, no_string, boolean, literal, trees}
use Rattle.es_base.specs.declared.kind.Kind.{Kind}
use Rattle.es_base.specs.declared.ledger.LedgerEntry.{LedgerEntry}
use Rattle.es_base.specs.declared.literal.LiteralValue.TheVariants as literal_value
use Rattle.es_steps.specs.Generated.{node}
use Rattle.es_steps.specs.Options.{options_of}
use Rattle.es_steps.specs.declared.options.Options.{Options}

-- `function z() { h(g); } function m() { class A { x = 1; } return A; } m(); let g = f();`
abbrev pub source_reading_of_another_function : Tree
source_reading_of_another_function = node Kind.Program 0 (more (string (codes "script")) (more (list (trees (node Kind.FunctionDeclaration 1 (more (child (node Kind.BindingIdentifier 2 (more (string (codes "z")) end))) (more (list end) (more (child (node Kind.BlockStatement 3 (more (list (trees (node Kind.ExpressionStatement 4 (more (child (node Kind.CallExpression 5 (more (child (node Kind.IdentifierReference 6 (more (string (codes "h")) end))) (more (list (trees (node Kind.IdentifierReference 7 (more (string (codes "g")) end) ∷ []))) (more (boolean false) end))))) (more no_string end)) ∷ []))) end))) (more (boolean false) (more (boolean false) end))))) ∷ node Kind.FunctionDeclaration 8 (more (child (node Kind.BindingIdentifier 9 (more (string (codes "m")) end))) (more (list end) (more (child (node Kind.BlockStatement 10 (more (list (trees (node Kind.ClassDeclaration 11 (more (child (node Kind.BindingIdentifier 12 (more (string (codes "A")) end))) (more absent (more (child (node Kind.ClassBody 13 (more (list (trees (node Kind.PropertyDefinition 14 (more (child (node Kind.IdentifierName 15 (more (string (codes "x")) end))) (more (child (node Kind.Literal 16 (more (literal (literal_value.Number (codes "1"))) end))) (more (boolean false) (more (boolean false) end)))) ∷ []))) end))) end))) ∷ node Kind.ReturnStatement 17 (more (child (node Kind.IdentifierReference 18 (more (string (codes "A")) end))) end) ∷ []))) end))) (more (boolean false) (more (boolean false) end))))) ∷ node Kind.ExpressionStatement 19 (more (child (node Kind.CallExpression 20 (more (child (node Kind.IdentifierReference 21 (more (string (codes "m")) end))) (more (list end) (more (boolean false) end))))) (more no_string end)) ∷ node Kind.VariableDeclaration 22 (more (string (codes "let")) (more (list (trees (node Kind.VariableDeclarator 23 (more (child (node Kind.BindingIdentifier 24 (more (string (codes "g")) end))) (more (child (node Kind.CallExpression 25 (more (child (node Kind.IdentifierReference 26 (more (string (codes "f")) end))) (more (list end) (more (boolean false) end))))) end)) ∷ []))) end)) ∷ []))) end))

-- a name is read anew where another function reads it: `function z() { h(g); } function m() { g; class A { constructor() { B.defineProperty(this, "x", 1); } } return A; } m(); let g = f();`
abbrev pub output_reading_of_another_function : Tree
output_reading_of_another_function = node Kind.Program 0 (more (string (codes "script")) (more (list (trees (node Kind.FunctionDeclaration 1 (more (child (node Kind.BindingIdentifier 2 (more (string (codes "z")) end))) (more (list end) (more (child (node Kind.BlockStatement 3 (more (list (trees (node Kind.ExpressionStatement 4 (more (child (node Kind.CallExpression 5 (more (child (node Kind.IdentifierReference 6 (more (string (codes "h")) end))) (more (list (trees (node Kind.IdentifierReference 7 (more (string (codes "g")) end) ∷ []))) (more (boolean false) end))))) (more no_string end)) ∷ []))) end))) (more (boolean false) (more (boolean false) end))))) ∷ node Kind.FunctionDeclaration 8 (more (child (node Kind.BindingIdentifier 9 (more (string (codes "m")) end))) (more (list end) (more (child (node Kind.BlockStatement 10 (more (list (trees (node Kind.ExpressionStatement 27 (more (child (node Kind.IdentifierReference 28 (more (string (codes "g")) end))) (more no_string end)) ∷ node Kind.ClassDeclaration 11 (more (child (node Kind.BindingIdentifier 12 (more (string (codes "A")) end))) (more absent (more (child (node Kind.ClassBody 13 (more (list (trees (node Kind.MethodDefinition 29 (more (child (node Kind.IdentifierName 30 (more (string (codes "constructor")) end))) (more (child (node Kind.FunctionExpression 31 (more absent (more (list end) (more (child (node Kind.BlockStatement 32 (more (list (trees (node Kind.ExpressionStatement 33 (more (child (node Kind.CallExpression 34 (more (child (node Kind.MemberExpression 35 (more (child (node Kind.IdentifierReference 36 (more (string (codes "babelHelpers")) end))) (more (child (node Kind.IdentifierName 37 (more (string (codes "defineProperty")) end))) (more (boolean false) (more (boolean false) end)))))) (more (list (trees (node Kind.ThisExpression 38 end ∷ node Kind.Literal 39 (more (literal (literal_value.String (codes "x") None)) end) ∷ node Kind.Literal 16 (more (literal (literal_value.Number (codes "1"))) end) ∷ []))) (more (boolean false) end))))) (more no_string end)) ∷ []))) end))) (more (boolean false) (more (boolean false) end))))))) (more (string (codes "constructor")) (more (boolean false) (more (boolean false) end))))) ∷ []))) end))) end))) ∷ node Kind.ReturnStatement 17 (more (child (node Kind.IdentifierReference 18 (more (string (codes "A")) end))) end) ∷ []))) end))) (more (boolean false) (more (boolean false) end))))) ∷ node Kind.ExpressionStatement 19 (more (child (node Kind.CallExpression 20 (more (child (node Kind.IdentifierReference 21 (more (string (codes "m")) end))) (more (list end) (more (boolean false) end))))) (more no_string end)) ∷ node Kind.VariableDeclaration 22 (more (string (codes "let")) (more (list (trees (node Kind.VariableDeclarator 23 (more (child (node Kind.BindingIdentifier 24 (more (string (codes "g")) end))) (more (child (node Kind.CallExpression 25 (more (child (node Kind.IdentifierReference 26 (more (string (codes "f")) end))) (more (list end) (more (boolean false) end))))) end)) ∷ []))) end)) ∷ []))) end))

abbrev pub generated_reading_of_another_function : List LedgerEntry
generated_reading_of_another_function = []

abbrev pub options_reading_of_another_function : Options
options_reading_of_another_function = options_of false (Some (record { loose = false })) false
