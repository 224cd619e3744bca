-- Printed by tools/rows/witnesses.js.
use Rattle.std.specs.Prelude.{ℕ, List, [], ◌∷◌, true, false, codes, None}
use Rattle.es_base.specs.Tree.{Tree, end, more, child, absent, list, string, no_string, boolean, literal, trees}
use Rattle.es_base.specs.declared.kind.Kind.{Kind}
use Rattle.es_base.specs.declared.ledger.GeneratedKind.{GeneratedKind}
use Rattle.es_base.specs.declared.ledger.LedgerEntry.{LedgerEntry}
use Rattle.es_base.specs.declared.literal.LiteralValue.TheVariants as literal_value
use Rattle.es_steps.specs.Generated.{node}
use Rattle.es_steps.specs.Options.{options_of}
use Rattle.es_steps.specs.declared.options.Options.{Options}

-- `let x, y; class A { static { f(1); } m() { g({ [x = h()]: 1 }); } n() { y = h(); } }`
abbrev pub source_conversion_of_another_assignment : Tree
source_conversion_of_another_assignment = node Kind.Program 0 (more (string (codes "script")) (more (list (trees (node Kind.VariableDeclaration 1 (more (string (codes "let")) (more (list (trees (node Kind.VariableDeclarator 2 (more (child (node Kind.BindingIdentifier 3 (more (string (codes "x")) end))) (more absent end)) ∷ node Kind.VariableDeclarator 4 (more (child (node Kind.BindingIdentifier 5 (more (string (codes "y")) end))) (more absent end)) ∷ []))) end)) ∷ node Kind.ClassDeclaration 6 (more (child (node Kind.BindingIdentifier 7 (more (string (codes "A")) end))) (more absent (more (child (node Kind.ClassBody 8 (more (list (trees (node Kind.StaticBlock 9 (more (list (trees (node Kind.ExpressionStatement 10 (more (child (node Kind.CallExpression 11 (more (child (node Kind.IdentifierReference 12 (more (string (codes "f")) end))) (more (list (trees (node Kind.Literal 13 (more (literal (literal_value.Number (codes "1"))) end) ∷ []))) (more (boolean false) end))))) (more no_string end)) ∷ []))) end) ∷ node Kind.MethodDefinition 14 (more (child (node Kind.IdentifierName 15 (more (string (codes "m")) end))) (more (child (node Kind.FunctionExpression 16 (more absent (more (list end) (more (child (node Kind.BlockStatement 17 (more (list (trees (node Kind.ExpressionStatement 18 (more (child (node Kind.CallExpression 19 (more (child (node Kind.IdentifierReference 20 (more (string (codes "g")) end))) (more (list (trees (node Kind.ObjectExpression 21 (more (list (trees (node Kind.Property 22 (more (child (node Kind.AssignmentExpression 23 (more (string (codes "=")) (more (child (node Kind.IdentifierReference 24 (more (string (codes "x")) end))) (more (child (node Kind.CallExpression 25 (more (child (node Kind.IdentifierReference 26 (more (string (codes "h")) end))) (more (list end) (more (boolean false) end))))) end))))) (more (child (node Kind.Literal 27 (more (literal (literal_value.Number (codes "1"))) end))) (more (string (codes "init")) (more (boolean false) (more (boolean false) (more (boolean true) end)))))) ∷ []))) end) ∷ []))) (more (boolean false) end))))) (more no_string end)) ∷ []))) end))) (more (boolean false) (more (boolean false) end))))))) (more (string (codes "method")) (more (boolean false) (more (boolean false) end))))) ∷ node Kind.MethodDefinition 28 (more (child (node Kind.IdentifierName 29 (more (string (codes "n")) end))) (more (child (node Kind.FunctionExpression 30 (more absent (more (list end) (more (child (node Kind.BlockStatement 31 (more (list (trees (node Kind.ExpressionStatement 32 (more (child (node Kind.AssignmentExpression 33 (more (string (codes "=")) (more (child (node Kind.IdentifierReference 34 (more (string (codes "y")) end))) (more (child (node Kind.CallExpression 35 (more (child (node Kind.IdentifierReference 36 (more (string (codes "h")) end))) (more (list end) (more (boolean false) end))))) end))))) (more no_string end)) ∷ []))) end))) (more (boolean false) (more (boolean false) end))))))) (more (string (codes "method")) (more (boolean false) (more (boolean false) end))))) ∷ []))) end))) end))) ∷ []))) end))

-- a conversion of another assignment, with the number of a key that is one: `let x, y; class A { static #_ = f(1); m() { g({ [x = h()]: 1 }); } n() { B.toPropertyKey(y = h()); } }`
abbrev pub output_conversion_of_another_assignment : Tree
output_conversion_of_another_assignment = node Kind.Program 0 (more (string (codes "script")) (more (list (trees (node Kind.VariableDeclaration 1 (more (string (codes "let")) (more (list (trees (node Kind.VariableDeclarator 2 (more (child (node Kind.BindingIdentifier 3 (more (string (codes "x")) end))) (more absent end)) ∷ node Kind.VariableDeclarator 4 (more (child (node Kind.BindingIdentifier 5 (more (string (codes "y")) end))) (more absent end)) ∷ []))) end)) ∷ node Kind.ClassDeclaration 6 (more (child (node Kind.BindingIdentifier 7 (more (string (codes "A")) end))) (more absent (more (child (node Kind.ClassBody 8 (more (list (trees (node Kind.PropertyDefinition 37 (more (child (node Kind.PrivateIdentifier 38 (more (string (codes "_")) end))) (more (child (node Kind.CallExpression 11 (more (child (node Kind.IdentifierReference 12 (more (string (codes "f")) end))) (more (list (trees (node Kind.Literal 13 (more (literal (literal_value.Number (codes "1"))) end) ∷ []))) (more (boolean false) end))))) (more (boolean false) (more (boolean true) end)))) ∷ node Kind.MethodDefinition 14 (more (child (node Kind.IdentifierName 15 (more (string (codes "m")) end))) (more (child (node Kind.FunctionExpression 16 (more absent (more (list end) (more (child (node Kind.BlockStatement 17 (more (list (trees (node Kind.ExpressionStatement 18 (more (child (node Kind.CallExpression 19 (more (child (node Kind.IdentifierReference 20 (more (string (codes "g")) end))) (more (list (trees (node Kind.ObjectExpression 21 (more (list (trees (node Kind.Property 22 (more (child (node Kind.AssignmentExpression 33 (more (string (codes "=")) (more (child (node Kind.IdentifierReference 24 (more (string (codes "x")) end))) (more (child (node Kind.CallExpression 25 (more (child (node Kind.IdentifierReference 26 (more (string (codes "h")) end))) (more (list end) (more (boolean false) end))))) end))))) (more (child (node Kind.Literal 27 (more (literal (literal_value.Number (codes "1"))) end))) (more (string (codes "init")) (more (boolean false) (more (boolean false) (more (boolean true) end)))))) ∷ []))) end) ∷ []))) (more (boolean false) end))))) (more no_string end)) ∷ []))) end))) (more (boolean false) (more (boolean false) end))))))) (more (string (codes "method")) (more (boolean false) (more (boolean false) end))))) ∷ node Kind.MethodDefinition 28 (more (child (node Kind.IdentifierName 29 (more (string (codes "n")) end))) (more (child (node Kind.FunctionExpression 30 (more absent (more (list end) (more (child (node Kind.BlockStatement 31 (more (list (trees (node Kind.ExpressionStatement 32 (more (child (node Kind.CallExpression 39 (more (child (node Kind.MemberExpression 40 (more (child (node Kind.IdentifierReference 41 (more (string (codes "babelHelpers")) end))) (more (child (node Kind.IdentifierName 42 (more (string (codes "toPropertyKey")) end))) (more (boolean false) (more (boolean false) end)))))) (more (list (trees (node Kind.AssignmentExpression 23 (more (string (codes "=")) (more (child (node Kind.IdentifierReference 34 (more (string (codes "y")) end))) (more (child (node Kind.CallExpression 35 (more (child (node Kind.IdentifierReference 36 (more (string (codes "h")) end))) (more (list end) (more (boolean false) end))))) end))) ∷ []))) (more (boolean false) end))))) (more no_string end)) ∷ []))) end))) (more (boolean false) (more (boolean false) end))))))) (more (string (codes "method")) (more (boolean false) (more (boolean false) end))))) ∷ []))) end))) end))) ∷ []))) end))

abbrev pub generated_conversion_of_another_assignment : List LedgerEntry
generated_conversion_of_another_assignment = record { name = codes "_"; kind = GeneratedKind.Private (record { 0 = 6 }) } ∷ []

abbrev pub options_conversion_of_another_assignment : Options
options_conversion_of_another_assignment = options_of true None false
