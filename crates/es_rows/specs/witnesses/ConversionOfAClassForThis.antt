-- Printed by tools/rows/witnesses.js.
use Rattle.std.specs.Prelude.{ℕ, List, [], ◌∷◌, true, false, codes, Some, None}
use Rattle.es_base.specs.Tree.{Tree, end, more, child, absent, list, string, no_string, boolean, literal, trees}
use Rattle.es_base.specs.declared.kind.Kind.{Kind}
use Rattle.es_base.specs.declared.ledger.GeneratedKind.{GeneratedKind}
use Rattle.es_base.specs.declared.ledger.LedgerEntry.{LedgerEntry}
use Rattle.es_base.specs.declared.literal.LiteralValue.TheVariants as literal_value
use Rattle.es_steps.specs.Generated.{node}
use Rattle.es_steps.specs.Options.{options_of}
use Rattle.es_steps.specs.declared.options.Options.{Options}

-- `class A { static x = this; static toString() { h(); return "a"; } m() { g({ [this]: 1 }); } }`
abbrev pub source_conversion_of_a_class_for_this : Tree
source_conversion_of_a_class_for_this = node Kind.Program 0 (more (string (codes "script")) (more (list (trees (node Kind.ClassDeclaration 1 (more (child (node Kind.BindingIdentifier 2 (more (string (codes "A")) end))) (more absent (more (child (node Kind.ClassBody 3 (more (list (trees (node Kind.PropertyDefinition 4 (more (child (node Kind.IdentifierName 5 (more (string (codes "x")) end))) (more (child (node Kind.ThisExpression 6 end)) (more (boolean false) (more (boolean true) end)))) ∷ node Kind.MethodDefinition 7 (more (child (node Kind.IdentifierName 8 (more (string (codes "toString")) end))) (more (child (node Kind.FunctionExpression 9 (more absent (more (list end) (more (child (node Kind.BlockStatement 10 (more (list (trees (node Kind.ExpressionStatement 11 (more (child (node Kind.CallExpression 12 (more (child (node Kind.IdentifierReference 13 (more (string (codes "h")) end))) (more (list end) (more (boolean false) end))))) (more no_string end)) ∷ node Kind.ReturnStatement 14 (more (child (node Kind.Literal 15 (more (literal (literal_value.String (codes "a") (Some (codes "\"a\"")))) end))) end) ∷ []))) end))) (more (boolean false) (more (boolean false) end))))))) (more (string (codes "method")) (more (boolean false) (more (boolean true) end))))) ∷ node Kind.MethodDefinition 16 (more (child (node Kind.IdentifierName 17 (more (string (codes "m")) end))) (more (child (node Kind.FunctionExpression 18 (more absent (more (list end) (more (child (node Kind.BlockStatement 19 (more (list (trees (node Kind.ExpressionStatement 20 (more (child (node Kind.CallExpression 21 (more (child (node Kind.IdentifierReference 22 (more (string (codes "g")) end))) (more (list (trees (node Kind.ObjectExpression 23 (more (list (trees (node Kind.Property 24 (more (child (node Kind.ThisExpression 25 end)) (more (child (node Kind.Literal 26 (more (literal (literal_value.Number (codes "1"))) end))) (more (string (codes "init")) (more (boolean false) (more (boolean false) (more (boolean true) end)))))) ∷ []))) end) ∷ []))) (more (boolean false) end))))) (more no_string end)) ∷ []))) end))) (more (boolean false) (more (boolean false) end))))))) (more (string (codes "method")) (more (boolean false) (more (boolean false) end))))) ∷ []))) end))) end))) ∷ []))) end))

-- a conversion of a class by its generated name, with the number of a key that is `this`, where `var _A; class A { static toString() { h(); return "a"; } m() { g({ [this]: 1 }); } } _A = A; B.defineProperty(A, "x", _A);` is right
abbrev pub output_conversion_of_a_class_for_this : Tree
output_conversion_of_a_class_for_this = node Kind.Program 0 (more (string (codes "script")) (more (list (trees (node Kind.VariableDeclaration 27 (more (string (codes "var")) (more (list (trees (node Kind.VariableDeclarator 28 (more (child (node Kind.BindingIdentifier 29 (more (string (codes "_A")) end))) (more absent end)) ∷ []))) end)) ∷ node Kind.ClassDeclaration 1 (more (child (node Kind.BindingIdentifier 2 (more (string (codes "A")) end))) (more absent (more (child (node Kind.ClassBody 3 (more (list (trees (node Kind.MethodDefinition 7 (more (child (node Kind.IdentifierName 8 (more (string (codes "toString")) end))) (more (child (node Kind.FunctionExpression 9 (more absent (more (list end) (more (child (node Kind.BlockStatement 10 (more (list (trees (node Kind.ExpressionStatement 11 (more (child (node Kind.CallExpression 12 (more (child (node Kind.IdentifierReference 13 (more (string (codes "h")) end))) (more (list end) (more (boolean false) end))))) (more no_string end)) ∷ node Kind.ReturnStatement 14 (more (child (node Kind.Literal 15 (more (literal (literal_value.String (codes "a") (Some (codes "\"a\"")))) end))) end) ∷ []))) end))) (more (boolean false) (more (boolean false) end))))))) (more (string (codes "method")) (more (boolean false) (more (boolean true) end))))) ∷ node Kind.MethodDefinition 16 (more (child (node Kind.IdentifierName 17 (more (string (codes "m")) end))) (more (child (node Kind.FunctionExpression 18 (more absent (more (list end) (more (child (node Kind.BlockStatement 19 (more (list (trees (node Kind.ExpressionStatement 20 (more (child (node Kind.CallExpression 21 (more (child (node Kind.IdentifierReference 22 (more (string (codes "g")) end))) (more (list (trees (node Kind.ObjectExpression 23 (more (list (trees (node Kind.Property 24 (more (child (node Kind.ThisExpression 30 end)) (more (child (node Kind.Literal 26 (more (literal (literal_value.Number (codes "1"))) end))) (more (string (codes "init")) (more (boolean false) (more (boolean false) (more (boolean true) end)))))) ∷ []))) end) ∷ []))) (more (boolean false) end))))) (more no_string end)) ∷ []))) end))) (more (boolean false) (more (boolean false) end))))))) (more (string (codes "method")) (more (boolean false) (more (boolean false) end))))) ∷ []))) end))) end))) ∷ node Kind.ExpressionStatement 31 (more (child (node Kind.AssignmentExpression 32 (more (string (codes "=")) (more (child (node Kind.IdentifierReference 33 (more (string (codes "_A")) end))) (more (child (node Kind.IdentifierReference 34 (more (string (codes "A")) end))) end))))) (more no_string end)) ∷ node Kind.ExpressionStatement 35 (more (child (node Kind.CallExpression 36 (more (child (node Kind.MemberExpression 37 (more (child (node Kind.IdentifierReference 38 (more (string (codes "babelHelpers")) end))) (more (child (node Kind.IdentifierName 39 (more (string (codes "defineProperty")) end))) (more (boolean false) (more (boolean false) end)))))) (more (list (trees (node Kind.IdentifierReference 40 (more (string (codes "A")) end) ∷ node Kind.Literal 41 (more (literal (literal_value.String (codes "x") None)) end) ∷ node Kind.IdentifierReference 6 (more (string (codes "_A")) end) ∷ []))) (more (boolean false) end))))) (more no_string end)) ∷ node Kind.ExpressionStatement 42 (more (child (node Kind.CallExpression 43 (more (child (node Kind.MemberExpression 44 (more (child (node Kind.IdentifierReference 45 (more (string (codes "babelHelpers")) end))) (more (child (node Kind.IdentifierName 46 (more (string (codes "toPropertyKey")) end))) (more (boolean false) (more (boolean false) end)))))) (more (list (trees (node Kind.IdentifierReference 25 (more (string (codes "_A")) end) ∷ []))) (more (boolean false) end))))) (more no_string end)) ∷ []))) end))

abbrev pub generated_conversion_of_a_class_for_this : List LedgerEntry
generated_conversion_of_a_class_for_this = record { name = codes "_A"; kind = GeneratedKind.ClassTemp (record { 0 = 1 }) } ∷ []

abbrev pub options_conversion_of_a_class_for_this : Options
options_conversion_of_a_class_for_this = options_of false (Some (record { loose = false })) false
