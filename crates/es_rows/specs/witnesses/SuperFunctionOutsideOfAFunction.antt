-- Printed by tools/rows/witnesses.js.
use Rattle.std.specs.Prelude.{ℕ, List, [], ◌∷◌, false, codes, Some, None}
use Rattle.es_base.specs.Tree.{Tree, end, more, child, absent, list, string, no_string, boolean, literal, trees}
use Rattle.es_base.specs.declared.kind.Kind.{Kind}
use Rattle.es_base.specs.declared.ledger.GeneratedKind.{GeneratedKind}
use Rattle.es_base.specs.declared.ledger.LedgerEntry.{LedgerEntry}
use Rattle.es_base.specs.declared.literal.LiteralValue.TheVariants as literal_value
use Rattle.es_steps.specs.Generated.{node}
use Rattle.es_steps.specs.Options.{options_of}
use Rattle.es_steps.specs.declared.options.Options.{Options}

-- `const g = function () { { function f() {} } class A extends P { x = f; constructor(a = super()) {} } h(new A().x); }; g();`
abbrev pub source_super_function_outside_of_a_function : Tree
source_super_function_outside_of_a_function = node Kind.Program 0 (more (string (codes "script")) (more (list (trees (node Kind.VariableDeclaration 1 (more (string (codes "const")) (more (list (trees (node Kind.VariableDeclarator 2 (more (child (node Kind.BindingIdentifier 3 (more (string (codes "g")) end))) (more (child (node Kind.FunctionExpression 4 (more absent (more (list end) (more (child (node Kind.BlockStatement 5 (more (list (trees (node Kind.BlockStatement 6 (more (list (trees (node Kind.FunctionDeclaration 7 (more (child (node Kind.BindingIdentifier 8 (more (string (codes "f")) end))) (more (list end) (more (child (node Kind.BlockStatement 9 (more (list end) end))) (more (boolean false) (more (boolean false) end))))) ∷ []))) end) ∷ node Kind.ClassDeclaration 10 (more (child (node Kind.BindingIdentifier 11 (more (string (codes "A")) end))) (more (child (node Kind.IdentifierReference 12 (more (string (codes "P")) end))) (more (child (node Kind.ClassBody 13 (more (list (trees (node Kind.PropertyDefinition 14 (more (child (node Kind.IdentifierName 15 (more (string (codes "x")) end))) (more (child (node Kind.IdentifierReference 16 (more (string (codes "f")) end))) (more (boolean false) (more (boolean false) end)))) ∷ node Kind.MethodDefinition 17 (more (child (node Kind.IdentifierName 18 (more (string (codes "constructor")) end))) (more (child (node Kind.FunctionExpression 19 (more absent (more (list (trees (node Kind.AssignmentPattern 20 (more (child (node Kind.BindingIdentifier 21 (more (string (codes "a")) end))) (more (child (node Kind.CallExpression 22 (more (child (node Kind.Super 23 end)) (more (list end) (more (boolean false) end))))) end)) ∷ []))) (more (child (node Kind.BlockStatement 24 (more (list end) end))) (more (boolean false) (more (boolean false) end))))))) (more (string (codes "constructor")) (more (boolean false) (more (boolean false) end))))) ∷ []))) end))) end))) ∷ node Kind.ExpressionStatement 25 (more (child (node Kind.CallExpression 26 (more (child (node Kind.IdentifierReference 27 (more (string (codes "h")) end))) (more (list (trees (node Kind.MemberExpression 28 (more (child (node Kind.NewExpression 29 (more (child (node Kind.IdentifierReference 30 (more (string (codes "A")) end))) (more (list end) end)))) (more (child (node Kind.IdentifierName 31 (more (string (codes "x")) end))) (more (boolean false) (more (boolean false) end)))) ∷ []))) (more (boolean false) end))))) (more no_string end)) ∷ []))) end))) (more (boolean false) (more (boolean false) end))))))) end)) ∷ []))) end)) ∷ node Kind.ExpressionStatement 32 (more (child (node Kind.CallExpression 33 (more (child (node Kind.IdentifierReference 34 (more (string (codes "g")) end))) (more (list end) (more (boolean false) end))))) (more no_string end)) ∷ []))) end))

-- what stands for `super(..)` outside of a function whose function in a block it reads: `var _super = function () { "use strict"; B.defineProperty(this, "x", f); return this; }; const g = function () { { function f() {} } class A extends P { constructor(a = _super.call(super())) {} } h(new A().x); }; g();`
abbrev pub output_super_function_outside_of_a_function : Tree
output_super_function_outside_of_a_function = node Kind.Program 0 (more (string (codes "script")) (more (list (trees (node Kind.VariableDeclaration 35 (more (string (codes "var")) (more (list (trees (node Kind.VariableDeclarator 36 (more (child (node Kind.BindingIdentifier 37 (more (string (codes "_super")) end))) (more (child (node Kind.FunctionExpression 38 (more absent (more (list end) (more (child (node Kind.BlockStatement 39 (more (list (trees (node Kind.ExpressionStatement 40 (more (child (node Kind.Literal 41 (more (literal (literal_value.String (codes "use strict") None)) end))) (more (string (codes "use strict")) end)) ∷ node Kind.ExpressionStatement 42 (more (child (node Kind.CallExpression 43 (more (child (node Kind.MemberExpression 44 (more (child (node Kind.IdentifierReference 45 (more (string (codes "babelHelpers")) end))) (more (child (node Kind.IdentifierName 46 (more (string (codes "defineProperty")) end))) (more (boolean false) (more (boolean false) end)))))) (more (list (trees (node Kind.ThisExpression 47 end ∷ node Kind.Literal 48 (more (literal (literal_value.String (codes "x") None)) end) ∷ node Kind.IdentifierReference 16 (more (string (codes "f")) end) ∷ []))) (more (boolean false) end))))) (more no_string end)) ∷ node Kind.ReturnStatement 49 (more (child (node Kind.ThisExpression 50 end)) end) ∷ []))) end))) (more (boolean false) (more (boolean false) end))))))) end)) ∷ []))) end)) ∷ node Kind.VariableDeclaration 1 (more (string (codes "const")) (more (list (trees (node Kind.VariableDeclarator 2 (more (child (node Kind.BindingIdentifier 3 (more (string (codes "g")) end))) (more (child (node Kind.FunctionExpression 4 (more absent (more (list end) (more (child (node Kind.BlockStatement 5 (more (list (trees (node Kind.BlockStatement 6 (more (list (trees (node Kind.FunctionDeclaration 7 (more (child (node Kind.BindingIdentifier 8 (more (string (codes "f")) end))) (more (list end) (more (child (node Kind.BlockStatement 9 (more (list end) end))) (more (boolean false) (more (boolean false) end))))) ∷ []))) end) ∷ node Kind.ClassDeclaration 10 (more (child (node Kind.BindingIdentifier 11 (more (string (codes "A")) end))) (more (child (node Kind.IdentifierReference 12 (more (string (codes "P")) end))) (more (child (node Kind.ClassBody 13 (more (list (trees (node Kind.MethodDefinition 17 (more (child (node Kind.IdentifierName 18 (more (string (codes "constructor")) end))) (more (child (node Kind.FunctionExpression 19 (more absent (more (list (trees (node Kind.AssignmentPattern 20 (more (child (node Kind.BindingIdentifier 21 (more (string (codes "a")) end))) (more (child (node Kind.CallExpression 22 (more (child (node Kind.MemberExpression 51 (more (child (node Kind.IdentifierReference 52 (more (string (codes "_super")) end))) (more (child (node Kind.IdentifierName 53 (more (string (codes "call")) end))) (more (boolean false) (more (boolean false) end)))))) (more (list (trees (node Kind.CallExpression 54 (more (child (node Kind.Super 23 end)) (more (list end) (more (boolean false) end))) ∷ []))) (more (boolean false) end))))) end)) ∷ []))) (more (child (node Kind.BlockStatement 24 (more (list end) end))) (more (boolean false) (more (boolean false) end))))))) (more (string (codes "constructor")) (more (boolean false) (more (boolean false) end))))) ∷ []))) end))) end))) ∷ node Kind.ExpressionStatement 25 (more (child (node Kind.CallExpression 26 (more (child (node Kind.IdentifierReference 27 (more (string (codes "h")) end))) (more (list (trees (node Kind.MemberExpression 28 (more (child (node Kind.NewExpression 29 (more (child (node Kind.IdentifierReference 30 (more (string (codes "A")) end))) (more (list end) end)))) (more (child (node Kind.IdentifierName 31 (more (string (codes "x")) end))) (more (boolean false) (more (boolean false) end)))) ∷ []))) (more (boolean false) end))))) (more no_string end)) ∷ []))) end))) (more (boolean false) (more (boolean false) end))))))) end)) ∷ []))) end)) ∷ node Kind.ExpressionStatement 32 (more (child (node Kind.CallExpression 33 (more (child (node Kind.IdentifierReference 34 (more (string (codes "g")) end))) (more (list end) (more (boolean false) end))))) (more no_string end)) ∷ []))) end))

abbrev pub generated_super_function_outside_of_a_function : List LedgerEntry
generated_super_function_outside_of_a_function = record { name = codes "_super"; kind = GeneratedKind.SuperFn (record { 0 = 10 }) } ∷ []

abbrev pub options_super_function_outside_of_a_function : Options
options_super_function_outside_of_a_function = options_of false (Some (record { loose = false })) false
