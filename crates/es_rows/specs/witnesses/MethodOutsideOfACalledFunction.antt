-- Printed by tools/rows/witnesses.js.
use Rattle.std.specs.Prelude.{ℕ, List, [], ◌∷◌, false, codes, Some}
use Rattle.es_base.specs.Tree.{Tree, end, more, child, absent, list, string, no_string, boolean, trees}
use Rattle.es_base.specs.declared.kind.Kind.{Kind}
use Rattle.es_base.specs.declared.ledger.GeneratedKind.{GeneratedKind}
use Rattle.es_base.specs.declared.ledger.LedgerEntry.{LedgerEntry}
use Rattle.es_steps.specs.Generated.{node}
use Rattle.es_steps.specs.Options.{options_of}
use Rattle.es_steps.specs.declared.options.Options.{Options}

-- `F(); function F() { class A { #m() {} } return new A(); }`
abbrev pub source_method_outside_of_a_called_function : Tree
source_method_outside_of_a_called_function = node Kind.Program 0 (more (string (codes "script")) (more (list (trees (node Kind.ExpressionStatement 1 (more (child (node Kind.CallExpression 2 (more (child (node Kind.IdentifierReference 3 (more (string (codes "F")) end))) (more (list end) (more (boolean false) end))))) (more no_string end)) ∷ node Kind.FunctionDeclaration 4 (more (child (node Kind.BindingIdentifier 5 (more (string (codes "F")) end))) (more (list end) (more (child (node Kind.BlockStatement 6 (more (list (trees (node Kind.ClassDeclaration 7 (more (child (node Kind.BindingIdentifier 8 (more (string (codes "A")) end))) (more absent (more (child (node Kind.ClassBody 9 (more (list (trees (node Kind.MethodDefinition 10 (more (child (node Kind.PrivateIdentifier 11 (more (string (codes "m")) end))) (more (child (node Kind.FunctionExpression 12 (more absent (more (list end) (more (child (node Kind.BlockStatement 13 (more (list end) end))) (more (boolean false) (more (boolean false) end))))))) (more (string (codes "method")) (more (boolean false) (more (boolean false) end))))) ∷ []))) end))) end))) ∷ node Kind.ReturnStatement 14 (more (child (node Kind.NewExpression 15 (more (child (node Kind.IdentifierReference 16 (more (string (codes "A")) end))) (more (list end) end)))) end) ∷ []))) end))) (more (boolean false) (more (boolean false) end))))) ∷ []))) end))

-- the function of a private method given behind a call of the function that its class stands in, where `F(); function F() { var _A_brand = new WeakSet(); class A { constructor() { B.classPrivateMethodInitSpec(this, _A_brand); } } function _m() {} return new A(); }` is right
abbrev pub output_method_outside_of_a_called_function : Tree
output_method_outside_of_a_called_function = node Kind.Program 0 (more (string (codes "script")) (more (list (trees (node Kind.ExpressionStatement 1 (more (child (node Kind.CallExpression 2 (more (child (node Kind.IdentifierReference 3 (more (string (codes "F")) end))) (more (list end) (more (boolean false) end))))) (more no_string end)) ∷ node Kind.VariableDeclaration 17 (more (string (codes "var")) (more (list (trees (node Kind.VariableDeclarator 18 (more (child (node Kind.BindingIdentifier 19 (more (string (codes "_m")) end))) (more (child (node Kind.FunctionExpression 12 (more absent (more (list end) (more (child (node Kind.BlockStatement 13 (more (list end) end))) (more (boolean false) (more (boolean false) end))))))) end)) ∷ []))) end)) ∷ node Kind.FunctionDeclaration 4 (more (child (node Kind.BindingIdentifier 5 (more (string (codes "F")) end))) (more (list end) (more (child (node Kind.BlockStatement 6 (more (list (trees (node Kind.VariableDeclaration 20 (more (string (codes "var")) (more (list (trees (node Kind.VariableDeclarator 21 (more (child (node Kind.BindingIdentifier 22 (more (string (codes "_A_brand")) end))) (more (child (node Kind.NewExpression 23 (more (child (node Kind.IdentifierReference 24 (more (string (codes "WeakSet")) end))) (more (list end) end)))) end)) ∷ []))) end)) ∷ node Kind.ClassDeclaration 7 (more (child (node Kind.BindingIdentifier 8 (more (string (codes "A")) end))) (more absent (more (child (node Kind.ClassBody 9 (more (list (trees (node Kind.MethodDefinition 25 (more (child (node Kind.IdentifierName 26 (more (string (codes "constructor")) end))) (more (child (node Kind.FunctionExpression 27 (more absent (more (list end) (more (child (node Kind.BlockStatement 28 (more (list (trees (node Kind.ExpressionStatement 29 (more (child (node Kind.CallExpression 30 (more (child (node Kind.MemberExpression 31 (more (child (node Kind.IdentifierReference 32 (more (string (codes "babelHelpers")) end))) (more (child (node Kind.IdentifierName 33 (more (string (codes "classPrivateMethodInitSpec")) end))) (more (boolean false) (more (boolean false) end)))))) (more (list (trees (node Kind.ThisExpression 34 end ∷ node Kind.IdentifierReference 35 (more (string (codes "_A_brand")) end) ∷ []))) (more (boolean false) end))))) (more no_string end)) ∷ []))) end))) (more (boolean false) (more (boolean false) end))))))) (more (string (codes "constructor")) (more (boolean false) (more (boolean false) end))))) ∷ []))) end))) end))) ∷ node Kind.ReturnStatement 14 (more (child (node Kind.NewExpression 15 (more (child (node Kind.IdentifierReference 16 (more (string (codes "A")) end))) (more (list end) end)))) end) ∷ []))) end))) (more (boolean false) (more (boolean false) end))))) ∷ []))) end))

abbrev pub generated_method_outside_of_a_called_function : List LedgerEntry
generated_method_outside_of_a_called_function = record { name = codes "_A_brand"; kind = GeneratedKind.Brand (record { 0 = 7 }) } ∷ record { name = codes "_m"; kind = GeneratedKind.Method (record { 0 = 11 }) } ∷ []

abbrev pub options_method_outside_of_a_called_function : Options
options_method_outside_of_a_called_function = options_of false (Some (record { loose = false })) false
