-- Printed by tools/rows/witnesses.js.
use Rattle.std.specs.Prelude.{ℕ, List, [], ◌∷◌, true, false, codes, Some}
use Rattle.es_base.specs.Tree.{Tree, end, more, child, absent, list, string, no_string, boolean, trees}
use Rattle.es_base.specs.declared.kind.Kind.{Kind}
use Rattle.es_base.specs.declared.ledger.GeneratedKind.{GeneratedKind}
use Rattle.es_base.specs.declared.ledger.LedgerEntry.{LedgerEntry}
use Rattle.es_steps.specs.Generated.{node}
use Rattle.es_steps.specs.Options.{options_of}
use Rattle.es_steps.specs.declared.options.Options.{Options}

-- `function g() { { function f() {} } class A { static n() { return A.#m(); } static #m() { return f; } } return A.n(); } h(g());`
abbrev pub source_private_method_outside_of_a_function : Tree
source_private_method_outside_of_a_function = node Kind.Program 0 (more (string (codes "script")) (more (list (trees (node Kind.FunctionDeclaration 1 (more (child (node Kind.BindingIdentifier 2 (more (string (codes "g")) end))) (more (list end) (more (child (node Kind.BlockStatement 3 (more (list (trees (node Kind.BlockStatement 4 (more (list (trees (node Kind.FunctionDeclaration 5 (more (child (node Kind.BindingIdentifier 6 (more (string (codes "f")) end))) (more (list end) (more (child (node Kind.BlockStatement 7 (more (list end) end))) (more (boolean false) (more (boolean false) end))))) ∷ []))) end) ∷ node Kind.ClassDeclaration 8 (more (child (node Kind.BindingIdentifier 9 (more (string (codes "A")) end))) (more absent (more (child (node Kind.ClassBody 10 (more (list (trees (node Kind.MethodDefinition 11 (more (child (node Kind.IdentifierName 12 (more (string (codes "n")) end))) (more (child (node Kind.FunctionExpression 13 (more absent (more (list end) (more (child (node Kind.BlockStatement 14 (more (list (trees (node Kind.ReturnStatement 15 (more (child (node Kind.CallExpression 16 (more (child (node Kind.PrivateField 17 (more (child (node Kind.IdentifierReference 18 (more (string (codes "A")) end))) (more (child (node Kind.PrivateIdentifier 19 (more (string (codes "m")) end))) (more (boolean false) (more (boolean false) end)))))) (more (list end) (more (boolean false) end))))) end) ∷ []))) end))) (more (boolean false) (more (boolean false) end))))))) (more (string (codes "method")) (more (boolean false) (more (boolean true) end))))) ∷ node Kind.MethodDefinition 20 (more (child (node Kind.PrivateIdentifier 21 (more (string (codes "m")) end))) (more (child (node Kind.FunctionExpression 22 (more absent (more (list end) (more (child (node Kind.BlockStatement 23 (more (list (trees (node Kind.ReturnStatement 24 (more (child (node Kind.IdentifierReference 25 (more (string (codes "f")) end))) end) ∷ []))) end))) (more (boolean false) (more (boolean false) end))))))) (more (string (codes "method")) (more (boolean false) (more (boolean true) end))))) ∷ []))) end))) end))) ∷ node Kind.ReturnStatement 26 (more (child (node Kind.CallExpression 27 (more (child (node Kind.MemberExpression 28 (more (child (node Kind.IdentifierReference 29 (more (string (codes "A")) end))) (more (child (node Kind.IdentifierName 30 (more (string (codes "n")) end))) (more (boolean false) (more (boolean false) end)))))) (more (list end) (more (boolean false) end))))) end) ∷ []))) end))) (more (boolean false) (more (boolean false) end))))) ∷ node Kind.ExpressionStatement 31 (more (child (node Kind.CallExpression 32 (more (child (node Kind.IdentifierReference 33 (more (string (codes "h")) end))) (more (list (trees (node Kind.CallExpression 34 (more (child (node Kind.IdentifierReference 35 (more (string (codes "g")) end))) (more (list end) (more (boolean false) end))) ∷ []))) (more (boolean false) end))))) (more no_string end)) ∷ []))) end))

-- the function of a private method outside of a function whose function in a block it reads, where `function g() { { function f() {} } class A { static n() { return _m.call(A); } } return A.n(); } function _m() { return f; } h(g());` is right
abbrev pub output_private_method_outside_of_a_function : Tree
output_private_method_outside_of_a_function = node Kind.Program 0 (more (string (codes "script")) (more (list (trees (node Kind.FunctionDeclaration 1 (more (child (node Kind.BindingIdentifier 2 (more (string (codes "g")) end))) (more (list end) (more (child (node Kind.BlockStatement 3 (more (list (trees (node Kind.BlockStatement 4 (more (list (trees (node Kind.FunctionDeclaration 5 (more (child (node Kind.BindingIdentifier 6 (more (string (codes "f")) end))) (more (list end) (more (child (node Kind.BlockStatement 7 (more (list end) end))) (more (boolean false) (more (boolean false) end))))) ∷ []))) end) ∷ node Kind.ClassDeclaration 8 (more (child (node Kind.BindingIdentifier 9 (more (string (codes "A")) end))) (more absent (more (child (node Kind.ClassBody 10 (more (list (trees (node Kind.MethodDefinition 11 (more (child (node Kind.IdentifierName 12 (more (string (codes "n")) end))) (more (child (node Kind.FunctionExpression 13 (more absent (more (list end) (more (child (node Kind.BlockStatement 14 (more (list (trees (node Kind.ReturnStatement 15 (more (child (node Kind.CallExpression 16 (more (child (node Kind.MemberExpression 36 (more (child (node Kind.IdentifierReference 17 (more (string (codes "_m")) end))) (more (child (node Kind.IdentifierName 37 (more (string (codes "call")) end))) (more (boolean false) (more (boolean false) end)))))) (more (list (trees (node Kind.IdentifierReference 18 (more (string (codes "A")) end) ∷ []))) (more (boolean false) end))))) end) ∷ []))) end))) (more (boolean false) (more (boolean false) end))))))) (more (string (codes "method")) (more (boolean false) (more (boolean true) end))))) ∷ []))) end))) end))) ∷ node Kind.ReturnStatement 26 (more (child (node Kind.CallExpression 27 (more (child (node Kind.MemberExpression 28 (more (child (node Kind.IdentifierReference 29 (more (string (codes "A")) end))) (more (child (node Kind.IdentifierName 30 (more (string (codes "n")) end))) (more (boolean false) (more (boolean false) end)))))) (more (list end) (more (boolean false) end))))) end) ∷ []))) end))) (more (boolean false) (more (boolean false) end))))) ∷ node Kind.FunctionDeclaration 22 (more (child (node Kind.BindingIdentifier 38 (more (string (codes "_m")) end))) (more (list end) (more (child (node Kind.BlockStatement 23 (more (list (trees (node Kind.ReturnStatement 24 (more (child (node Kind.IdentifierReference 25 (more (string (codes "f")) end))) end) ∷ []))) end))) (more (boolean false) (more (boolean false) end))))) ∷ node Kind.ExpressionStatement 31 (more (child (node Kind.CallExpression 32 (more (child (node Kind.IdentifierReference 33 (more (string (codes "h")) end))) (more (list (trees (node Kind.CallExpression 34 (more (child (node Kind.IdentifierReference 35 (more (string (codes "g")) end))) (more (list end) (more (boolean false) end))) ∷ []))) (more (boolean false) end))))) (more no_string end)) ∷ []))) end))

abbrev pub generated_private_method_outside_of_a_function : List LedgerEntry
generated_private_method_outside_of_a_function = record { name = codes "_m"; kind = GeneratedKind.Method (record { 0 = 21 }) } ∷ []

abbrev pub options_private_method_outside_of_a_function : Options
options_private_method_outside_of_a_function = options_of false (Some (record { loose = false })) false
