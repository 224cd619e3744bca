-- Printed by tools/rows/witnesses.js.
use Rattle.std.specs.Prelude.{ℕ, List, [], ◌∷◌, true, false, codes, Some}
use Rattle.es_base.specs.Tree.{Tree, end, more, child, absent, list, string, no_string, boolean, literal, trees}
use Rattle.es_base.specs.declared.kind.Kind.{Kind}
use Rattle.es_base.specs.declared.ledger.GeneratedKind.{GeneratedKind}
use Rattle.es_base.specs.declared.ledger.LedgerEntry.{LedgerEntry}
use Rattle.es_base.specs.declared.literal.LiteralValue.TheVariants as literal_value
use Rattle.es_steps.specs.Generated.{node}
use Rattle.es_steps.specs.Options.{options_of}
use Rattle.es_steps.specs.declared.options.Options.{Options}

-- `class D { #y = 1; [k(class A { static #m(o) { return #y in o; } static n(o) { return A.#m(o); } })]() {} }`
abbrev pub source_map_behind_a_key_that_asks : Tree
source_map_behind_a_key_that_asks = node Kind.Program 0 (more (string (codes "script")) (more (list (trees (node Kind.ClassDeclaration 1 (more (child (node Kind.BindingIdentifier 2 (more (string (codes "D")) end))) (more absent (more (child (node Kind.ClassBody 3 (more (list (trees (node Kind.PropertyDefinition 4 (more (child (node Kind.PrivateIdentifier 5 (more (string (codes "y")) end))) (more (child (node Kind.Literal 6 (more (literal (literal_value.Number (codes "1"))) end))) (more (boolean false) (more (boolean false) end)))) ∷ node Kind.MethodDefinition 7 (more (child (node Kind.CallExpression 8 (more (child (node Kind.IdentifierReference 9 (more (string (codes "k")) end))) (more (list (trees (node Kind.ClassExpression 10 (more (child (node Kind.BindingIdentifier 11 (more (string (codes "A")) end))) (more absent (more (child (node Kind.ClassBody 12 (more (list (trees (node Kind.MethodDefinition 13 (more (child (node Kind.PrivateIdentifier 14 (more (string (codes "m")) end))) (more (child (node Kind.FunctionExpression 15 (more absent (more (list (trees (node Kind.BindingIdentifier 16 (more (string (codes "o")) end) ∷ []))) (more (child (node Kind.BlockStatement 17 (more (list (trees (node Kind.ReturnStatement 18 (more (child (node Kind.PrivateIn 19 (more (string (codes "in")) (more (child (node Kind.PrivateIdentifier 20 (more (string (codes "y")) end))) (more (child (node Kind.IdentifierReference 21 (more (string (codes "o")) end))) end))))) end) ∷ []))) end))) (more (boolean false) (more (boolean false) end))))))) (more (string (codes "method")) (more (boolean false) (more (boolean true) end))))) ∷ node Kind.MethodDefinition 22 (more (child (node Kind.IdentifierName 23 (more (string (codes "n")) end))) (more (child (node Kind.FunctionExpression 24 (more absent (more (list (trees (node Kind.BindingIdentifier 25 (more (string (codes "o")) end) ∷ []))) (more (child (node Kind.BlockStatement 26 (more (list (trees (node Kind.ReturnStatement 27 (more (child (node Kind.CallExpression 28 (more (child (node Kind.PrivateField 29 (more (child (node Kind.IdentifierReference 30 (more (string (codes "A")) end))) (more (child (node Kind.PrivateIdentifier 31 (more (string (codes "m")) end))) (more (boolean false) (more (boolean false) end)))))) (more (list (trees (node Kind.IdentifierReference 32 (more (string (codes "o")) end) ∷ []))) (more (boolean false) end))))) end) ∷ []))) end))) (more (boolean false) (more (boolean false) end))))))) (more (string (codes "method")) (more (boolean false) (more (boolean true) end))))) ∷ []))) end))) end))) ∷ []))) (more (boolean false) end))))) (more (child (node Kind.FunctionExpression 33 (more absent (more (list end) (more (child (node Kind.BlockStatement 34 (more (list end) end))) (more (boolean false) (more (boolean false) end))))))) (more (string (codes "method")) (more (boolean true) (more (boolean false) end))))) ∷ []))) end))) end))) ∷ []))) end))

-- a map behind a key of its class, which a private method of a class in the key asks for: `var _k, _y; _k = k(class A { static n(o) { return _m.call(A, o); } }); _y = new WeakMap(); class D { constructor() { B.classPrivateFieldInitSpec(this, _y, 1); } [_k]() {} } function _m(o) { return _y.has(B.checkInRHS(o)); }`
abbrev pub output_map_behind_a_key_that_asks : Tree
output_map_behind_a_key_that_asks = node Kind.Program 0 (more (string (codes "script")) (more (list (trees (node Kind.VariableDeclaration 35 (more (string (codes "var")) (more (list (trees (node Kind.VariableDeclarator 36 (more (child (node Kind.BindingIdentifier 37 (more (string (codes "_k")) end))) (more absent end)) ∷ node Kind.VariableDeclarator 38 (more (child (node Kind.BindingIdentifier 39 (more (string (codes "_y")) end))) (more absent end)) ∷ []))) end)) ∷ node Kind.ExpressionStatement 40 (more (child (node Kind.AssignmentExpression 41 (more (string (codes "=")) (more (child (node Kind.IdentifierReference 42 (more (string (codes "_k")) end))) (more (child (node Kind.CallExpression 8 (more (child (node Kind.IdentifierReference 9 (more (string (codes "k")) end))) (more (list (trees (node Kind.ClassExpression 10 (more (child (node Kind.BindingIdentifier 11 (more (string (codes "A")) end))) (more absent (more (child (node Kind.ClassBody 12 (more (list (trees (node Kind.MethodDefinition 22 (more (child (node Kind.IdentifierName 23 (more (string (codes "n")) end))) (more (child (node Kind.FunctionExpression 24 (more absent (more (list (trees (node Kind.BindingIdentifier 25 (more (string (codes "o")) end) ∷ []))) (more (child (node Kind.BlockStatement 26 (more (list (trees (node Kind.ReturnStatement 27 (more (child (node Kind.CallExpression 28 (more (child (node Kind.MemberExpression 43 (more (child (node Kind.IdentifierReference 29 (more (string (codes "_m")) end))) (more (child (node Kind.IdentifierName 44 (more (string (codes "call")) end))) (more (boolean false) (more (boolean false) end)))))) (more (list (trees (node Kind.IdentifierReference 30 (more (string (codes "A")) end) ∷ node Kind.IdentifierReference 32 (more (string (codes "o")) end) ∷ []))) (more (boolean false) end))))) end) ∷ []))) end))) (more (boolean false) (more (boolean false) end))))))) (more (string (codes "method")) (more (boolean false) (more (boolean true) end))))) ∷ []))) end))) end))) ∷ []))) (more (boolean false) end))))) end))))) (more no_string end)) ∷ node Kind.ExpressionStatement 45 (more (child (node Kind.AssignmentExpression 46 (more (string (codes "=")) (more (child (node Kind.IdentifierReference 47 (more (string (codes "_y")) end))) (more (child (node Kind.NewExpression 48 (more (child (node Kind.IdentifierReference 49 (more (string (codes "WeakMap")) end))) (more (list end) end)))) end))))) (more no_string end)) ∷ node Kind.ClassDeclaration 1 (more (child (node Kind.BindingIdentifier 2 (more (string (codes "D")) end))) (more absent (more (child (node Kind.ClassBody 3 (more (list (trees (node Kind.MethodDefinition 50 (more (child (node Kind.IdentifierName 51 (more (string (codes "constructor")) end))) (more (child (node Kind.FunctionExpression 52 (more absent (more (list end) (more (child (node Kind.BlockStatement 53 (more (list (trees (node Kind.ExpressionStatement 54 (more (child (node Kind.CallExpression 55 (more (child (node Kind.MemberExpression 56 (more (child (node Kind.IdentifierReference 57 (more (string (codes "babelHelpers")) end))) (more (child (node Kind.IdentifierName 58 (more (string (codes "classPrivateFieldInitSpec")) end))) (more (boolean false) (more (boolean false) end)))))) (more (list (trees (node Kind.ThisExpression 59 end ∷ node Kind.IdentifierReference 60 (more (string (codes "_y")) end) ∷ node Kind.Literal 6 (more (literal (literal_value.Number (codes "1"))) end) ∷ []))) (more (boolean false) end))))) (more no_string end)) ∷ []))) end))) (more (boolean false) (more (boolean false) end))))))) (more (string (codes "constructor")) (more (boolean false) (more (boolean false) end))))) ∷ node Kind.MethodDefinition 7 (more (child (node Kind.IdentifierReference 61 (more (string (codes "_k")) end))) (more (child (node Kind.FunctionExpression 33 (more absent (more (list end) (more (child (node Kind.BlockStatement 34 (more (list end) end))) (more (boolean false) (more (boolean false) end))))))) (more (string (codes "method")) (more (boolean true) (more (boolean false) end))))) ∷ []))) end))) end))) ∷ node Kind.FunctionDeclaration 15 (more (child (node Kind.BindingIdentifier 62 (more (string (codes "_m")) end))) (more (list (trees (node Kind.BindingIdentifier 16 (more (string (codes "o")) end) ∷ []))) (more (child (node Kind.BlockStatement 17 (more (list (trees (node Kind.ReturnStatement 18 (more (child (node Kind.CallExpression 19 (more (child (node Kind.MemberExpression 63 (more (child (node Kind.IdentifierReference 64 (more (string (codes "_y")) end))) (more (child (node Kind.IdentifierName 65 (more (string (codes "has")) end))) (more (boolean false) (more (boolean false) end)))))) (more (list (trees (node Kind.CallExpression 66 (more (child (node Kind.MemberExpression 67 (more (child (node Kind.IdentifierReference 68 (more (string (codes "babelHelpers")) end))) (more (child (node Kind.IdentifierName 69 (more (string (codes "checkInRHS")) end))) (more (boolean false) (more (boolean false) end)))))) (more (list (trees (node Kind.IdentifierReference 21 (more (string (codes "o")) end) ∷ []))) (more (boolean false) end))) ∷ []))) (more (boolean false) end))))) end) ∷ []))) end))) (more (boolean false) (more (boolean false) end))))) ∷ []))) end))

abbrev pub generated_map_behind_a_key_that_asks : List LedgerEntry
generated_map_behind_a_key_that_asks = record { name = codes "_k"; kind = GeneratedKind.Temp } ∷ record { name = codes "_y"; kind = GeneratedKind.WeakMap (record { 0 = 5 }) } ∷ record { name = codes "_m"; kind = GeneratedKind.Method (record { 0 = 14 }) } ∷ []

abbrev pub options_map_behind_a_key_that_asks : Options
options_map_behind_a_key_that_asks = options_of false (Some (record { loose = false })) false
