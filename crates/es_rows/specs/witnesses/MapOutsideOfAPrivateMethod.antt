-- Printed by tools/rows/witnesses.js.
use Rattle.std.specs.Prelude.{ℕ, List, [], ◌∷◌, true, false, codes, Some, None}
use Rattle.es_base.specs.Tree.{Tree, end, more, child, absent, list, string, no_string, boolean, literal, trees}
use Rattle.es_base.specs.declared.kind.Kind.{Kind}
use Rattle.es_base.specs.declared.ledger.GeneratedKind.{GeneratedKind}
use Rattle.es_base.specs.declared.ledger.LedgerEntry.{LedgerEntry}
use Rattle.es_base.specs.declared.literal.LiteralValue.TheVariants as literal_value
use Rattle.es_steps.specs.Generated.{node}
use Rattle.es_steps.specs.Options.{options_of}
use Rattle.es_steps.specs.declared.options.Options.{Options}

-- `class A { static #m() { return new (class { #y = 1; g() { return this.#y; } })(); } static x = A.#m(); }`
abbrev pub source_map_outside_of_a_private_method : Tree
source_map_outside_of_a_private_method = node Kind.Program 0 (more (string (codes "script")) (more (list (trees (node Kind.ClassDeclaration 1 (more (child (node Kind.BindingIdentifier 2 (more (string (codes "A")) end))) (more absent (more (child (node Kind.ClassBody 3 (more (list (trees (node Kind.MethodDefinition 4 (more (child (node Kind.PrivateIdentifier 5 (more (string (codes "m")) end))) (more (child (node Kind.FunctionExpression 6 (more absent (more (list end) (more (child (node Kind.BlockStatement 7 (more (list (trees (node Kind.ReturnStatement 8 (more (child (node Kind.NewExpression 9 (more (child (node Kind.ClassExpression 10 (more absent (more absent (more (child (node Kind.ClassBody 11 (more (list (trees (node Kind.PropertyDefinition 12 (more (child (node Kind.PrivateIdentifier 13 (more (string (codes "y")) end))) (more (child (node Kind.Literal 14 (more (literal (literal_value.Number (codes "1"))) end))) (more (boolean false) (more (boolean false) end)))) ∷ node Kind.MethodDefinition 15 (more (child (node Kind.IdentifierName 16 (more (string (codes "g")) end))) (more (child (node Kind.FunctionExpression 17 (more absent (more (list end) (more (child (node Kind.BlockStatement 18 (more (list (trees (node Kind.ReturnStatement 19 (more (child (node Kind.PrivateField 20 (more (child (node Kind.ThisExpression 21 end)) (more (child (node Kind.PrivateIdentifier 22 (more (string (codes "y")) end))) (more (boolean false) (more (boolean false) end)))))) end) ∷ []))) end))) (more (boolean false) (more (boolean false) end))))))) (more (string (codes "method")) (more (boolean false) (more (boolean false) end))))) ∷ []))) end))) end))))) (more (list end) end)))) end) ∷ []))) end))) (more (boolean false) (more (boolean false) end))))))) (more (string (codes "method")) (more (boolean false) (more (boolean true) end))))) ∷ node Kind.PropertyDefinition 23 (more (child (node Kind.IdentifierName 24 (more (string (codes "x")) end))) (more (child (node Kind.CallExpression 25 (more (child (node Kind.PrivateField 26 (more (child (node Kind.IdentifierReference 27 (more (string (codes "A")) end))) (more (child (node Kind.PrivateIdentifier 28 (more (string (codes "m")) end))) (more (boolean false) (more (boolean false) end)))))) (more (list end) (more (boolean false) end))))) (more (boolean false) (more (boolean true) end)))) ∷ []))) end))) end))) ∷ []))) end))

-- a map made behind a call of the private method that its class stands in, where `class A {} B.defineProperty(A, "x", _m.call(A)); function _m() { var _y; return new (_y = new WeakMap(), class { constructor() { B.classPrivateFieldInitSpec(this, _y, 1); } g() { return B.classPrivateFieldGet2(_y, this); } })(); }` is right
abbrev pub output_map_outside_of_a_private_method : Tree
output_map_outside_of_a_private_method = node Kind.Program 0 (more (string (codes "script")) (more (list (trees (node Kind.ClassDeclaration 1 (more (child (node Kind.BindingIdentifier 2 (more (string (codes "A")) end))) (more absent (more (child (node Kind.ClassBody 3 (more (list end) end))) end))) ∷ node Kind.ExpressionStatement 29 (more (child (node Kind.CallExpression 30 (more (child (node Kind.MemberExpression 31 (more (child (node Kind.IdentifierReference 32 (more (string (codes "babelHelpers")) end))) (more (child (node Kind.IdentifierName 33 (more (string (codes "defineProperty")) end))) (more (boolean false) (more (boolean false) end)))))) (more (list (trees (node Kind.IdentifierReference 34 (more (string (codes "A")) end) ∷ node Kind.Literal 35 (more (literal (literal_value.String (codes "x") None)) end) ∷ node Kind.CallExpression 25 (more (child (node Kind.MemberExpression 36 (more (child (node Kind.IdentifierReference 26 (more (string (codes "_m")) end))) (more (child (node Kind.IdentifierName 37 (more (string (codes "call")) end))) (more (boolean false) (more (boolean false) end)))))) (more (list (trees (node Kind.IdentifierReference 27 (more (string (codes "A")) end) ∷ []))) (more (boolean false) end))) ∷ []))) (more (boolean false) end))))) (more no_string end)) ∷ node Kind.VariableDeclaration 38 (more (string (codes "var")) (more (list (trees (node Kind.VariableDeclarator 39 (more (child (node Kind.BindingIdentifier 40 (more (string (codes "_y")) end))) (more absent end)) ∷ []))) end)) ∷ node Kind.ExpressionStatement 41 (more (child (node Kind.AssignmentExpression 42 (more (string (codes "=")) (more (child (node Kind.IdentifierReference 43 (more (string (codes "_y")) end))) (more (child (node Kind.NewExpression 44 (more (child (node Kind.IdentifierReference 45 (more (string (codes "WeakMap")) end))) (more (list end) end)))) end))))) (more no_string end)) ∷ node Kind.FunctionDeclaration 6 (more (child (node Kind.BindingIdentifier 46 (more (string (codes "_m")) end))) (more (list end) (more (child (node Kind.BlockStatement 7 (more (list (trees (node Kind.ReturnStatement 8 (more (child (node Kind.NewExpression 9 (more (child (node Kind.ClassExpression 10 (more absent (more absent (more (child (node Kind.ClassBody 11 (more (list (trees (node Kind.MethodDefinition 47 (more (child (node Kind.IdentifierName 48 (more (string (codes "constructor")) end))) (more (child (node Kind.FunctionExpression 49 (more absent (more (list end) (more (child (node Kind.BlockStatement 50 (more (list (trees (node Kind.ExpressionStatement 51 (more (child (node Kind.CallExpression 52 (more (child (node Kind.MemberExpression 53 (more (child (node Kind.IdentifierReference 54 (more (string (codes "babelHelpers")) end))) (more (child (node Kind.IdentifierName 55 (more (string (codes "classPrivateFieldInitSpec")) end))) (more (boolean false) (more (boolean false) end)))))) (more (list (trees (node Kind.ThisExpression 56 end ∷ node Kind.IdentifierReference 57 (more (string (codes "_y")) end) ∷ node Kind.Literal 14 (more (literal (literal_value.Number (codes "1"))) end) ∷ []))) (more (boolean false) end))))) (more no_string end)) ∷ []))) end))) (more (boolean false) (more (boolean false) end))))))) (more (string (codes "constructor")) (more (boolean false) (more (boolean false) end))))) ∷ node Kind.MethodDefinition 15 (more (child (node Kind.IdentifierName 16 (more (string (codes "g")) end))) (more (child (node Kind.FunctionExpression 17 (more absent (more (list end) (more (child (node Kind.BlockStatement 18 (more (list (trees (node Kind.ReturnStatement 19 (more (child (node Kind.CallExpression 20 (more (child (node Kind.MemberExpression 58 (more (child (node Kind.IdentifierReference 59 (more (string (codes "babelHelpers")) end))) (more (child (node Kind.IdentifierName 60 (more (string (codes "classPrivateFieldGet2")) end))) (more (boolean false) (more (boolean false) end)))))) (more (list (trees (node Kind.IdentifierReference 61 (more (string (codes "_y")) end) ∷ node Kind.ThisExpression 21 end ∷ []))) (more (boolean false) end))))) end) ∷ []))) end))) (more (boolean false) (more (boolean false) end))))))) (more (string (codes "method")) (more (boolean false) (more (boolean false) end))))) ∷ []))) end))) end))))) (more (list end) end)))) end) ∷ []))) end))) (more (boolean false) (more (boolean false) end))))) ∷ []))) end))

abbrev pub generated_map_outside_of_a_private_method : List LedgerEntry
generated_map_outside_of_a_private_method = record { name = codes "_m"; kind = GeneratedKind.Method (record { 0 = 5 }) } ∷ record { name = codes "_y"; kind = GeneratedKind.WeakMap (record { 0 = 13 }) } ∷ []

abbrev pub options_map_outside_of_a_private_method : Options
options_map_outside_of_a_private_method = options_of false (Some (record { loose = false })) false
