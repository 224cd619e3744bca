-- Printed by tools/rows/witnesses.js.
use Rattle.std.specs.Prelude.{ℕ, List, [], ◌∷◌, false, codes, Some}
use Rattle.es_base.specs.Tree.{Tree, end, more, child, absent, list, string, no_string, boolean, literal, trees}
use Rattle.es_base.specs.declared.kind.Kind.{Kind}
use Rattle.es_base.specs.declared.ledger.GeneratedKind.{GeneratedKind}
use Rattle.es_base.specs.declared.ledger.LedgerEntry.{LedgerEntry}
use Rattle.es_base.specs.declared.literal.LiteralValue.TheVariants as literal_value
use Rattle.es_steps.specs.Generated.{node}
use Rattle.es_steps.specs.Options.{options_of}
use Rattle.es_steps.specs.declared.options.Options.{Options}

-- `var o; for (const i of [1, 2]) { const h = () => { class A { #x = 1; m() { return this.#x; } } return new A(); }; if (i === 1) o = h(); } f(o.m());`
abbrev pub source_map_made_in_each_round : Tree
source_map_made_in_each_round = node Kind.Program 0 (more (string (codes "script")) (more (list (trees (node Kind.VariableDeclaration 1 (more (string (codes "var")) (more (list (trees (node Kind.VariableDeclarator 2 (more (child (node Kind.BindingIdentifier 3 (more (string (codes "o")) end))) (more absent end)) ∷ []))) end)) ∷ node Kind.ForOfStatement 4 (more (child (node Kind.VariableDeclaration 5 (more (string (codes "const")) (more (list (trees (node Kind.VariableDeclarator 6 (more (child (node Kind.BindingIdentifier 7 (more (string (codes "i")) end))) (more absent end)) ∷ []))) end)))) (more (child (node Kind.ArrayExpression 8 (more (list (trees (node Kind.Literal 9 (more (literal (literal_value.Number (codes "1"))) end) ∷ node Kind.Literal 10 (more (literal (literal_value.Number (codes "2"))) end) ∷ []))) end))) (more (child (node Kind.BlockStatement 11 (more (list (trees (node Kind.VariableDeclaration 12 (more (string (codes "const")) (more (list (trees (node Kind.VariableDeclarator 13 (more (child (node Kind.BindingIdentifier 14 (more (string (codes "h")) end))) (more (child (node Kind.ArrowFunctionExpression 15 (more (list end) (more (child (node Kind.BlockStatement 16 (more (list (trees (node Kind.ClassDeclaration 17 (more (child (node Kind.BindingIdentifier 18 (more (string (codes "A")) end))) (more absent (more (child (node Kind.ClassBody 19 (more (list (trees (node Kind.PropertyDefinition 20 (more (child (node Kind.PrivateIdentifier 21 (more (string (codes "x")) end))) (more (child (node Kind.Literal 22 (more (literal (literal_value.Number (codes "1"))) end))) (more (boolean false) (more (boolean false) end)))) ∷ node Kind.MethodDefinition 23 (more (child (node Kind.IdentifierName 24 (more (string (codes "m")) end))) (more (child (node Kind.FunctionExpression 25 (more absent (more (list end) (more (child (node Kind.BlockStatement 26 (more (list (trees (node Kind.ReturnStatement 27 (more (child (node Kind.PrivateField 28 (more (child (node Kind.ThisExpression 29 end)) (more (child (node Kind.PrivateIdentifier 30 (more (string (codes "x")) end))) (more (boolean false) (more (boolean false) end)))))) end) ∷ []))) end))) (more (boolean false) (more (boolean false) end))))))) (more (string (codes "method")) (more (boolean false) (more (boolean false) end))))) ∷ []))) end))) end))) ∷ node Kind.ReturnStatement 31 (more (child (node Kind.NewExpression 32 (more (child (node Kind.IdentifierReference 33 (more (string (codes "A")) end))) (more (list end) end)))) end) ∷ []))) end))) (more (boolean false) end))))) end)) ∷ []))) end)) ∷ node Kind.IfStatement 34 (more (child (node Kind.BinaryExpression 35 (more (string (codes "===")) (more (child (node Kind.IdentifierReference 36 (more (string (codes "i")) end))) (more (child (node Kind.Literal 37 (more (literal (literal_value.Number (codes "1"))) end))) end))))) (more (child (node Kind.ExpressionStatement 38 (more (child (node Kind.AssignmentExpression 39 (more (string (codes "=")) (more (child (node Kind.IdentifierReference 40 (more (string (codes "o")) end))) (more (child (node Kind.CallExpression 41 (more (child (node Kind.IdentifierReference 42 (more (string (codes "h")) end))) (more (list end) (more (boolean false) end))))) end))))) (more no_string end)))) (more absent end))) ∷ []))) end))) (more (boolean false) end)))) ∷ node Kind.ExpressionStatement 43 (more (child (node Kind.CallExpression 44 (more (child (node Kind.IdentifierReference 45 (more (string (codes "f")) end))) (more (list (trees (node Kind.CallExpression 46 (more (child (node Kind.MemberExpression 47 (more (child (node Kind.IdentifierReference 48 (more (string (codes "o")) end))) (more (child (node Kind.IdentifierName 49 (more (string (codes "m")) end))) (more (boolean false) (more (boolean false) end)))))) (more (list end) (more (boolean false) end))) ∷ []))) (more (boolean false) end))))) (more no_string end)) ∷ []))) end))

-- a map made in each round of a loop, around an arrow that evaluates its class once: `var _x; var o; for (const i of [1, 2]) { _x = new WeakMap(); const h = () => { class A { constructor() { B.classPrivateFieldInitSpec(this, _x, 1); } m() { return B.classPrivateFieldGet2(_x, this); } } return new A(); }; if (i === 1) o = h(); } f(o.m());`
abbrev pub output_map_made_in_each_round : Tree
output_map_made_in_each_round = node Kind.Program 0 (more (string (codes "script")) (more (list (trees (node Kind.VariableDeclaration 50 (more (string (codes "var")) (more (list (trees (node Kind.VariableDeclarator 51 (more (child (node Kind.BindingIdentifier 52 (more (string (codes "_x")) end))) (more absent end)) ∷ []))) end)) ∷ node Kind.VariableDeclaration 1 (more (string (codes "var")) (more (list (trees (node Kind.VariableDeclarator 2 (more (child (node Kind.BindingIdentifier 3 (more (string (codes "o")) end))) (more absent end)) ∷ []))) end)) ∷ node Kind.ForOfStatement 4 (more (child (node Kind.VariableDeclaration 5 (more (string (codes "const")) (more (list (trees (node Kind.VariableDeclarator 6 (more (child (node Kind.BindingIdentifier 7 (more (string (codes "i")) end))) (more absent end)) ∷ []))) end)))) (more (child (node Kind.ArrayExpression 8 (more (list (trees (node Kind.Literal 9 (more (literal (literal_value.Number (codes "1"))) end) ∷ node Kind.Literal 10 (more (literal (literal_value.Number (codes "2"))) end) ∷ []))) end))) (more (child (node Kind.BlockStatement 11 (more (list (trees (node Kind.ExpressionStatement 53 (more (child (node Kind.AssignmentExpression 54 (more (string (codes "=")) (more (child (node Kind.IdentifierReference 55 (more (string (codes "_x")) end))) (more (child (node Kind.NewExpression 56 (more (child (node Kind.IdentifierReference 57 (more (string (codes "WeakMap")) end))) (more (list end) end)))) end))))) (more no_string end)) ∷ node Kind.VariableDeclaration 12 (more (string (codes "const")) (more (list (trees (node Kind.VariableDeclarator 13 (more (child (node Kind.BindingIdentifier 14 (more (string (codes "h")) end))) (more (child (node Kind.ArrowFunctionExpression 15 (more (list end) (more (child (node Kind.BlockStatement 16 (more (list (trees (node Kind.ClassDeclaration 17 (more (child (node Kind.BindingIdentifier 18 (more (string (codes "A")) end))) (more absent (more (child (node Kind.ClassBody 19 (more (list (trees (node Kind.MethodDefinition 58 (more (child (node Kind.IdentifierName 59 (more (string (codes "constructor")) end))) (more (child (node Kind.FunctionExpression 60 (more absent (more (list end) (more (child (node Kind.BlockStatement 61 (more (list (trees (node Kind.ExpressionStatement 62 (more (child (node Kind.CallExpression 63 (more (child (node Kind.MemberExpression 64 (more (child (node Kind.IdentifierReference 65 (more (string (codes "babelHelpers")) end))) (more (child (node Kind.IdentifierName 66 (more (string (codes "classPrivateFieldInitSpec")) end))) (more (boolean false) (more (boolean false) end)))))) (more (list (trees (node Kind.ThisExpression 67 end ∷ node Kind.IdentifierReference 68 (more (string (codes "_x")) end) ∷ node Kind.Literal 22 (more (literal (literal_value.Number (codes "1"))) end) ∷ []))) (more (boolean false) end))))) (more no_string end)) ∷ []))) end))) (more (boolean false) (more (boolean false) end))))))) (more (string (codes "constructor")) (more (boolean false) (more (boolean false) end))))) ∷ node Kind.MethodDefinition 23 (more (child (node Kind.IdentifierName 24 (more (string (codes "m")) end))) (more (child (node Kind.FunctionExpression 25 (more absent (more (list end) (more (child (node Kind.BlockStatement 26 (more (list (trees (node Kind.ReturnStatement 27 (more (child (node Kind.CallExpression 28 (more (child (node Kind.MemberExpression 69 (more (child (node Kind.IdentifierReference 70 (more (string (codes "babelHelpers")) end))) (more (child (node Kind.IdentifierName 71 (more (string (codes "classPrivateFieldGet2")) end))) (more (boolean false) (more (boolean false) end)))))) (more (list (trees (node Kind.IdentifierReference 72 (more (string (codes "_x")) end) ∷ node Kind.ThisExpression 73 end ∷ []))) (more (boolean false) end))))) end) ∷ []))) end))) (more (boolean false) (more (boolean false) end))))))) (more (string (codes "method")) (more (boolean false) (more (boolean false) end))))) ∷ []))) end))) end))) ∷ node Kind.ReturnStatement 31 (more (child (node Kind.NewExpression 32 (more (child (node Kind.IdentifierReference 33 (more (string (codes "A")) end))) (more (list end) end)))) end) ∷ []))) end))) (more (boolean false) end))))) end)) ∷ []))) end)) ∷ node Kind.IfStatement 34 (more (child (node Kind.BinaryExpression 35 (more (string (codes "===")) (more (child (node Kind.IdentifierReference 36 (more (string (codes "i")) end))) (more (child (node Kind.Literal 37 (more (literal (literal_value.Number (codes "1"))) end))) end))))) (more (child (node Kind.ExpressionStatement 38 (more (child (node Kind.AssignmentExpression 39 (more (string (codes "=")) (more (child (node Kind.IdentifierReference 40 (more (string (codes "o")) end))) (more (child (node Kind.CallExpression 41 (more (child (node Kind.IdentifierReference 42 (more (string (codes "h")) end))) (more (list end) (more (boolean false) end))))) end))))) (more no_string end)))) (more absent end))) ∷ []))) end))) (more (boolean false) end)))) ∷ node Kind.ExpressionStatement 43 (more (child (node Kind.CallExpression 44 (more (child (node Kind.IdentifierReference 45 (more (string (codes "f")) end))) (more (list (trees (node Kind.CallExpression 46 (more (child (node Kind.MemberExpression 47 (more (child (node Kind.IdentifierReference 48 (more (string (codes "o")) end))) (more (child (node Kind.IdentifierName 49 (more (string (codes "m")) end))) (more (boolean false) (more (boolean false) end)))))) (more (list end) (more (boolean false) end))) ∷ []))) (more (boolean false) end))))) (more no_string end)) ∷ []))) end))

abbrev pub generated_map_made_in_each_round : List LedgerEntry
generated_map_made_in_each_round = record { name = codes "_x"; kind = GeneratedKind.WeakMap (record { 0 = 21 }) } ∷ []

abbrev pub options_map_made_in_each_round : Options
options_map_made_in_each_round = options_of false (Some (record { loose = false })) false
