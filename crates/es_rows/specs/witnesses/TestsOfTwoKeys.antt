-- Printed by tools/rows/witnesses.js.
use Rattle.std.specs.Prelude.{ℕ, List, [], ◌∷◌, true, false, codes, None}
use Rattle.es_base.specs.Tree.{Tree, end, more, child, absent, list, string, no_string, boolean, literal, trees}
use Rattle.es_base.specs.declared.kind.Kind.{Kind}
use Rattle.es_base.specs.declared.ledger.GeneratedKind.{GeneratedKind}
use Rattle.es_base.specs.declared.ledger.LedgerEntry.{LedgerEntry}
use Rattle.es_base.specs.declared.literal.LiteralValue.TheVariants as literal_value
use Rattle.es_steps.specs.Generated.{node}
use Rattle.es_steps.specs.Options.{options_of}
use Rattle.es_steps.specs.declared.options.Options.{Options}

-- `async function F() { let D = class { static [await k()]() {} static [k()]() {} [k(2)] = class { static { f(1); } }; }; }`
abbrev pub source_tests_of_two_keys : Tree
source_tests_of_two_keys = node Kind.Program 0 (more (string (codes "script")) (more (list (trees (node Kind.FunctionDeclaration 1 (more (child (node Kind.BindingIdentifier 2 (more (string (codes "F")) end))) (more (list end) (more (child (node Kind.BlockStatement 3 (more (list (trees (node Kind.VariableDeclaration 4 (more (string (codes "let")) (more (list (trees (node Kind.VariableDeclarator 5 (more (child (node Kind.BindingIdentifier 6 (more (string (codes "D")) end))) (more (child (node Kind.ClassExpression 7 (more absent (more absent (more (child (node Kind.ClassBody 8 (more (list (trees (node Kind.MethodDefinition 9 (more (child (node Kind.AwaitExpression 10 (more (child (node Kind.CallExpression 11 (more (child (node Kind.IdentifierReference 12 (more (string (codes "k")) end))) (more (list end) (more (boolean false) end))))) end))) (more (child (node Kind.FunctionExpression 13 (more absent (more (list end) (more (child (node Kind.BlockStatement 14 (more (list end) end))) (more (boolean false) (more (boolean false) end))))))) (more (string (codes "method")) (more (boolean true) (more (boolean true) end))))) ∷ node Kind.MethodDefinition 15 (more (child (node Kind.CallExpression 16 (more (child (node Kind.IdentifierReference 17 (more (string (codes "k")) end))) (more (list end) (more (boolean false) end))))) (more (child (node Kind.FunctionExpression 18 (more absent (more (list end) (more (child (node Kind.BlockStatement 19 (more (list end) end))) (more (boolean false) (more (boolean false) end))))))) (more (string (codes "method")) (more (boolean true) (more (boolean true) end))))) ∷ node Kind.PropertyDefinition 20 (more (child (node Kind.CallExpression 21 (more (child (node Kind.IdentifierReference 22 (more (string (codes "k")) end))) (more (list (trees (node Kind.Literal 23 (more (literal (literal_value.Number (codes "2"))) end) ∷ []))) (more (boolean false) end))))) (more (child (node Kind.ClassExpression 24 (more absent (more absent (more (child (node Kind.ClassBody 25 (more (list (trees (node Kind.StaticBlock 26 (more (list (trees (node Kind.ExpressionStatement 27 (more (child (node Kind.CallExpression 28 (more (child (node Kind.IdentifierReference 29 (more (string (codes "f")) end))) (more (list (trees (node Kind.Literal 30 (more (literal (literal_value.Number (codes "1"))) end) ∷ []))) (more (boolean false) end))))) (more no_string end)) ∷ []))) end) ∷ []))) end))) end))))) (more (boolean true) (more (boolean false) end)))) ∷ []))) end))) end))))) end)) ∷ []))) end)) ∷ []))) end))) (more (boolean true) (more (boolean false) end))))) ∷ []))) end))

-- a class that gets its name behind tests of the keys of two static methods, as `async function F() { let _key, _key2, _key3; let D = class _Class { static #_ = (_key2 !== "name" && _key3 !== "name" && B.setFunctionName(this, "D"), _key); static [_key2 = B.toPropertyKey(await k())]() {} static [_key3 = B.toPropertyKey(k())]() {} [_key = B.toPropertyKey(k(2))] = (() => { var _staticBlock; return ({ [_Class.#_]: class { static #_ = _staticBlock = () => (f(1), this); } }[_Class.#_], _staticBlock()); })(); }; }` means
abbrev pub output_tests_of_two_keys : Tree
output_tests_of_two_keys = node Kind.Program 0 (more (string (codes "script")) (more (list (trees (node Kind.FunctionDeclaration 1 (more (child (node Kind.BindingIdentifier 2 (more (string (codes "F")) end))) (more (list end) (more (child (node Kind.BlockStatement 3 (more (list (trees (node Kind.VariableDeclaration 31 (more (string (codes "let")) (more (list (trees (node Kind.VariableDeclarator 32 (more (child (node Kind.BindingIdentifier 33 (more (string (codes "_key")) end))) (more absent end)) ∷ node Kind.VariableDeclarator 34 (more (child (node Kind.BindingIdentifier 35 (more (string (codes "_key2")) end))) (more absent end)) ∷ node Kind.VariableDeclarator 36 (more (child (node Kind.BindingIdentifier 37 (more (string (codes "_key3")) end))) (more absent end)) ∷ []))) end)) ∷ node Kind.VariableDeclaration 4 (more (string (codes "let")) (more (list (trees (node Kind.VariableDeclarator 5 (more (child (node Kind.BindingIdentifier 6 (more (string (codes "D")) end))) (more (child (node Kind.ClassExpression 7 (more (child (node Kind.BindingIdentifier 38 (more (string (codes "_Class")) end))) (more absent (more (child (node Kind.ClassBody 8 (more (list (trees (node Kind.PropertyDefinition 39 (more (child (node Kind.PrivateIdentifier 40 (more (string (codes "_")) end))) (more (child (node Kind.SequenceExpression 41 (more (list (trees (node Kind.LogicalExpression 42 (more (string (codes "&&")) (more (child (node Kind.LogicalExpression 43 (more (string (codes "&&")) (more (child (node Kind.BinaryExpression 44 (more (string (codes "!==")) (more (child (node Kind.IdentifierReference 45 (more (string (codes "_key2")) end))) (more (child (node Kind.Literal 46 (more (literal (literal_value.String (codes "name") None)) end))) end))))) (more (child (node Kind.BinaryExpression 47 (more (string (codes "!==")) (more (child (node Kind.IdentifierReference 48 (more (string (codes "_key3")) end))) (more (child (node Kind.Literal 49 (more (literal (literal_value.String (codes "name") None)) end))) end))))) end))))) (more (child (node Kind.CallExpression 50 (more (child (node Kind.MemberExpression 51 (more (child (node Kind.IdentifierReference 52 (more (string (codes "babelHelpers")) end))) (more (child (node Kind.IdentifierName 53 (more (string (codes "setFunctionName")) end))) (more (boolean false) (more (boolean false) end)))))) (more (list (trees (node Kind.ThisExpression 54 end ∷ node Kind.Literal 55 (more (literal (literal_value.String (codes "D") None)) end) ∷ []))) (more (boolean false) end))))) end))) ∷ node Kind.IdentifierReference 56 (more (string (codes "_key")) end) ∷ []))) end))) (more (boolean false) (more (boolean true) end)))) ∷ node Kind.MethodDefinition 9 (more (child (node Kind.AssignmentExpression 57 (more (string (codes "=")) (more (child (node Kind.IdentifierReference 58 (more (string (codes "_key2")) end))) (more (child (node Kind.CallExpression 59 (more (child (node Kind.MemberExpression 60 (more (child (node Kind.IdentifierReference 61 (more (string (codes "babelHelpers")) end))) (more (child (node Kind.IdentifierName 62 (more (string (codes "toPropertyKey")) end))) (more (boolean false) (more (boolean false) end)))))) (more (list (trees (node Kind.AwaitExpression 10 (more (child (node Kind.CallExpression 11 (more (child (node Kind.IdentifierReference 12 (more (string (codes "k")) end))) (more (list end) (more (boolean false) end))))) end) ∷ []))) (more (boolean false) end))))) end))))) (more (child (node Kind.FunctionExpression 13 (more absent (more (list end) (more (child (node Kind.BlockStatement 14 (more (list end) end))) (more (boolean false) (more (boolean false) end))))))) (more (string (codes "method")) (more (boolean true) (more (boolean true) end))))) ∷ node Kind.MethodDefinition 15 (more (child (node Kind.AssignmentExpression 63 (more (string (codes "=")) (more (child (node Kind.IdentifierReference 64 (more (string (codes "_key3")) end))) (more (child (node Kind.CallExpression 65 (more (child (node Kind.MemberExpression 66 (more (child (node Kind.IdentifierReference 67 (more (string (codes "babelHelpers")) end))) (more (child (node Kind.IdentifierName 68 (more (string (codes "toPropertyKey")) end))) (more (boolean false) (more (boolean false) end)))))) (more (list (trees (node Kind.CallExpression 16 (more (child (node Kind.IdentifierReference 17 (more (string (codes "k")) end))) (more (list end) (more (boolean false) end))) ∷ []))) (more (boolean false) end))))) end))))) (more (child (node Kind.FunctionExpression 18 (more absent (more (list end) (more (child (node Kind.BlockStatement 19 (more (list end) end))) (more (boolean false) (more (boolean false) end))))))) (more (string (codes "method")) (more (boolean true) (more (boolean true) end))))) ∷ node Kind.PropertyDefinition 20 (more (child (node Kind.AssignmentExpression 69 (more (string (codes "=")) (more (child (node Kind.IdentifierReference 70 (more (string (codes "_key")) end))) (more (child (node Kind.CallExpression 71 (more (child (node Kind.MemberExpression 72 (more (child (node Kind.IdentifierReference 73 (more (string (codes "babelHelpers")) end))) (more (child (node Kind.IdentifierName 74 (more (string (codes "toPropertyKey")) end))) (more (boolean false) (more (boolean false) end)))))) (more (list (trees (node Kind.CallExpression 21 (more (child (node Kind.IdentifierReference 22 (more (string (codes "k")) end))) (more (list (trees (node Kind.Literal 23 (more (literal (literal_value.Number (codes "2"))) end) ∷ []))) (more (boolean false) end))) ∷ []))) (more (boolean false) end))))) end))))) (more (child (node Kind.CallExpression 75 (more (child (node Kind.ArrowFunctionExpression 76 (more (list end) (more (child (node Kind.BlockStatement 77 (more (list (trees (node Kind.VariableDeclaration 78 (more (string (codes "var")) (more (list (trees (node Kind.VariableDeclarator 79 (more (child (node Kind.BindingIdentifier 80 (more (string (codes "_staticBlock")) end))) (more absent end)) ∷ []))) end)) ∷ node Kind.ReturnStatement 81 (more (child (node Kind.SequenceExpression 82 (more (list (trees (node Kind.MemberExpression 83 (more (child (node Kind.ObjectExpression 84 (more (list (trees (node Kind.Property 85 (more (child (node Kind.PrivateField 86 (more (child (node Kind.IdentifierReference 87 (more (string (codes "_Class")) end))) (more (child (node Kind.PrivateIdentifier 88 (more (string (codes "_")) end))) (more (boolean false) (more (boolean false) end)))))) (more (child (node Kind.ClassExpression 24 (more absent (more absent (more (child (node Kind.ClassBody 25 (more (list (trees (node Kind.PropertyDefinition 89 (more (child (node Kind.PrivateIdentifier 90 (more (string (codes "_")) end))) (more (child (node Kind.AssignmentExpression 91 (more (string (codes "=")) (more (child (node Kind.IdentifierReference 92 (more (string (codes "_staticBlock")) end))) (more (child (node Kind.ArrowFunctionExpression 93 (more (list end) (more (child (node Kind.SequenceExpression 94 (more (list (trees (node Kind.CallExpression 28 (more (child (node Kind.IdentifierReference 29 (more (string (codes "f")) end))) (more (list (trees (node Kind.Literal 30 (more (literal (literal_value.Number (codes "1"))) end) ∷ []))) (more (boolean false) end))) ∷ node Kind.ThisExpression 95 end ∷ []))) end))) (more (boolean false) end))))) end))))) (more (boolean false) (more (boolean true) end)))) ∷ []))) end))) end))))) (more (string (codes "init")) (more (boolean false) (more (boolean false) (more (boolean true) end)))))) ∷ []))) end))) (more (child (node Kind.PrivateField 96 (more (child (node Kind.IdentifierReference 97 (more (string (codes "_Class")) end))) (more (child (node Kind.PrivateIdentifier 98 (more (string (codes "_")) end))) (more (boolean false) (more (boolean false) end)))))) (more (boolean true) (more (boolean false) end)))) ∷ node Kind.CallExpression 99 (more (child (node Kind.IdentifierReference 100 (more (string (codes "_staticBlock")) end))) (more (list end) (more (boolean false) end))) ∷ []))) end))) end) ∷ []))) end))) (more (boolean false) end))))) (more (list end) (more (boolean false) end))))) (more (boolean true) (more (boolean false) end)))) ∷ []))) end))) end))))) end)) ∷ []))) end)) ∷ []))) end))) (more (boolean true) (more (boolean false) end))))) ∷ []))) end))

abbrev pub generated_tests_of_two_keys : List LedgerEntry
generated_tests_of_two_keys = record { name = codes "_"; kind = GeneratedKind.Private (record { 0 = 7 }) } ∷ record { name = codes "_"; kind = GeneratedKind.Private (record { 0 = 24 }) } ∷ record { name = codes "_Class"; kind = GeneratedKind.ClassTemp (record { 0 = 7 }) } ∷ record { name = codes "_key"; kind = GeneratedKind.Temp } ∷ record { name = codes "_key2"; kind = GeneratedKind.Temp } ∷ record { name = codes "_key3"; kind = GeneratedKind.Temp } ∷ record { name = codes "_staticBlock"; kind = GeneratedKind.Closure } ∷ []

abbrev pub options_tests_of_two_keys : Options
options_tests_of_two_keys = options_of true None false
