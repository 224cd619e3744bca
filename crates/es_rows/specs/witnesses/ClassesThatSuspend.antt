-- Printed by tools/rows/witnesses.js.
use Rattle.std.specs.Prelude.{ℕ, List, [], ◌∷◌, true, false, codes, None}
use Rattle.es_base.specs.Tree.{Tree, end, more, child, absent, list, string, no_string, boolean, literal, trees}
use Rattle.es_base.specs.declared.kind.Kind.{Kind}
use Rattle.es_base.specs.declared.ledger.GeneratedKind.{GeneratedKind}
use Rattle.es_base.specs.declared.ledger.LedgerEntry.{LedgerEntry}
use Rattle.es_base.specs.declared.literal.LiteralValue.TheVariants as literal_value
use Rattle.es_steps.specs.Generated.{node}
use Rattle.es_steps.specs.Options.{options_of}
use Rattle.es_steps.specs.declared.options.Options.{Options}

-- `function* g() { class A { [yield 1] = class { static { a; } }; } class C { [yield 2] = class { static { c; } }; } }`
abbrev pub source_classes_that_suspend : Tree
source_classes_that_suspend = node Kind.Program 0 (more (string (codes "script")) (more (list (trees (node Kind.FunctionDeclaration 1 (more (child (node Kind.BindingIdentifier 2 (more (string (codes "g")) end))) (more (list end) (more (child (node Kind.BlockStatement 3 (more (list (trees (node Kind.ClassDeclaration 4 (more (child (node Kind.BindingIdentifier 5 (more (string (codes "A")) end))) (more absent (more (child (node Kind.ClassBody 6 (more (list (trees (node Kind.PropertyDefinition 7 (more (child (node Kind.YieldExpression 8 (more (child (node Kind.Literal 9 (more (literal (literal_value.Number (codes "1"))) end))) (more (boolean false) end)))) (more (child (node Kind.ClassExpression 10 (more absent (more absent (more (child (node Kind.ClassBody 11 (more (list (trees (node Kind.StaticBlock 12 (more (list (trees (node Kind.ExpressionStatement 13 (more (child (node Kind.IdentifierReference 14 (more (string (codes "a")) end))) (more no_string end)) ∷ []))) end) ∷ []))) end))) end))))) (more (boolean true) (more (boolean false) end)))) ∷ []))) end))) end))) ∷ node Kind.ClassDeclaration 15 (more (child (node Kind.BindingIdentifier 16 (more (string (codes "C")) end))) (more absent (more (child (node Kind.ClassBody 17 (more (list (trees (node Kind.PropertyDefinition 18 (more (child (node Kind.YieldExpression 19 (more (child (node Kind.Literal 20 (more (literal (literal_value.Number (codes "2"))) end))) (more (boolean false) end)))) (more (child (node Kind.ClassExpression 21 (more absent (more absent (more (child (node Kind.ClassBody 22 (more (list (trees (node Kind.StaticBlock 23 (more (list (trees (node Kind.ExpressionStatement 24 (more (child (node Kind.IdentifierReference 25 (more (string (codes "c")) end))) (more no_string end)) ∷ []))) end) ∷ []))) end))) end))))) (more (boolean true) (more (boolean false) end)))) ∷ []))) end))) end))) ∷ []))) end))) (more (boolean false) (more (boolean true) end))))) ∷ []))) end))

-- two such classes, each with private names of that spelling, as `function* g() { let _key, _key2; let A = class A { static #_ = _key; [_key = B.toPropertyKey(yield 1)] = (() => { var _staticBlock; return (({ [A.#_]: class { static #_ = _staticBlock = () => (a, this); } })[A.#_], _staticBlock()); })(); }; let C = class C { static #_ = _key2; [_key2 = B.toPropertyKey(yield 2)] = (() => { var _staticBlock2; return (({ [C.#_]: class { static #_ = _staticBlock2 = () => (c, this); } })[C.#_], _staticBlock2()); })(); }; }` means
abbrev pub output_classes_that_suspend : Tree
output_classes_that_suspend = node Kind.Program 0 (more (string (codes "script")) (more (list (trees (node Kind.FunctionDeclaration 1 (more (child (node Kind.BindingIdentifier 2 (more (string (codes "g")) end))) (more (list end) (more (child (node Kind.BlockStatement 3 (more (list (trees (node Kind.VariableDeclaration 26 (more (string (codes "let")) (more (list (trees (node Kind.VariableDeclarator 27 (more (child (node Kind.BindingIdentifier 28 (more (string (codes "_key")) end))) (more absent end)) ∷ node Kind.VariableDeclarator 29 (more (child (node Kind.BindingIdentifier 30 (more (string (codes "_key2")) end))) (more absent end)) ∷ []))) end)) ∷ node Kind.VariableDeclaration 31 (more (string (codes "let")) (more (list (trees (node Kind.VariableDeclarator 32 (more (child (node Kind.BindingIdentifier 5 (more (string (codes "A")) end))) (more (child (node Kind.ClassExpression 4 (more (child (node Kind.BindingIdentifier 33 (more (string (codes "A")) end))) (more absent (more (child (node Kind.ClassBody 6 (more (list (trees (node Kind.PropertyDefinition 34 (more (child (node Kind.PrivateIdentifier 35 (more (string (codes "_")) end))) (more (child (node Kind.IdentifierReference 36 (more (string (codes "_key")) end))) (more (boolean false) (more (boolean true) end)))) ∷ node Kind.PropertyDefinition 7 (more (child (node Kind.AssignmentExpression 37 (more (string (codes "=")) (more (child (node Kind.IdentifierReference 38 (more (string (codes "_key")) end))) (more (child (node Kind.CallExpression 39 (more (child (node Kind.MemberExpression 40 (more (child (node Kind.IdentifierReference 41 (more (string (codes "babelHelpers")) end))) (more (child (node Kind.IdentifierName 42 (more (string (codes "toPropertyKey")) end))) (more (boolean false) (more (boolean false) end)))))) (more (list (trees (node Kind.YieldExpression 8 (more (child (node Kind.Literal 9 (more (literal (literal_value.Number (codes "1"))) end))) (more (boolean false) end)) ∷ []))) (more (boolean false) end))))) end))))) (more (child (node Kind.CallExpression 43 (more (child (node Kind.ArrowFunctionExpression 44 (more (list end) (more (child (node Kind.BlockStatement 45 (more (list (trees (node Kind.VariableDeclaration 46 (more (string (codes "var")) (more (list (trees (node Kind.VariableDeclarator 47 (more (child (node Kind.BindingIdentifier 48 (more (string (codes "_staticBlock")) end))) (more absent end)) ∷ []))) end)) ∷ node Kind.ReturnStatement 49 (more (child (node Kind.SequenceExpression 50 (more (list (trees (node Kind.MemberExpression 51 (more (child (node Kind.ObjectExpression 52 (more (list (trees (node Kind.Property 53 (more (child (node Kind.PrivateField 54 (more (child (node Kind.IdentifierReference 55 (more (string (codes "A")) end))) (more (child (node Kind.PrivateIdentifier 56 (more (string (codes "_")) end))) (more (boolean false) (more (boolean false) end)))))) (more (child (node Kind.ClassExpression 10 (more absent (more absent (more (child (node Kind.ClassBody 11 (more (list (trees (node Kind.PropertyDefinition 57 (more (child (node Kind.PrivateIdentifier 58 (more (string (codes "_")) end))) (more (child (node Kind.AssignmentExpression 59 (more (string (codes "=")) (more (child (node Kind.IdentifierReference 60 (more (string (codes "_staticBlock")) end))) (more (child (node Kind.ArrowFunctionExpression 61 (more (list end) (more (child (node Kind.SequenceExpression 62 (more (list (trees (node Kind.IdentifierReference 14 (more (string (codes "a")) end) ∷ node Kind.ThisExpression 63 end ∷ []))) end))) (more (boolean false) end))))) end))))) (more (boolean false) (more (boolean true) end)))) ∷ []))) end))) end))))) (more (string (codes "init")) (more (boolean false) (more (boolean false) (more (boolean true) end)))))) ∷ []))) end))) (more (child (node Kind.PrivateField 64 (more (child (node Kind.IdentifierReference 65 (more (string (codes "A")) end))) (more (child (node Kind.PrivateIdentifier 66 (more (string (codes "_")) end))) (more (boolean false) (more (boolean false) end)))))) (more (boolean true) (more (boolean false) end)))) ∷ node Kind.CallExpression 67 (more (child (node Kind.IdentifierReference 68 (more (string (codes "_staticBlock")) end))) (more (list end) (more (boolean false) end))) ∷ []))) end))) end) ∷ []))) end))) (more (boolean false) end))))) (more (list end) (more (boolean false) end))))) (more (boolean true) (more (boolean false) end)))) ∷ []))) end))) end))))) end)) ∷ []))) end)) ∷ node Kind.VariableDeclaration 69 (more (string (codes "let")) (more (list (trees (node Kind.VariableDeclarator 70 (more (child (node Kind.BindingIdentifier 16 (more (string (codes "C")) end))) (more (child (node Kind.ClassExpression 15 (more (child (node Kind.BindingIdentifier 71 (more (string (codes "C")) end))) (more absent (more (child (node Kind.ClassBody 17 (more (list (trees (node Kind.PropertyDefinition 72 (more (child (node Kind.PrivateIdentifier 73 (more (string (codes "_")) end))) (more (child (node Kind.IdentifierReference 74 (more (string (codes "_key2")) end))) (more (boolean false) (more (boolean true) end)))) ∷ node Kind.PropertyDefinition 18 (more (child (node Kind.AssignmentExpression 75 (more (string (codes "=")) (more (child (node Kind.IdentifierReference 76 (more (string (codes "_key2")) end))) (more (child (node Kind.CallExpression 77 (more (child (node Kind.MemberExpression 78 (more (child (node Kind.IdentifierReference 79 (more (string (codes "babelHelpers")) end))) (more (child (node Kind.IdentifierName 80 (more (string (codes "toPropertyKey")) end))) (more (boolean false) (more (boolean false) end)))))) (more (list (trees (node Kind.YieldExpression 19 (more (child (node Kind.Literal 20 (more (literal (literal_value.Number (codes "2"))) end))) (more (boolean false) end)) ∷ []))) (more (boolean false) end))))) end))))) (more (child (node Kind.CallExpression 81 (more (child (node Kind.ArrowFunctionExpression 82 (more (list end) (more (child (node Kind.BlockStatement 83 (more (list (trees (node Kind.VariableDeclaration 84 (more (string (codes "var")) (more (list (trees (node Kind.VariableDeclarator 85 (more (child (node Kind.BindingIdentifier 86 (more (string (codes "_staticBlock2")) end))) (more absent end)) ∷ []))) end)) ∷ node Kind.ReturnStatement 87 (more (child (node Kind.SequenceExpression 88 (more (list (trees (node Kind.MemberExpression 89 (more (child (node Kind.ObjectExpression 90 (more (list (trees (node Kind.Property 91 (more (child (node Kind.PrivateField 92 (more (child (node Kind.IdentifierReference 93 (more (string (codes "C")) end))) (more (child (node Kind.PrivateIdentifier 94 (more (string (codes "_")) end))) (more (boolean false) (more (boolean false) end)))))) (more (child (node Kind.ClassExpression 21 (more absent (more absent (more (child (node Kind.ClassBody 22 (more (list (trees (node Kind.PropertyDefinition 95 (more (child (node Kind.PrivateIdentifier 96 (more (string (codes "_")) end))) (more (child (node Kind.AssignmentExpression 97 (more (string (codes "=")) (more (child (node Kind.IdentifierReference 98 (more (string (codes "_staticBlock2")) end))) (more (child (node Kind.ArrowFunctionExpression 99 (more (list end) (more (child (node Kind.SequenceExpression 100 (more (list (trees (node Kind.IdentifierReference 25 (more (string (codes "c")) end) ∷ node Kind.ThisExpression 101 end ∷ []))) end))) (more (boolean false) end))))) end))))) (more (boolean false) (more (boolean true) end)))) ∷ []))) end))) end))))) (more (string (codes "init")) (more (boolean false) (more (boolean false) (more (boolean true) end)))))) ∷ []))) end))) (more (child (node Kind.PrivateField 102 (more (child (node Kind.IdentifierReference 103 (more (string (codes "C")) end))) (more (child (node Kind.PrivateIdentifier 104 (more (string (codes "_")) end))) (more (boolean false) (more (boolean false) end)))))) (more (boolean true) (more (boolean false) end)))) ∷ node Kind.CallExpression 105 (more (child (node Kind.IdentifierReference 106 (more (string (codes "_staticBlock2")) end))) (more (list end) (more (boolean false) end))) ∷ []))) end))) end) ∷ []))) end))) (more (boolean false) end))))) (more (list end) (more (boolean false) end))))) (more (boolean true) (more (boolean false) end)))) ∷ []))) end))) end))))) end)) ∷ []))) end)) ∷ []))) end))) (more (boolean false) (more (boolean true) end))))) ∷ []))) end))

abbrev pub generated_classes_that_suspend : List LedgerEntry
generated_classes_that_suspend = record { name = codes "_key"; kind = GeneratedKind.Temp } ∷ record { name = codes "_key2"; kind = GeneratedKind.Temp } ∷ record { name = codes "_staticBlock"; kind = GeneratedKind.Closure } ∷ record { name = codes "_staticBlock2"; kind = GeneratedKind.Closure } ∷ record { name = codes "_"; kind = GeneratedKind.Private (record { 0 = 4 }) } ∷ record { name = codes "_"; kind = GeneratedKind.Private (record { 0 = 10 }) } ∷ record { name = codes "_"; kind = GeneratedKind.Private (record { 0 = 15 }) } ∷ record { name = codes "_"; kind = GeneratedKind.Private (record { 0 = 21 }) } ∷ []

abbrev pub options_classes_that_suspend : Options
options_classes_that_suspend = options_of true None false
