-- Printed by tools/rows/witnesses.js.
use Rattle.std.specs.Prelude.{ℕ, List, [], ◌∷◌, false, codes, Some}
use Rattle.es_base.specs.Tree.{Tree, end, more, child, absent, list, string, no_string, boolean, trees}
use Rattle.es_base.specs.declared.kind.Kind.{Kind}
use Rattle.es_base.specs.declared.ledger.GeneratedKind.{GeneratedKind}
use Rattle.es_base.specs.declared.ledger.LedgerEntry.{LedgerEntry}
use Rattle.es_steps.specs.Generated.{node}
use Rattle.es_steps.specs.Options.{options_of}
use Rattle.es_steps.specs.declared.options.Options.{Options}

-- `class A { set #s(v) { g(v); } m() { [this.#s] = f(); } } new A().m();`
abbrev pub source_write_behind_a_pattern : Tree
source_write_behind_a_pattern = node Kind.Program 0 (more (string (codes "script")) (more (list (trees (node Kind.ClassDeclaration 1 (more (child (node Kind.BindingIdentifier 2 (more (string (codes "A")) end))) (more absent (more (child (node Kind.ClassBody 3 (more (list (trees (node Kind.MethodDefinition 4 (more (child (node Kind.PrivateIdentifier 5 (more (string (codes "s")) end))) (more (child (node Kind.FunctionExpression 6 (more absent (more (list (trees (node Kind.BindingIdentifier 7 (more (string (codes "v")) end) ∷ []))) (more (child (node Kind.BlockStatement 8 (more (list (trees (node Kind.ExpressionStatement 9 (more (child (node Kind.CallExpression 10 (more (child (node Kind.IdentifierReference 11 (more (string (codes "g")) end))) (more (list (trees (node Kind.IdentifierReference 12 (more (string (codes "v")) end) ∷ []))) (more (boolean false) end))))) (more no_string end)) ∷ []))) end))) (more (boolean false) (more (boolean false) end))))))) (more (string (codes "set")) (more (boolean false) (more (boolean false) end))))) ∷ node Kind.MethodDefinition 13 (more (child (node Kind.IdentifierName 14 (more (string (codes "m")) end))) (more (child (node Kind.FunctionExpression 15 (more absent (more (list end) (more (child (node Kind.BlockStatement 16 (more (list (trees (node Kind.ExpressionStatement 17 (more (child (node Kind.AssignmentExpression 18 (more (string (codes "=")) (more (child (node Kind.ArrayAssignmentTarget 19 (more (list (trees (node Kind.PrivateField 20 (more (child (node Kind.ThisExpression 21 end)) (more (child (node Kind.PrivateIdentifier 22 (more (string (codes "s")) end))) (more (boolean false) (more (boolean false) end)))) ∷ []))) end))) (more (child (node Kind.CallExpression 23 (more (child (node Kind.IdentifierReference 24 (more (string (codes "f")) end))) (more (list end) (more (boolean false) end))))) end))))) (more no_string end)) ∷ []))) end))) (more (boolean false) (more (boolean false) end))))))) (more (string (codes "method")) (more (boolean false) (more (boolean false) end))))) ∷ []))) end))) end))) ∷ node Kind.ExpressionStatement 25 (more (child (node Kind.CallExpression 26 (more (child (node Kind.MemberExpression 27 (more (child (node Kind.NewExpression 28 (more (child (node Kind.IdentifierReference 29 (more (string (codes "A")) end))) (more (list end) end)))) (more (child (node Kind.IdentifierName 30 (more (string (codes "m")) end))) (more (boolean false) (more (boolean false) end)))))) (more (list end) (more (boolean false) end))))) (more no_string end)) ∷ []))) end))

-- a private write behind the end of the pattern that it stood in: `var _brand = new WeakSet(); class A { constructor() { B.classPrivateMethodInitSpec(this, _brand); } m() { var _t; [_t] = f(), B.toSetter(_set_s.bind(B.assertClassBrand(_brand, this)))._ = _t; } } function _set_s(v) { g(v); } new A().m();`
abbrev pub output_write_behind_a_pattern : Tree
output_write_behind_a_pattern = node Kind.Program 0 (more (string (codes "script")) (more (list (trees (node Kind.VariableDeclaration 31 (more (string (codes "var")) (more (list (trees (node Kind.VariableDeclarator 32 (more (child (node Kind.BindingIdentifier 33 (more (string (codes "_brand")) end))) (more (child (node Kind.NewExpression 34 (more (child (node Kind.IdentifierReference 35 (more (string (codes "WeakSet")) end))) (more (list end) end)))) end)) ∷ []))) end)) ∷ node Kind.ClassDeclaration 1 (more (child (node Kind.BindingIdentifier 2 (more (string (codes "A")) end))) (more absent (more (child (node Kind.ClassBody 3 (more (list (trees (node Kind.MethodDefinition 36 (more (child (node Kind.IdentifierName 37 (more (string (codes "constructor")) end))) (more (child (node Kind.FunctionExpression 38 (more absent (more (list end) (more (child (node Kind.BlockStatement 39 (more (list (trees (node Kind.ExpressionStatement 40 (more (child (node Kind.CallExpression 41 (more (child (node Kind.MemberExpression 42 (more (child (node Kind.IdentifierReference 43 (more (string (codes "babelHelpers")) end))) (more (child (node Kind.IdentifierName 44 (more (string (codes "classPrivateMethodInitSpec")) end))) (more (boolean false) (more (boolean false) end)))))) (more (list (trees (node Kind.ThisExpression 45 end ∷ node Kind.IdentifierReference 46 (more (string (codes "_brand")) end) ∷ []))) (more (boolean false) end))))) (more no_string end)) ∷ []))) end))) (more (boolean false) (more (boolean false) end))))))) (more (string (codes "constructor")) (more (boolean false) (more (boolean false) end))))) ∷ node Kind.MethodDefinition 13 (more (child (node Kind.IdentifierName 14 (more (string (codes "m")) end))) (more (child (node Kind.FunctionExpression 15 (more absent (more (list end) (more (child (node Kind.BlockStatement 16 (more (list (trees (node Kind.VariableDeclaration 47 (more (string (codes "var")) (more (list (trees (node Kind.VariableDeclarator 48 (more (child (node Kind.BindingIdentifier 49 (more (string (codes "_t")) end))) (more absent end)) ∷ []))) end)) ∷ node Kind.ExpressionStatement 17 (more (child (node Kind.SequenceExpression 50 (more (list (trees (node Kind.AssignmentExpression 51 (more (string (codes "=")) (more (child (node Kind.ArrayAssignmentTarget 19 (more (list (trees (node Kind.IdentifierReference 20 (more (string (codes "_t")) end) ∷ []))) end))) (more (child (node Kind.CallExpression 23 (more (child (node Kind.IdentifierReference 24 (more (string (codes "f")) end))) (more (list end) (more (boolean false) end))))) end))) ∷ node Kind.AssignmentExpression 52 (more (string (codes "=")) (more (child (node Kind.MemberExpression 53 (more (child (node Kind.CallExpression 54 (more (child (node Kind.MemberExpression 55 (more (child (node Kind.IdentifierReference 56 (more (string (codes "babelHelpers")) end))) (more (child (node Kind.IdentifierName 57 (more (string (codes "toSetter")) end))) (more (boolean false) (more (boolean false) end)))))) (more (list (trees (node Kind.CallExpression 58 (more (child (node Kind.MemberExpression 59 (more (child (node Kind.IdentifierReference 60 (more (string (codes "_set_s")) end))) (more (child (node Kind.IdentifierName 61 (more (string (codes "bind")) end))) (more (boolean false) (more (boolean false) end)))))) (more (list (trees (node Kind.CallExpression 62 (more (child (node Kind.MemberExpression 63 (more (child (node Kind.IdentifierReference 64 (more (string (codes "babelHelpers")) end))) (more (child (node Kind.IdentifierName 65 (more (string (codes "assertClassBrand")) end))) (more (boolean false) (more (boolean false) end)))))) (more (list (trees (node Kind.IdentifierReference 66 (more (string (codes "_brand")) end) ∷ node Kind.ThisExpression 67 end ∷ []))) (more (boolean false) end))) ∷ []))) (more (boolean false) end))) ∷ []))) (more (boolean false) end))))) (more (child (node Kind.IdentifierName 68 (more (string (codes "_")) end))) (more (boolean false) (more (boolean false) end)))))) (more (child (node Kind.IdentifierReference 69 (more (string (codes "_t")) end))) end))) ∷ []))) end))) (more no_string end)) ∷ []))) end))) (more (boolean false) (more (boolean false) end))))))) (more (string (codes "method")) (more (boolean false) (more (boolean false) end))))) ∷ []))) end))) end))) ∷ node Kind.FunctionDeclaration 6 (more (child (node Kind.BindingIdentifier 70 (more (string (codes "_set_s")) end))) (more (list (trees (node Kind.BindingIdentifier 7 (more (string (codes "v")) end) ∷ []))) (more (child (node Kind.BlockStatement 8 (more (list (trees (node Kind.ExpressionStatement 9 (more (child (node Kind.CallExpression 10 (more (child (node Kind.IdentifierReference 11 (more (string (codes "g")) end))) (more (list (trees (node Kind.IdentifierReference 12 (more (string (codes "v")) end) ∷ []))) (more (boolean false) end))))) (more no_string end)) ∷ []))) end))) (more (boolean false) (more (boolean false) end))))) ∷ node Kind.ExpressionStatement 25 (more (child (node Kind.CallExpression 26 (more (child (node Kind.MemberExpression 27 (more (child (node Kind.NewExpression 28 (more (child (node Kind.IdentifierReference 29 (more (string (codes "A")) end))) (more (list end) end)))) (more (child (node Kind.IdentifierName 30 (more (string (codes "m")) end))) (more (boolean false) (more (boolean false) end)))))) (more (list end) (more (boolean false) end))))) (more no_string end)) ∷ []))) end))

abbrev pub generated_write_behind_a_pattern : List LedgerEntry
generated_write_behind_a_pattern = record { name = codes "_t"; kind = GeneratedKind.Temp } ∷ record { name = codes "_brand"; kind = GeneratedKind.Brand (record { 0 = 1 }) } ∷ record { name = codes "_set_s"; kind = GeneratedKind.Method (record { 0 = 5 }) } ∷ []

abbrev pub options_write_behind_a_pattern : Options
options_write_behind_a_pattern = options_of false (Some (record { loose = false })) false
