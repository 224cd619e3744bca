-- Printed by tools/rows/witnesses.js.
use Rattle.std.specs.Prelude.{ℕ, List, [], ◌∷◌, false, codes, Some, None}
use Rattle.es_base.specs.Tree.{Tree, end, more, child, absent, list, string, no_string, boolean, literal, trees}
use Rattle.es_base.specs.declared.kind.Kind.{Kind}
use Rattle.es_base.specs.declared.ledger.GeneratedKind.{GeneratedKind}
use Rattle.es_base.specs.declared.ledger.LedgerEntry.{LedgerEntry}
use Rattle.es_base.specs.declared.literal.LiteralValue.TheVariants as literal_value
use Rattle.es_steps.specs.Generated.{node}
use Rattle.es_steps.specs.Options.{options_of}
use Rattle.es_steps.specs.declared.options.Options.{Options}

-- `class A { set #s(v) {} m() { g(this.#s += f(1), h()); } }`
abbrev pub source_argument_behind_a_throw : Tree
source_argument_behind_a_throw = node Kind.Program 0 (more (string (codes "script")) (more (list (trees (node Kind.ClassDeclaration 1 (more (child (node Kind.BindingIdentifier 2 (more (string (codes "A")) end))) (more absent (more (child (node Kind.ClassBody 3 (more (list (trees (node Kind.MethodDefinition 4 (more (child (node Kind.PrivateIdentifier 5 (more (string (codes "s")) end))) (more (child (node Kind.FunctionExpression 6 (more absent (more (list (trees (node Kind.BindingIdentifier 7 (more (string (codes "v")) end) ∷ []))) (more (child (node Kind.BlockStatement 8 (more (list end) end))) (more (boolean false) (more (boolean false) end))))))) (more (string (codes "set")) (more (boolean false) (more (boolean false) end))))) ∷ node Kind.MethodDefinition 9 (more (child (node Kind.IdentifierName 10 (more (string (codes "m")) end))) (more (child (node Kind.FunctionExpression 11 (more absent (more (list end) (more (child (node Kind.BlockStatement 12 (more (list (trees (node Kind.ExpressionStatement 13 (more (child (node Kind.CallExpression 14 (more (child (node Kind.IdentifierReference 15 (more (string (codes "g")) end))) (more (list (trees (node Kind.AssignmentExpression 16 (more (string (codes "+=")) (more (child (node Kind.PrivateField 17 (more (child (node Kind.ThisExpression 18 end)) (more (child (node Kind.PrivateIdentifier 19 (more (string (codes "s")) end))) (more (boolean false) (more (boolean false) end)))))) (more (child (node Kind.CallExpression 20 (more (child (node Kind.IdentifierReference 21 (more (string (codes "f")) end))) (more (list (trees (node Kind.Literal 22 (more (literal (literal_value.Number (codes "1"))) end) ∷ []))) (more (boolean false) end))))) end))) ∷ node Kind.CallExpression 23 (more (child (node Kind.IdentifierReference 24 (more (string (codes "h")) end))) (more (list end) (more (boolean false) end))) ∷ []))) (more (boolean false) end))))) (more no_string end)) ∷ []))) end))) (more (boolean false) (more (boolean false) end))))))) (more (string (codes "method")) (more (boolean false) (more (boolean false) end))))) ∷ []))) end))) end))) ∷ []))) end))

-- an argument behind a read of a setter, which always throws, as `var _A_brand = new WeakSet(); class A { constructor() { B.classPrivateMethodInitSpec(this, _A_brand); } m() { g(B.toSetter(_set_s.bind(B.assertClassBrand(_A_brand, this)))._ = (this, B.writeOnlyError("#s")) + f(1), h()); } } function _set_s(v) {}` means
abbrev pub output_argument_behind_a_throw : Tree
output_argument_behind_a_throw = node Kind.Program 0 (more (string (codes "script")) (more (list (trees (node Kind.VariableDeclaration 25 (more (string (codes "var")) (more (list (trees (node Kind.VariableDeclarator 26 (more (child (node Kind.BindingIdentifier 27 (more (string (codes "_A_brand")) end))) (more (child (node Kind.NewExpression 28 (more (child (node Kind.IdentifierReference 29 (more (string (codes "WeakSet")) end))) (more (list end) end)))) end)) ∷ []))) end)) ∷ node Kind.ClassDeclaration 1 (more (child (node Kind.BindingIdentifier 2 (more (string (codes "A")) end))) (more absent (more (child (node Kind.ClassBody 3 (more (list (trees (node Kind.MethodDefinition 30 (more (child (node Kind.IdentifierName 31 (more (string (codes "constructor")) end))) (more (child (node Kind.FunctionExpression 32 (more absent (more (list end) (more (child (node Kind.BlockStatement 33 (more (list (trees (node Kind.ExpressionStatement 34 (more (child (node Kind.CallExpression 35 (more (child (node Kind.MemberExpression 36 (more (child (node Kind.IdentifierReference 37 (more (string (codes "babelHelpers")) end))) (more (child (node Kind.IdentifierName 38 (more (string (codes "classPrivateMethodInitSpec")) end))) (more (boolean false) (more (boolean false) end)))))) (more (list (trees (node Kind.ThisExpression 39 end ∷ node Kind.IdentifierReference 40 (more (string (codes "_A_brand")) end) ∷ []))) (more (boolean false) end))))) (more no_string end)) ∷ []))) end))) (more (boolean false) (more (boolean false) end))))))) (more (string (codes "constructor")) (more (boolean false) (more (boolean false) end))))) ∷ node Kind.MethodDefinition 9 (more (child (node Kind.IdentifierName 10 (more (string (codes "m")) end))) (more (child (node Kind.FunctionExpression 11 (more absent (more (list end) (more (child (node Kind.BlockStatement 12 (more (list (trees (node Kind.ExpressionStatement 13 (more (child (node Kind.CallExpression 14 (more (child (node Kind.IdentifierReference 15 (more (string (codes "g")) end))) (more (list (trees (node Kind.AssignmentExpression 41 (more (string (codes "=")) (more (child (node Kind.MemberExpression 42 (more (child (node Kind.CallExpression 43 (more (child (node Kind.MemberExpression 44 (more (child (node Kind.IdentifierReference 45 (more (string (codes "babelHelpers")) end))) (more (child (node Kind.IdentifierName 46 (more (string (codes "toSetter")) end))) (more (boolean false) (more (boolean false) end)))))) (more (list (trees (node Kind.CallExpression 47 (more (child (node Kind.MemberExpression 48 (more (child (node Kind.IdentifierReference 49 (more (string (codes "_set_s")) end))) (more (child (node Kind.IdentifierName 50 (more (string (codes "bind")) end))) (more (boolean false) (more (boolean false) end)))))) (more (list (trees (node Kind.CallExpression 51 (more (child (node Kind.MemberExpression 52 (more (child (node Kind.IdentifierReference 53 (more (string (codes "babelHelpers")) end))) (more (child (node Kind.IdentifierName 54 (more (string (codes "assertClassBrand")) end))) (more (boolean false) (more (boolean false) end)))))) (more (list (trees (node Kind.IdentifierReference 55 (more (string (codes "_A_brand")) end) ∷ node Kind.ThisExpression 18 end ∷ []))) (more (boolean false) end))) ∷ []))) (more (boolean false) end))) ∷ []))) (more (boolean false) end))))) (more (child (node Kind.IdentifierName 56 (more (string (codes "_")) end))) (more (boolean false) (more (boolean false) end)))))) (more (child (node Kind.BinaryExpression 16 (more (string (codes "+")) (more (child (node Kind.SequenceExpression 17 (more (list (trees (node Kind.ThisExpression 57 end ∷ node Kind.CallExpression 58 (more (child (node Kind.MemberExpression 59 (more (child (node Kind.IdentifierReference 60 (more (string (codes "babelHelpers")) end))) (more (child (node Kind.IdentifierName 61 (more (string (codes "writeOnlyError")) end))) (more (boolean false) (more (boolean false) end)))))) (more (list (trees (node Kind.Literal 62 (more (literal (literal_value.String (codes "#s") None)) end) ∷ []))) (more (boolean false) end))) ∷ []))) end))) (more (child (node Kind.CallExpression 20 (more (child (node Kind.IdentifierReference 21 (more (string (codes "f")) end))) (more (list (trees (node Kind.Literal 22 (more (literal (literal_value.Number (codes "1"))) end) ∷ []))) (more (boolean false) end))))) end))))) end))) ∷ node Kind.CallExpression 23 (more (child (node Kind.IdentifierReference 24 (more (string (codes "h")) end))) (more (list end) (more (boolean false) end))) ∷ []))) (more (boolean false) end))))) (more no_string end)) ∷ []))) end))) (more (boolean false) (more (boolean false) end))))))) (more (string (codes "method")) (more (boolean false) (more (boolean false) end))))) ∷ []))) end))) end))) ∷ node Kind.FunctionDeclaration 6 (more (child (node Kind.BindingIdentifier 63 (more (string (codes "_set_s")) end))) (more (list (trees (node Kind.BindingIdentifier 7 (more (string (codes "v")) end) ∷ []))) (more (child (node Kind.BlockStatement 8 (more (list end) end))) (more (boolean false) (more (boolean false) end))))) ∷ []))) end))

abbrev pub generated_argument_behind_a_throw : List LedgerEntry
generated_argument_behind_a_throw = record { name = codes "_A_brand"; kind = GeneratedKind.Brand (record { 0 = 1 }) } ∷ record { name = codes "_set_s"; kind = GeneratedKind.Method (record { 0 = 5 }) } ∷ []

abbrev pub options_argument_behind_a_throw : Options
options_argument_behind_a_throw = options_of false (Some (record { loose = false })) false
