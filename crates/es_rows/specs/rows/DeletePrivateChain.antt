-- Printed by tools/rows/number-rows.js from `delete_private_chain` of tools/rows/rows.json: a worked row with its numbers.
use Rattle.std.specs.Prelude.{ℕ, List, [], ◌∷◌, true, false, codes, Some}
use Rattle.es_base.specs.Tree.{Tree, end, more, child, absent, list, string, no_string, boolean, literal, trees}
use Rattle.es_base.specs.declared.kind.Kind.{Kind}
use Rattle.es_base.specs.declared.ledger.GeneratedKind.{GeneratedKind}
use Rattle.es_base.specs.declared.ledger.LedgerEntry.{LedgerEntry}
use Rattle.es_base.specs.declared.literal.LiteralValue.TheVariants as literal_value
use Rattle.es_steps.specs.Generated.{node}
use Rattle.es_steps.specs.Options.{options_of}
use Rattle.es_steps.specs.declared.options.Options.{Options}

-- `class A { #prop; m(object) { return delete object?.#prop.xyz; } }`
abbrev pub source_delete_private_chain : Tree
source_delete_private_chain = node Kind.Program 0 (more (string (codes "script")) (more (list (trees (node Kind.ClassDeclaration 1 (more (child (node Kind.BindingIdentifier 2 (more (string (codes "A")) end))) (more absent (more (child (node Kind.ClassBody 3 (more (list (trees (node Kind.PropertyDefinition 4 (more (child (node Kind.PrivateIdentifier 5 (more (string (codes "prop")) end))) (more absent (more (boolean false) (more (boolean false) end)))) ∷ node Kind.MethodDefinition 6 (more (child (node Kind.IdentifierName 7 (more (string (codes "m")) end))) (more (child (node Kind.FunctionExpression 8 (more absent (more (list (trees (node Kind.BindingIdentifier 9 (more (string (codes "object")) end) ∷ []))) (more (child (node Kind.BlockStatement 10 (more (list (trees (node Kind.ReturnStatement 11 (more (child (node Kind.UnaryExpression 12 (more (string (codes "delete")) (more (child (node Kind.ChainExpression 13 (more (child (node Kind.MemberExpression 14 (more (child (node Kind.PrivateField 15 (more (child (node Kind.IdentifierReference 16 (more (string (codes "object")) end))) (more (child (node Kind.PrivateIdentifier 17 (more (string (codes "prop")) end))) (more (boolean false) (more (boolean true) end)))))) (more (child (node Kind.IdentifierName 18 (more (string (codes "xyz")) end))) (more (boolean false) (more (boolean false) end)))))) end))) end)))) end) ∷ []))) end))) (more (boolean false) (more (boolean false) end))))))) (more (string (codes "method")) (more (boolean false) (more (boolean false) end))))) ∷ []))) end))) end))) ∷ []))) end))

-- the number of its nodes
abbrev pub nodes_delete_private_chain : ℕ
nodes_delete_private_chain = 19

-- `var _prop = new WeakMap(); class A { constructor() { B.classPrivateFieldInitSpec(this, _prop, void 0); } m(object) { return object === null || object === void 0 ? true : delete B.classPrivateFieldGet2(_prop, object).xyz; } }`
abbrev pub output_delete_private_chain : Tree
output_delete_private_chain = node Kind.Program 0 (more (string (codes "script")) (more (list (trees (node Kind.VariableDeclaration 19 (more (string (codes "var")) (more (list (trees (node Kind.VariableDeclarator 20 (more (child (node Kind.BindingIdentifier 21 (more (string (codes "_prop")) end))) (more (child (node Kind.NewExpression 22 (more (child (node Kind.IdentifierReference 23 (more (string (codes "WeakMap")) end))) (more (list end) end)))) end)) ∷ []))) end)) ∷ node Kind.ClassDeclaration 1 (more (child (node Kind.BindingIdentifier 2 (more (string (codes "A")) end))) (more absent (more (child (node Kind.ClassBody 3 (more (list (trees (node Kind.MethodDefinition 24 (more (child (node Kind.IdentifierName 25 (more (string (codes "constructor")) end))) (more (child (node Kind.FunctionExpression 26 (more absent (more (list end) (more (child (node Kind.BlockStatement 27 (more (list (trees (node Kind.ExpressionStatement 28 (more (child (node Kind.CallExpression 29 (more (child (node Kind.MemberExpression 30 (more (child (node Kind.IdentifierReference 31 (more (string (codes "babelHelpers")) end))) (more (child (node Kind.IdentifierName 32 (more (string (codes "classPrivateFieldInitSpec")) end))) (more (boolean false) (more (boolean false) end)))))) (more (list (trees (node Kind.ThisExpression 33 end ∷ node Kind.IdentifierReference 34 (more (string (codes "_prop")) end) ∷ node Kind.UnaryExpression 35 (more (string (codes "void")) (more (child (node Kind.Literal 36 (more (literal (literal_value.Number (codes "0"))) end))) end)) ∷ []))) (more (boolean false) end))))) (more no_string end)) ∷ []))) end))) (more (boolean false) (more (boolean false) end))))))) (more (string (codes "constructor")) (more (boolean false) (more (boolean false) end))))) ∷ node Kind.MethodDefinition 6 (more (child (node Kind.IdentifierName 7 (more (string (codes "m")) end))) (more (child (node Kind.FunctionExpression 8 (more absent (more (list (trees (node Kind.BindingIdentifier 9 (more (string (codes "object")) end) ∷ []))) (more (child (node Kind.BlockStatement 10 (more (list (trees (node Kind.ReturnStatement 11 (more (child (node Kind.ConditionalExpression 12 (more (child (node Kind.LogicalExpression 37 (more (string (codes "||")) (more (child (node Kind.BinaryExpression 38 (more (string (codes "===")) (more (child (node Kind.IdentifierReference 16 (more (string (codes "object")) end))) (more (child (node Kind.Literal 39 (more (literal (literal_value.Null)) end))) end))))) (more (child (node Kind.BinaryExpression 40 (more (string (codes "===")) (more (child (node Kind.IdentifierReference 41 (more (string (codes "object")) end))) (more (child (node Kind.UnaryExpression 42 (more (string (codes "void")) (more (child (node Kind.Literal 43 (more (literal (literal_value.Number (codes "0"))) end))) end)))) end))))) end))))) (more (child (node Kind.Literal 44 (more (literal (literal_value.Boolean true)) end))) (more (child (node Kind.UnaryExpression 45 (more (string (codes "delete")) (more (child (node Kind.MemberExpression 14 (more (child (node Kind.CallExpression 15 (more (child (node Kind.MemberExpression 46 (more (child (node Kind.IdentifierReference 47 (more (string (codes "babelHelpers")) end))) (more (child (node Kind.IdentifierName 48 (more (string (codes "classPrivateFieldGet2")) end))) (more (boolean false) (more (boolean false) end)))))) (more (list (trees (node Kind.IdentifierReference 49 (more (string (codes "_prop")) end) ∷ node Kind.IdentifierReference 50 (more (string (codes "object")) end) ∷ []))) (more (boolean false) end))))) (more (child (node Kind.IdentifierName 18 (more (string (codes "xyz")) end))) (more (boolean false) (more (boolean false) end)))))) end)))) end))))) end) ∷ []))) end))) (more (boolean false) (more (boolean false) end))))))) (more (string (codes "method")) (more (boolean false) (more (boolean false) end))))) ∷ []))) end))) end))) ∷ []))) end))

abbrev pub generated_delete_private_chain : List LedgerEntry
generated_delete_private_chain = record { name = codes "_prop"; kind = GeneratedKind.WeakMap (record { 0 = 5 }) } ∷ []

-- the numbers of its shapes
abbrev pub outside_delete_private_chain : List ℕ
outside_delete_private_chain = 8 ∷ []

abbrev pub options_delete_private_chain : Options
options_delete_private_chain = options_of false (Some (record { loose = false })) false
