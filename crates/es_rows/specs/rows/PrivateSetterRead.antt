-- Printed by tools/rows/number-rows.js from `private_setter_read` of tools/rows/forms.json: a worked row with its numbers.
use Rattle.std.specs.Prelude.{ℕ, List, [], ◌∷◌, false, codes, Some, None}
use Rattle.es_base.specs.Tree.{Tree, end, more, child, absent, list, string, no_string, boolean, literal, trees}
use Rattle.es_base.specs.declared.kind.Kind.{Kind}
use Rattle.es_base.specs.declared.ledger.GeneratedKind.{GeneratedKind}
use Rattle.es_base.specs.declared.ledger.LedgerEntry.{LedgerEntry}
use Rattle.es_base.specs.declared.literal.LiteralValue.TheVariants as literal_value
use Rattle.es_steps.specs.Generated.{node}
use Rattle.es_steps.specs.Options.{options_of}
use Rattle.es_steps.specs.declared.options.Options.{Options}

-- `class A { set #x(v) {} m() { return this.#x; } }`
abbrev pub source_private_setter_read : Tree
source_private_setter_read = node Kind.Program 0 (more (string (codes "script")) (more (list (trees (node Kind.ClassDeclaration 1 (more (child (node Kind.BindingIdentifier 2 (more (string (codes "A")) end))) (more absent (more (child (node Kind.ClassBody 3 (more (list (trees (node Kind.MethodDefinition 4 (more (child (node Kind.PrivateIdentifier 5 (more (string (codes "x")) end))) (more (child (node Kind.FunctionExpression 6 (more absent (more (list (trees (node Kind.BindingIdentifier 7 (more (string (codes "v")) end) ∷ []))) (more (child (node Kind.BlockStatement 8 (more (list end) end))) (more (boolean false) (more (boolean false) end))))))) (more (string (codes "set")) (more (boolean false) (more (boolean false) end))))) ∷ node Kind.MethodDefinition 9 (more (child (node Kind.IdentifierName 10 (more (string (codes "m")) end))) (more (child (node Kind.FunctionExpression 11 (more absent (more (list end) (more (child (node Kind.BlockStatement 12 (more (list (trees (node Kind.ReturnStatement 13 (more (child (node Kind.PrivateField 14 (more (child (node Kind.ThisExpression 15 end)) (more (child (node Kind.PrivateIdentifier 16 (more (string (codes "x")) end))) (more (boolean false) (more (boolean false) end)))))) end) ∷ []))) end))) (more (boolean false) (more (boolean false) end))))))) (more (string (codes "method")) (more (boolean false) (more (boolean false) end))))) ∷ []))) end))) end))) ∷ []))) end))

-- the number of its nodes
abbrev pub nodes_private_setter_read : ℕ
nodes_private_setter_read = 17

-- `var _A_brand = new WeakSet(); class A { constructor() { B.classPrivateMethodInitSpec(this, _A_brand); } m() { return this, B.writeOnlyError("#x"); } } function _set_x(v) {}`
abbrev pub output_private_setter_read : Tree
output_private_setter_read = node Kind.Program 0 (more (string (codes "script")) (more (list (trees (node Kind.VariableDeclaration 17 (more (string (codes "var")) (more (list (trees (node Kind.VariableDeclarator 18 (more (child (node Kind.BindingIdentifier 19 (more (string (codes "_A_brand")) end))) (more (child (node Kind.NewExpression 20 (more (child (node Kind.IdentifierReference 21 (more (string (codes "WeakSet")) end))) (more (list end) end)))) end)) ∷ []))) end)) ∷ node Kind.ClassDeclaration 1 (more (child (node Kind.BindingIdentifier 2 (more (string (codes "A")) end))) (more absent (more (child (node Kind.ClassBody 3 (more (list (trees (node Kind.MethodDefinition 22 (more (child (node Kind.IdentifierName 23 (more (string (codes "constructor")) end))) (more (child (node Kind.FunctionExpression 24 (more absent (more (list end) (more (child (node Kind.BlockStatement 25 (more (list (trees (node Kind.ExpressionStatement 26 (more (child (node Kind.CallExpression 27 (more (child (node Kind.MemberExpression 28 (more (child (node Kind.IdentifierReference 29 (more (string (codes "babelHelpers")) end))) (more (child (node Kind.IdentifierName 30 (more (string (codes "classPrivateMethodInitSpec")) end))) (more (boolean false) (more (boolean false) end)))))) (more (list (trees (node Kind.ThisExpression 31 end ∷ node Kind.IdentifierReference 32 (more (string (codes "_A_brand")) end) ∷ []))) (more (boolean false) end))))) (more no_string end)) ∷ []))) end))) (more (boolean false) (more (boolean false) end))))))) (more (string (codes "constructor")) (more (boolean false) (more (boolean false) end))))) ∷ node Kind.MethodDefinition 9 (more (child (node Kind.IdentifierName 10 (more (string (codes "m")) end))) (more (child (node Kind.FunctionExpression 11 (more absent (more (list end) (more (child (node Kind.BlockStatement 12 (more (list (trees (node Kind.ReturnStatement 13 (more (child (node Kind.SequenceExpression 14 (more (list (trees (node Kind.ThisExpression 15 end ∷ node Kind.CallExpression 33 (more (child (node Kind.MemberExpression 34 (more (child (node Kind.IdentifierReference 35 (more (string (codes "babelHelpers")) end))) (more (child (node Kind.IdentifierName 36 (more (string (codes "writeOnlyError")) end))) (more (boolean false) (more (boolean false) end)))))) (more (list (trees (node Kind.Literal 37 (more (literal (literal_value.String (codes "#x") None)) end) ∷ []))) (more (boolean false) end))) ∷ []))) end))) end) ∷ []))) end))) (more (boolean false) (more (boolean false) end))))))) (more (string (codes "method")) (more (boolean false) (more (boolean false) end))))) ∷ []))) end))) end))) ∷ node Kind.FunctionDeclaration 6 (more (child (node Kind.BindingIdentifier 38 (more (string (codes "_set_x")) end))) (more (list (trees (node Kind.BindingIdentifier 7 (more (string (codes "v")) end) ∷ []))) (more (child (node Kind.BlockStatement 8 (more (list end) end))) (more (boolean false) (more (boolean false) end))))) ∷ []))) end))

abbrev pub generated_private_setter_read : List LedgerEntry
generated_private_setter_read = record { name = codes "_A_brand"; kind = GeneratedKind.Brand (record { 0 = 1 }) } ∷ record { name = codes "_set_x"; kind = GeneratedKind.Method (record { 0 = 5 }) } ∷ []

-- the numbers of its shapes
abbrev pub outside_private_setter_read : List ℕ
outside_private_setter_read = []

abbrev pub options_private_setter_read : Options
options_private_setter_read = options_of false (Some (record { loose = false })) false
