-- Printed by tools/rows/number-rows.js from `super_member_writes` of tools/rows/forms.json: a worked row with its numbers.
use Rattle.std.specs.Prelude.{ℕ, List, [], ◌∷◌, true, false, codes, Some, None}
use Rattle.es_base.specs.Tree.{Tree, end, more, child, absent, list, string, no_string, boolean, literal, trees}
use Rattle.es_base.specs.declared.kind.Kind.{Kind}
use Rattle.es_base.specs.declared.ledger.GeneratedKind.{GeneratedKind}
use Rattle.es_base.specs.declared.ledger.LedgerEntry.{LedgerEntry}
use Rattle.es_base.specs.declared.literal.LiteralValue.TheVariants as literal_value
use Rattle.es_steps.specs.Generated.{node}
use Rattle.es_steps.specs.Options.{options_of}
use Rattle.es_steps.specs.declared.options.Options.{Options}

-- `class A extends P { static #m(k) { super.p = 1; super[k()] += 2; } }`
abbrev pub source_super_member_writes : Tree
source_super_member_writes = node Kind.Program 0 (more (string (codes "script")) (more (list (trees (node Kind.ClassDeclaration 1 (more (child (node Kind.BindingIdentifier 2 (more (string (codes "A")) end))) (more (child (node Kind.IdentifierReference 3 (more (string (codes "P")) end))) (more (child (node Kind.ClassBody 4 (more (list (trees (node Kind.MethodDefinition 5 (more (child (node Kind.PrivateIdentifier 6 (more (string (codes "m")) end))) (more (child (node Kind.FunctionExpression 7 (more absent (more (list (trees (node Kind.BindingIdentifier 8 (more (string (codes "k")) end) ∷ []))) (more (child (node Kind.BlockStatement 9 (more (list (trees (node Kind.ExpressionStatement 10 (more (child (node Kind.AssignmentExpression 11 (more (string (codes "=")) (more (child (node Kind.MemberExpression 12 (more (child (node Kind.Super 13 end)) (more (child (node Kind.IdentifierName 14 (more (string (codes "p")) end))) (more (boolean false) (more (boolean false) end)))))) (more (child (node Kind.Literal 15 (more (literal (literal_value.Number (codes "1"))) end))) end))))) (more no_string end)) ∷ node Kind.ExpressionStatement 16 (more (child (node Kind.AssignmentExpression 17 (more (string (codes "+=")) (more (child (node Kind.MemberExpression 18 (more (child (node Kind.Super 19 end)) (more (child (node Kind.CallExpression 20 (more (child (node Kind.IdentifierReference 21 (more (string (codes "k")) end))) (more (list end) (more (boolean false) end))))) (more (boolean true) (more (boolean false) end)))))) (more (child (node Kind.Literal 22 (more (literal (literal_value.Number (codes "2"))) end))) end))))) (more no_string end)) ∷ []))) end))) (more (boolean false) (more (boolean false) end))))))) (more (string (codes "method")) (more (boolean false) (more (boolean true) end))))) ∷ []))) end))) end))) ∷ []))) end))

-- the number of its nodes
abbrev pub nodes_super_member_writes : ℕ
nodes_super_member_writes = 23

-- `var _A; class A extends P {} _A = A; function _m(k) { var _k; B.superPropSet(_A, "p", 1, this, 1); B.superPropSet(_A, _k = k(), B.superPropGet(_A, _k, this) + 2, this, 1); }`
abbrev pub output_super_member_writes : Tree
output_super_member_writes = node Kind.Program 0 (more (string (codes "script")) (more (list (trees (node Kind.VariableDeclaration 23 (more (string (codes "var")) (more (list (trees (node Kind.VariableDeclarator 24 (more (child (node Kind.BindingIdentifier 25 (more (string (codes "_A")) end))) (more absent end)) ∷ []))) end)) ∷ node Kind.ClassDeclaration 1 (more (child (node Kind.BindingIdentifier 2 (more (string (codes "A")) end))) (more (child (node Kind.IdentifierReference 3 (more (string (codes "P")) end))) (more (child (node Kind.ClassBody 4 (more (list end) end))) end))) ∷ node Kind.ExpressionStatement 26 (more (child (node Kind.AssignmentExpression 27 (more (string (codes "=")) (more (child (node Kind.IdentifierReference 28 (more (string (codes "_A")) end))) (more (child (node Kind.IdentifierReference 29 (more (string (codes "A")) end))) end))))) (more no_string end)) ∷ node Kind.FunctionDeclaration 7 (more (child (node Kind.BindingIdentifier 30 (more (string (codes "_m")) end))) (more (list (trees (node Kind.BindingIdentifier 8 (more (string (codes "k")) end) ∷ []))) (more (child (node Kind.BlockStatement 9 (more (list (trees (node Kind.VariableDeclaration 31 (more (string (codes "var")) (more (list (trees (node Kind.VariableDeclarator 32 (more (child (node Kind.BindingIdentifier 33 (more (string (codes "_k")) end))) (more absent end)) ∷ []))) end)) ∷ node Kind.ExpressionStatement 10 (more (child (node Kind.CallExpression 11 (more (child (node Kind.MemberExpression 34 (more (child (node Kind.IdentifierReference 35 (more (string (codes "babelHelpers")) end))) (more (child (node Kind.IdentifierName 36 (more (string (codes "superPropSet")) end))) (more (boolean false) (more (boolean false) end)))))) (more (list (trees (node Kind.IdentifierReference 37 (more (string (codes "_A")) end) ∷ node Kind.Literal 38 (more (literal (literal_value.String (codes "p") None)) end) ∷ node Kind.Literal 15 (more (literal (literal_value.Number (codes "1"))) end) ∷ node Kind.ThisExpression 39 end ∷ node Kind.Literal 40 (more (literal (literal_value.Number (codes "1"))) end) ∷ []))) (more (boolean false) end))))) (more no_string end)) ∷ node Kind.ExpressionStatement 16 (more (child (node Kind.CallExpression 41 (more (child (node Kind.MemberExpression 42 (more (child (node Kind.IdentifierReference 43 (more (string (codes "babelHelpers")) end))) (more (child (node Kind.IdentifierName 44 (more (string (codes "superPropSet")) end))) (more (boolean false) (more (boolean false) end)))))) (more (list (trees (node Kind.IdentifierReference 45 (more (string (codes "_A")) end) ∷ node Kind.AssignmentExpression 46 (more (string (codes "=")) (more (child (node Kind.IdentifierReference 47 (more (string (codes "_k")) end))) (more (child (node Kind.CallExpression 20 (more (child (node Kind.IdentifierReference 21 (more (string (codes "k")) end))) (more (list end) (more (boolean false) end))))) end))) ∷ node Kind.BinaryExpression 17 (more (string (codes "+")) (more (child (node Kind.CallExpression 18 (more (child (node Kind.MemberExpression 48 (more (child (node Kind.IdentifierReference 49 (more (string (codes "babelHelpers")) end))) (more (child (node Kind.IdentifierName 50 (more (string (codes "superPropGet")) end))) (more (boolean false) (more (boolean false) end)))))) (more (list (trees (node Kind.IdentifierReference 51 (more (string (codes "_A")) end) ∷ node Kind.IdentifierReference 52 (more (string (codes "_k")) end) ∷ node Kind.ThisExpression 53 end ∷ []))) (more (boolean false) end))))) (more (child (node Kind.Literal 22 (more (literal (literal_value.Number (codes "2"))) end))) end))) ∷ node Kind.ThisExpression 54 end ∷ node Kind.Literal 55 (more (literal (literal_value.Number (codes "1"))) end) ∷ []))) (more (boolean false) end))))) (more no_string end)) ∷ []))) end))) (more (boolean false) (more (boolean false) end))))) ∷ []))) end))

abbrev pub generated_super_member_writes : List LedgerEntry
generated_super_member_writes = record { name = codes "_A"; kind = GeneratedKind.ClassTemp (record { 0 = 1 }) } ∷ record { name = codes "_k"; kind = GeneratedKind.Temp } ∷ record { name = codes "_m"; kind = GeneratedKind.Method (record { 0 = 6 }) } ∷ []

-- the numbers of its shapes
abbrev pub outside_super_member_writes : List ℕ
outside_super_member_writes = []

abbrev pub options_super_member_writes : Options
options_super_member_writes = options_of false (Some (record { loose = false })) false
