-- Printed by tools/rows/number-rows.js from `static_this_and_target` of tools/rows/rows.json: a worked row with its numbers.
use Rattle.std.specs.Prelude.{ℕ, List, [], ◌∷◌, true, false, codes, Some, None}
use Rattle.es_base.specs.Tree.{Tree, end, more, child, absent, list, string, no_string, boolean, literal, trees}
use Rattle.es_base.specs.declared.kind.Kind.{Kind}
use Rattle.es_base.specs.declared.ledger.GeneratedKind.{GeneratedKind}
use Rattle.es_base.specs.declared.ledger.LedgerEntry.{LedgerEntry}
use Rattle.es_base.specs.declared.literal.LiteralValue.TheVariants as literal_value
use Rattle.es_steps.specs.Generated.{node}
use Rattle.es_steps.specs.Options.{options_of}
use Rattle.es_steps.specs.declared.options.Options.{Options}

-- `class C { static a = this; static b = new.target; }`
abbrev pub source_static_this_and_target : Tree
source_static_this_and_target = node Kind.Program 0 (more (string (codes "script")) (more (list (trees (node Kind.ClassDeclaration 1 (more (child (node Kind.BindingIdentifier 2 (more (string (codes "C")) end))) (more absent (more (child (node Kind.ClassBody 3 (more (list (trees (node Kind.PropertyDefinition 4 (more (child (node Kind.IdentifierName 5 (more (string (codes "a")) end))) (more (child (node Kind.ThisExpression 6 end)) (more (boolean false) (more (boolean true) end)))) ∷ node Kind.PropertyDefinition 7 (more (child (node Kind.IdentifierName 8 (more (string (codes "b")) end))) (more (child (node Kind.MetaProperty 9 (more (child (node Kind.IdentifierName 10 (more (string (codes "new")) end))) (more (child (node Kind.IdentifierName 11 (more (string (codes "target")) end))) end)))) (more (boolean false) (more (boolean true) end)))) ∷ []))) end))) end))) ∷ []))) end))

-- the number of its nodes
abbrev pub nodes_static_this_and_target : ℕ
nodes_static_this_and_target = 12

-- `var _C; class C {} _C = C; B.defineProperty(C, "a", _C); B.defineProperty(C, "b", void 0);`
abbrev pub output_static_this_and_target : Tree
output_static_this_and_target = node Kind.Program 0 (more (string (codes "script")) (more (list (trees (node Kind.VariableDeclaration 12 (more (string (codes "var")) (more (list (trees (node Kind.VariableDeclarator 13 (more (child (node Kind.BindingIdentifier 14 (more (string (codes "_C")) end))) (more absent end)) ∷ []))) end)) ∷ node Kind.ClassDeclaration 1 (more (child (node Kind.BindingIdentifier 2 (more (string (codes "C")) end))) (more absent (more (child (node Kind.ClassBody 3 (more (list end) end))) end))) ∷ node Kind.ExpressionStatement 15 (more (child (node Kind.AssignmentExpression 16 (more (string (codes "=")) (more (child (node Kind.IdentifierReference 17 (more (string (codes "_C")) end))) (more (child (node Kind.IdentifierReference 18 (more (string (codes "C")) end))) end))))) (more no_string end)) ∷ node Kind.ExpressionStatement 19 (more (child (node Kind.CallExpression 20 (more (child (node Kind.MemberExpression 21 (more (child (node Kind.IdentifierReference 22 (more (string (codes "babelHelpers")) end))) (more (child (node Kind.IdentifierName 23 (more (string (codes "defineProperty")) end))) (more (boolean false) (more (boolean false) end)))))) (more (list (trees (node Kind.IdentifierReference 24 (more (string (codes "C")) end) ∷ node Kind.Literal 25 (more (literal (literal_value.String (codes "a") None)) end) ∷ node Kind.IdentifierReference 6 (more (string (codes "_C")) end) ∷ []))) (more (boolean false) end))))) (more no_string end)) ∷ node Kind.ExpressionStatement 26 (more (child (node Kind.CallExpression 27 (more (child (node Kind.MemberExpression 28 (more (child (node Kind.IdentifierReference 29 (more (string (codes "babelHelpers")) end))) (more (child (node Kind.IdentifierName 30 (more (string (codes "defineProperty")) end))) (more (boolean false) (more (boolean false) end)))))) (more (list (trees (node Kind.IdentifierReference 31 (more (string (codes "C")) end) ∷ node Kind.Literal 32 (more (literal (literal_value.String (codes "b") None)) end) ∷ node Kind.UnaryExpression 33 (more (string (codes "void")) (more (child (node Kind.Literal 34 (more (literal (literal_value.Number (codes "0"))) end))) end)) ∷ []))) (more (boolean false) end))))) (more no_string end)) ∷ []))) end))

abbrev pub generated_static_this_and_target : List LedgerEntry
generated_static_this_and_target = record { name = codes "_C"; kind = GeneratedKind.ClassTemp (record { 0 = 1 }) } ∷ []

-- the numbers of its shapes
abbrev pub outside_static_this_and_target : List ℕ
outside_static_this_and_target = []

abbrev pub options_static_this_and_target : Options
options_static_this_and_target = options_of false (Some (record { loose = false })) false
