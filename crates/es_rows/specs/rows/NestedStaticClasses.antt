-- Printed by tools/rows/number-rows.js from `nested_static_classes` of tools/rows/forms.json: a worked row with its numbers.
use Rattle.std.specs.Prelude.{ℕ, List, [], ◌∷◌, true, false, codes, Some, None}
use Rattle.es_base.specs.Tree.{Tree, end, more, child, absent, list, string, no_string, boolean, literal, trees}
use Rattle.es_base.specs.declared.kind.Kind.{Kind}
use Rattle.es_base.specs.declared.ledger.GeneratedKind.{GeneratedKind}
use Rattle.es_base.specs.declared.ledger.LedgerEntry.{LedgerEntry}
use Rattle.es_base.specs.declared.literal.LiteralValue.TheVariants as literal_value
use Rattle.es_steps.specs.Generated.{node}
use Rattle.es_steps.specs.Options.{options_of}
use Rattle.es_steps.specs.declared.options.Options.{Options}

-- `class C { static a = class D { static b = D; }; }`
abbrev pub source_nested_static_classes : Tree
source_nested_static_classes = node Kind.Program 0 (more (string (codes "script")) (more (list (trees (node Kind.ClassDeclaration 1 (more (child (node Kind.BindingIdentifier 2 (more (string (codes "C")) end))) (more absent (more (child (node Kind.ClassBody 3 (more (list (trees (node Kind.PropertyDefinition 4 (more (child (node Kind.IdentifierName 5 (more (string (codes "a")) end))) (more (child (node Kind.ClassExpression 6 (more (child (node Kind.BindingIdentifier 7 (more (string (codes "D")) end))) (more absent (more (child (node Kind.ClassBody 8 (more (list (trees (node Kind.PropertyDefinition 9 (more (child (node Kind.IdentifierName 10 (more (string (codes "b")) end))) (more (child (node Kind.IdentifierReference 11 (more (string (codes "D")) end))) (more (boolean false) (more (boolean true) end)))) ∷ []))) end))) end))))) (more (boolean false) (more (boolean true) end)))) ∷ []))) end))) end))) ∷ []))) end))

-- the number of its nodes
abbrev pub nodes_nested_static_classes : ℕ
nodes_nested_static_classes = 12

-- `var _D; class C {} B.defineProperty(C, "a", (_D = class D {}, B.defineProperty(_D, "b", _D), _D));`
abbrev pub output_nested_static_classes : Tree
output_nested_static_classes = node Kind.Program 0 (more (string (codes "script")) (more (list (trees (node Kind.VariableDeclaration 12 (more (string (codes "var")) (more (list (trees (node Kind.VariableDeclarator 13 (more (child (node Kind.BindingIdentifier 14 (more (string (codes "_D")) end))) (more absent end)) ∷ []))) end)) ∷ node Kind.ClassDeclaration 1 (more (child (node Kind.BindingIdentifier 2 (more (string (codes "C")) end))) (more absent (more (child (node Kind.ClassBody 3 (more (list end) end))) end))) ∷ node Kind.ExpressionStatement 15 (more (child (node Kind.CallExpression 16 (more (child (node Kind.MemberExpression 17 (more (child (node Kind.IdentifierReference 18 (more (string (codes "babelHelpers")) end))) (more (child (node Kind.IdentifierName 19 (more (string (codes "defineProperty")) end))) (more (boolean false) (more (boolean false) end)))))) (more (list (trees (node Kind.IdentifierReference 20 (more (string (codes "C")) end) ∷ node Kind.Literal 21 (more (literal (literal_value.String (codes "a") None)) end) ∷ node Kind.SequenceExpression 22 (more (list (trees (node Kind.AssignmentExpression 23 (more (string (codes "=")) (more (child (node Kind.IdentifierReference 24 (more (string (codes "_D")) end))) (more (child (node Kind.ClassExpression 6 (more (child (node Kind.BindingIdentifier 7 (more (string (codes "D")) end))) (more absent (more (child (node Kind.ClassBody 8 (more (list end) end))) end))))) end))) ∷ node Kind.CallExpression 25 (more (child (node Kind.MemberExpression 26 (more (child (node Kind.IdentifierReference 27 (more (string (codes "babelHelpers")) end))) (more (child (node Kind.IdentifierName 28 (more (string (codes "defineProperty")) end))) (more (boolean false) (more (boolean false) end)))))) (more (list (trees (node Kind.IdentifierReference 29 (more (string (codes "_D")) end) ∷ node Kind.Literal 30 (more (literal (literal_value.String (codes "b") None)) end) ∷ node Kind.IdentifierReference 11 (more (string (codes "_D")) end) ∷ []))) (more (boolean false) end))) ∷ node Kind.IdentifierReference 31 (more (string (codes "_D")) end) ∷ []))) end) ∷ []))) (more (boolean false) end))))) (more no_string end)) ∷ []))) end))

abbrev pub generated_nested_static_classes : List LedgerEntry
generated_nested_static_classes = record { name = codes "_D"; kind = GeneratedKind.ClassTemp (record { 0 = 6 }) } ∷ []

-- the numbers of its shapes
abbrev pub outside_nested_static_classes : List ℕ
outside_nested_static_classes = []

abbrev pub options_nested_static_classes : Options
options_nested_static_classes = options_of false (Some (record { loose = false })) false
