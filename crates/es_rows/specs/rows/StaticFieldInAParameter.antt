-- Printed by tools/rows/number-rows.js from `static_field_in_a_parameter` of tools/rows/forms.json: a worked row with its numbers.
use Rattle.std.specs.Prelude.{ℕ, List, [], ◌∷◌, true, false, codes, Some, None}
use Rattle.es_base.specs.Tree.{Tree, end, more, child, absent, list, string, boolean, literal, trees}
use Rattle.es_base.specs.declared.kind.Kind.{Kind}
use Rattle.es_base.specs.declared.ledger.GeneratedKind.{GeneratedKind}
use Rattle.es_base.specs.declared.ledger.LedgerEntry.{LedgerEntry}
use Rattle.es_base.specs.declared.literal.LiteralValue.TheVariants as literal_value
use Rattle.es_steps.specs.Generated.{node}
use Rattle.es_steps.specs.Options.{options_of}
use Rattle.es_steps.specs.declared.options.Options.{Options}

-- `function f(a = class { static x = 1; }) {}`
abbrev pub source_static_field_in_a_parameter : Tree
source_static_field_in_a_parameter = node Kind.Program 0 (more (string (codes "script")) (more (list (trees (node Kind.FunctionDeclaration 1 (more (child (node Kind.BindingIdentifier 2 (more (string (codes "f")) end))) (more (list (trees (node Kind.AssignmentPattern 3 (more (child (node Kind.BindingIdentifier 4 (more (string (codes "a")) end))) (more (child (node Kind.ClassExpression 5 (more absent (more absent (more (child (node Kind.ClassBody 6 (more (list (trees (node Kind.PropertyDefinition 7 (more (child (node Kind.IdentifierName 8 (more (string (codes "x")) end))) (more (child (node Kind.Literal 9 (more (literal (literal_value.Number (codes "1"))) end))) (more (boolean false) (more (boolean true) end)))) ∷ []))) end))) end))))) end)) ∷ []))) (more (child (node Kind.BlockStatement 10 (more (list end) end))) (more (boolean false) (more (boolean false) end))))) ∷ []))) end))

-- the number of its nodes
abbrev pub nodes_static_field_in_a_parameter : ℕ
nodes_static_field_in_a_parameter = 11

-- `var _Class; function f(a = (_Class = class {}, B.defineProperty(_Class, "x", 1), _Class)) {}`
abbrev pub output_static_field_in_a_parameter : Tree
output_static_field_in_a_parameter = node Kind.Program 0 (more (string (codes "script")) (more (list (trees (node Kind.VariableDeclaration 11 (more (string (codes "var")) (more (list (trees (node Kind.VariableDeclarator 12 (more (child (node Kind.BindingIdentifier 13 (more (string (codes "_Class")) end))) (more absent end)) ∷ []))) end)) ∷ node Kind.FunctionDeclaration 1 (more (child (node Kind.BindingIdentifier 2 (more (string (codes "f")) end))) (more (list (trees (node Kind.AssignmentPattern 3 (more (child (node Kind.BindingIdentifier 4 (more (string (codes "a")) end))) (more (child (node Kind.SequenceExpression 14 (more (list (trees (node Kind.AssignmentExpression 15 (more (string (codes "=")) (more (child (node Kind.IdentifierReference 16 (more (string (codes "_Class")) end))) (more (child (node Kind.ClassExpression 5 (more absent (more absent (more (child (node Kind.ClassBody 6 (more (list end) end))) end))))) end))) ∷ node Kind.CallExpression 17 (more (child (node Kind.MemberExpression 18 (more (child (node Kind.IdentifierReference 19 (more (string (codes "babelHelpers")) end))) (more (child (node Kind.IdentifierName 20 (more (string (codes "defineProperty")) end))) (more (boolean false) (more (boolean false) end)))))) (more (list (trees (node Kind.IdentifierReference 21 (more (string (codes "_Class")) end) ∷ node Kind.Literal 22 (more (literal (literal_value.String (codes "x") None)) end) ∷ node Kind.Literal 9 (more (literal (literal_value.Number (codes "1"))) end) ∷ []))) (more (boolean false) end))) ∷ node Kind.IdentifierReference 23 (more (string (codes "_Class")) end) ∷ []))) end))) end)) ∷ []))) (more (child (node Kind.BlockStatement 10 (more (list end) end))) (more (boolean false) (more (boolean false) end))))) ∷ []))) end))

abbrev pub generated_static_field_in_a_parameter : List LedgerEntry
generated_static_field_in_a_parameter = record { name = codes "_Class"; kind = GeneratedKind.ClassTemp (record { 0 = 5 }) } ∷ []

-- the numbers of its shapes
abbrev pub outside_static_field_in_a_parameter : List ℕ
outside_static_field_in_a_parameter = []

abbrev pub options_static_field_in_a_parameter : Options
options_static_field_in_a_parameter = options_of false (Some (record { loose = false })) false
