-- Printed by tools/rows/number-rows.js from `private_static_of_expression` of tools/rows/forms.json: a worked row with its numbers.
use Rattle.std.specs.Prelude.{ℕ, List, [], ◌∷◌, true, false, codes, Some}
use Rattle.es_base.specs.Tree.{Tree, end, more, child, absent, list, string, boolean, literal, trees}
use Rattle.es_base.specs.declared.kind.Kind.{Kind}
use Rattle.es_base.specs.declared.ledger.GeneratedKind.{GeneratedKind}
use Rattle.es_base.specs.declared.ledger.LedgerEntry.{LedgerEntry}
use Rattle.es_base.specs.declared.literal.LiteralValue.TheVariants as literal_value
use Rattle.es_steps.specs.Generated.{node}
use Rattle.es_steps.specs.Options.{options_of}
use Rattle.es_steps.specs.declared.options.Options.{Options}

-- `let D = class { static #p = 1; };`
abbrev pub source_private_static_of_expression : Tree
source_private_static_of_expression = node Kind.Program 0 (more (string (codes "script")) (more (list (trees (node Kind.VariableDeclaration 1 (more (string (codes "let")) (more (list (trees (node Kind.VariableDeclarator 2 (more (child (node Kind.BindingIdentifier 3 (more (string (codes "D")) end))) (more (child (node Kind.ClassExpression 4 (more absent (more absent (more (child (node Kind.ClassBody 5 (more (list (trees (node Kind.PropertyDefinition 6 (more (child (node Kind.PrivateIdentifier 7 (more (string (codes "p")) end))) (more (child (node Kind.Literal 8 (more (literal (literal_value.Number (codes "1"))) end))) (more (boolean false) (more (boolean true) end)))) ∷ []))) end))) end))))) end)) ∷ []))) end)) ∷ []))) end))

-- the number of its nodes
abbrev pub nodes_private_static_of_expression : ℕ
nodes_private_static_of_expression = 9

-- `var _Class, _p; let D = (_Class = class {}, _p = { _: 1 }, _Class);`
abbrev pub output_private_static_of_expression : Tree
output_private_static_of_expression = node Kind.Program 0 (more (string (codes "script")) (more (list (trees (node Kind.VariableDeclaration 9 (more (string (codes "var")) (more (list (trees (node Kind.VariableDeclarator 10 (more (child (node Kind.BindingIdentifier 11 (more (string (codes "_Class")) end))) (more absent end)) ∷ node Kind.VariableDeclarator 12 (more (child (node Kind.BindingIdentifier 13 (more (string (codes "_p")) end))) (more absent end)) ∷ []))) end)) ∷ node Kind.VariableDeclaration 1 (more (string (codes "let")) (more (list (trees (node Kind.VariableDeclarator 2 (more (child (node Kind.BindingIdentifier 3 (more (string (codes "D")) end))) (more (child (node Kind.SequenceExpression 14 (more (list (trees (node Kind.AssignmentExpression 15 (more (string (codes "=")) (more (child (node Kind.IdentifierReference 16 (more (string (codes "_Class")) end))) (more (child (node Kind.ClassExpression 4 (more absent (more absent (more (child (node Kind.ClassBody 5 (more (list end) end))) end))))) end))) ∷ node Kind.AssignmentExpression 17 (more (string (codes "=")) (more (child (node Kind.IdentifierReference 18 (more (string (codes "_p")) end))) (more (child (node Kind.ObjectExpression 19 (more (list (trees (node Kind.Property 20 (more (child (node Kind.IdentifierName 21 (more (string (codes "_")) end))) (more (child (node Kind.Literal 8 (more (literal (literal_value.Number (codes "1"))) end))) (more (string (codes "init")) (more (boolean false) (more (boolean false) (more (boolean false) end)))))) ∷ []))) end))) end))) ∷ node Kind.IdentifierReference 22 (more (string (codes "_Class")) end) ∷ []))) end))) end)) ∷ []))) end)) ∷ []))) end))

abbrev pub generated_private_static_of_expression : List LedgerEntry
generated_private_static_of_expression = record { name = codes "_Class"; kind = GeneratedKind.ClassTemp (record { 0 = 4 }) } ∷ record { name = codes "_p"; kind = GeneratedKind.StaticField (record { 0 = 7 }) } ∷ []

-- the numbers of its shapes
abbrev pub outside_private_static_of_expression : List ℕ
outside_private_static_of_expression = []

abbrev pub options_private_static_of_expression : Options
options_private_static_of_expression = options_of false (Some (record { loose = false })) false
