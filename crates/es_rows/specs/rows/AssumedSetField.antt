-- Printed by tools/rows/number-rows.js from `assumed_set_field` of tools/rows/rows.json: a worked row with its numbers.
use Rattle.std.specs.Prelude.{ℕ, List, [], ◌∷◌, true, false, codes, Some}
use Rattle.es_base.specs.Tree.{Tree, end, more, child, absent, list, string, no_string, boolean, literal, trees}
use Rattle.es_base.specs.declared.kind.Kind.{Kind}
use Rattle.es_base.specs.declared.ledger.LedgerEntry.{LedgerEntry}
use Rattle.es_base.specs.declared.literal.LiteralValue.TheVariants as literal_value
use Rattle.es_steps.specs.Generated.{node}
use Rattle.es_steps.specs.Options.{options_of, no_assumptions}
use Rattle.es_steps.specs.declared.options.Options.{Options}

-- `class C { x = 1 }`
abbrev pub source_assumed_set_field : Tree
source_assumed_set_field = node Kind.Program 0 (more (string (codes "script")) (more (list (trees (node Kind.ClassDeclaration 1 (more (child (node Kind.BindingIdentifier 2 (more (string (codes "C")) end))) (more absent (more (child (node Kind.ClassBody 3 (more (list (trees (node Kind.PropertyDefinition 4 (more (child (node Kind.IdentifierName 5 (more (string (codes "x")) end))) (more (child (node Kind.Literal 6 (more (literal (literal_value.Number (codes "1"))) end))) (more (boolean false) (more (boolean false) end)))) ∷ []))) end))) end))) ∷ []))) end))

-- the number of its nodes
abbrev pub nodes_assumed_set_field : ℕ
nodes_assumed_set_field = 7

-- `class C { constructor() { this.x = 1; } }`
abbrev pub output_assumed_set_field : Tree
output_assumed_set_field = node Kind.Program 0 (more (string (codes "script")) (more (list (trees (node Kind.ClassDeclaration 1 (more (child (node Kind.BindingIdentifier 2 (more (string (codes "C")) end))) (more absent (more (child (node Kind.ClassBody 3 (more (list (trees (node Kind.MethodDefinition 7 (more (child (node Kind.IdentifierName 8 (more (string (codes "constructor")) end))) (more (child (node Kind.FunctionExpression 9 (more absent (more (list end) (more (child (node Kind.BlockStatement 10 (more (list (trees (node Kind.ExpressionStatement 11 (more (child (node Kind.AssignmentExpression 12 (more (string (codes "=")) (more (child (node Kind.MemberExpression 13 (more (child (node Kind.ThisExpression 14 end)) (more (child (node Kind.IdentifierName 15 (more (string (codes "x")) end))) (more (boolean false) (more (boolean false) end)))))) (more (child (node Kind.Literal 6 (more (literal (literal_value.Number (codes "1"))) end))) end))))) (more no_string end)) ∷ []))) end))) (more (boolean false) (more (boolean false) end))))))) (more (string (codes "constructor")) (more (boolean false) (more (boolean false) end))))) ∷ []))) end))) end))) ∷ []))) end))

abbrev pub generated_assumed_set_field : List LedgerEntry
generated_assumed_set_field = []

-- the numbers of its shapes
abbrev pub outside_assumed_set_field : List ℕ
outside_assumed_set_field = []

abbrev pub options_assumed_set_field : Options
options_assumed_set_field = record (options_of false (Some (record { loose = false })) false) { assumptions = record no_assumptions { set_public_class_fields = true } }
