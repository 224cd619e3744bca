-- Printed by tools/rows/number-rows.js from `set_this_key` of tools/rows/rows.json: a worked row with its numbers.
use Rattle.std.specs.Prelude.{ℕ, List, [], ◌∷◌, true, false, codes, Some}
use Rattle.es_base.specs.Tree.{Tree, end, more, child, absent, list, string, no_string, boolean, literal, trees}
use Rattle.es_base.specs.declared.kind.Kind.{Kind}
use Rattle.es_base.specs.declared.ledger.GeneratedKind.{GeneratedKind}
use Rattle.es_base.specs.declared.ledger.LedgerEntry.{LedgerEntry}
use Rattle.es_base.specs.declared.literal.LiteralValue.TheVariants as literal_value
use Rattle.es_steps.specs.Generated.{node}
use Rattle.es_steps.specs.Options.{options_of}
use Rattle.es_steps.specs.declared.options.Options.{Options}

-- `class C { [this] = 1; }`
abbrev pub source_set_this_key : Tree
source_set_this_key = node Kind.Program 0 (more (string (codes "script")) (more (list (trees (node Kind.ClassDeclaration 1 (more (child (node Kind.BindingIdentifier 2 (more (string (codes "C")) end))) (more absent (more (child (node Kind.ClassBody 3 (more (list (trees (node Kind.PropertyDefinition 4 (more (child (node Kind.ThisExpression 5 end)) (more (child (node Kind.Literal 6 (more (literal (literal_value.Number (codes "1"))) end))) (more (boolean true) (more (boolean false) end)))) ∷ []))) end))) end))) ∷ []))) end))

-- the number of its nodes
abbrev pub nodes_set_this_key : ℕ
nodes_set_this_key = 7

-- `let _this; _this = this; class C { constructor() { this[_this] = 1; } }`
abbrev pub output_set_this_key : Tree
output_set_this_key = node Kind.Program 0 (more (string (codes "script")) (more (list (trees (node Kind.VariableDeclaration 7 (more (string (codes "let")) (more (list (trees (node Kind.VariableDeclarator 8 (more (child (node Kind.BindingIdentifier 9 (more (string (codes "_this")) end))) (more absent end)) ∷ []))) end)) ∷ node Kind.ExpressionStatement 10 (more (child (node Kind.AssignmentExpression 11 (more (string (codes "=")) (more (child (node Kind.IdentifierReference 12 (more (string (codes "_this")) end))) (more (child (node Kind.ThisExpression 5 end)) end))))) (more no_string end)) ∷ node Kind.ClassDeclaration 1 (more (child (node Kind.BindingIdentifier 2 (more (string (codes "C")) end))) (more absent (more (child (node Kind.ClassBody 3 (more (list (trees (node Kind.MethodDefinition 13 (more (child (node Kind.IdentifierName 14 (more (string (codes "constructor")) end))) (more (child (node Kind.FunctionExpression 15 (more absent (more (list end) (more (child (node Kind.BlockStatement 16 (more (list (trees (node Kind.ExpressionStatement 17 (more (child (node Kind.AssignmentExpression 18 (more (string (codes "=")) (more (child (node Kind.MemberExpression 19 (more (child (node Kind.ThisExpression 20 end)) (more (child (node Kind.IdentifierReference 21 (more (string (codes "_this")) end))) (more (boolean true) (more (boolean false) end)))))) (more (child (node Kind.Literal 6 (more (literal (literal_value.Number (codes "1"))) end))) end))))) (more no_string end)) ∷ []))) end))) (more (boolean false) (more (boolean false) end))))))) (more (string (codes "constructor")) (more (boolean false) (more (boolean false) end))))) ∷ []))) end))) end))) ∷ []))) end))

abbrev pub generated_set_this_key : List LedgerEntry
generated_set_this_key = record { name = codes "_this"; kind = GeneratedKind.Temp } ∷ []

-- the numbers of its shapes
abbrev pub outside_set_this_key : List ℕ
outside_set_this_key = []

abbrev pub options_set_this_key : Options
options_set_this_key = options_of false (Some (record { loose = true })) false
