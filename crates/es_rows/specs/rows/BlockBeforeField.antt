-- Printed by tools/rows/number-rows.js from `block_before_field` of tools/rows/rows.json: a worked row with its numbers.
use Rattle.std.specs.Prelude.{ℕ, List, [], ◌∷◌, true, false, codes, None}
use Rattle.es_base.specs.Tree.{Tree, end, more, child, absent, list, string, no_string, boolean, literal, trees}
use Rattle.es_base.specs.declared.kind.Kind.{Kind}
use Rattle.es_base.specs.declared.ledger.LedgerEntry.{LedgerEntry}
use Rattle.es_base.specs.declared.literal.LiteralValue.TheVariants as literal_value
use Rattle.es_steps.specs.Generated.{node}
use Rattle.es_steps.specs.Options.{options_of}
use Rattle.es_steps.specs.declared.options.Options.{Options}

-- `class C { static { a; } static x = 1; }`
abbrev pub source_block_before_field : Tree
source_block_before_field = node Kind.Program 0 (more (string (codes "script")) (more (list (trees (node Kind.ClassDeclaration 1 (more (child (node Kind.BindingIdentifier 2 (more (string (codes "C")) end))) (more absent (more (child (node Kind.ClassBody 3 (more (list (trees (node Kind.StaticBlock 4 (more (list (trees (node Kind.ExpressionStatement 5 (more (child (node Kind.IdentifierReference 6 (more (string (codes "a")) end))) (more no_string end)) ∷ []))) end) ∷ node Kind.PropertyDefinition 7 (more (child (node Kind.IdentifierName 8 (more (string (codes "x")) end))) (more (child (node Kind.Literal 9 (more (literal (literal_value.Number (codes "1"))) end))) (more (boolean false) (more (boolean true) end)))) ∷ []))) end))) end))) ∷ []))) end))

-- the number of its nodes
abbrev pub nodes_block_before_field : ℕ
nodes_block_before_field = 10

-- `class C { static x = (a, 1); }`
abbrev pub output_block_before_field : Tree
output_block_before_field = node Kind.Program 0 (more (string (codes "script")) (more (list (trees (node Kind.ClassDeclaration 1 (more (child (node Kind.BindingIdentifier 2 (more (string (codes "C")) end))) (more absent (more (child (node Kind.ClassBody 3 (more (list (trees (node Kind.PropertyDefinition 7 (more (child (node Kind.IdentifierName 8 (more (string (codes "x")) end))) (more (child (node Kind.SequenceExpression 10 (more (list (trees (node Kind.IdentifierReference 6 (more (string (codes "a")) end) ∷ node Kind.Literal 9 (more (literal (literal_value.Number (codes "1"))) end) ∷ []))) end))) (more (boolean false) (more (boolean true) end)))) ∷ []))) end))) end))) ∷ []))) end))

abbrev pub generated_block_before_field : List LedgerEntry
generated_block_before_field = []

-- the numbers of its shapes
abbrev pub outside_block_before_field : List ℕ
outside_block_before_field = []

abbrev pub options_block_before_field : Options
options_block_before_field = options_of true None false
