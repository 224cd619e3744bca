-- Printed by tools/rows/number-rows.js from `block_before_named_function` of tools/rows/rows.json: a worked row with its numbers.
use Rattle.std.specs.Prelude.{ℕ, List, [], ◌∷◌, true, false, codes, None}
use Rattle.es_base.specs.Tree.{Tree, end, more, child, absent, list, string, no_string, boolean, literal, trees}
use Rattle.es_base.specs.declared.kind.Kind.{Kind}
use Rattle.es_base.specs.declared.ledger.LedgerEntry.{LedgerEntry}
use Rattle.es_base.specs.declared.literal.LiteralValue.TheVariants as literal_value
use Rattle.es_steps.specs.Generated.{node}
use Rattle.es_steps.specs.Options.{options_of}
use Rattle.es_steps.specs.declared.options.Options.{Options}

-- `class C { static { a; } static f = () => 1; }`
abbrev pub source_block_before_named_function : Tree
source_block_before_named_function = node Kind.Program 0 (more (string (codes "script")) (more (list (trees (node Kind.ClassDeclaration 1 (more (child (node Kind.BindingIdentifier 2 (more (string (codes "C")) end))) (more absent (more (child (node Kind.ClassBody 3 (more (list (trees (node Kind.StaticBlock 4 (more (list (trees (node Kind.ExpressionStatement 5 (more (child (node Kind.IdentifierReference 6 (more (string (codes "a")) end))) (more no_string end)) ∷ []))) end) ∷ node Kind.PropertyDefinition 7 (more (child (node Kind.IdentifierName 8 (more (string (codes "f")) end))) (more (child (node Kind.ArrowFunctionExpression 9 (more (list end) (more (child (node Kind.Literal 10 (more (literal (literal_value.Number (codes "1"))) end))) (more (boolean false) end))))) (more (boolean false) (more (boolean true) end)))) ∷ []))) end))) end))) ∷ []))) end))

-- the number of its nodes
abbrev pub nodes_block_before_named_function : ℕ
nodes_block_before_named_function = 11

-- `class C { static f = (a, B.setFunctionName(() => 1, "f")); }`
abbrev pub output_block_before_named_function : Tree
output_block_before_named_function = node Kind.Program 0 (more (string (codes "script")) (more (list (trees (node Kind.ClassDeclaration 1 (more (child (node Kind.BindingIdentifier 2 (more (string (codes "C")) end))) (more absent (more (child (node Kind.ClassBody 3 (more (list (trees (node Kind.PropertyDefinition 7 (more (child (node Kind.IdentifierName 8 (more (string (codes "f")) end))) (more (child (node Kind.SequenceExpression 11 (more (list (trees (node Kind.IdentifierReference 6 (more (string (codes "a")) end) ∷ node Kind.CallExpression 12 (more (child (node Kind.MemberExpression 13 (more (child (node Kind.IdentifierReference 14 (more (string (codes "babelHelpers")) end))) (more (child (node Kind.IdentifierName 15 (more (string (codes "setFunctionName")) end))) (more (boolean false) (more (boolean false) end)))))) (more (list (trees (node Kind.ArrowFunctionExpression 9 (more (list end) (more (child (node Kind.Literal 10 (more (literal (literal_value.Number (codes "1"))) end))) (more (boolean false) end))) ∷ node Kind.Literal 16 (more (literal (literal_value.String (codes "f") None)) end) ∷ []))) (more (boolean false) end))) ∷ []))) end))) (more (boolean false) (more (boolean true) end)))) ∷ []))) end))) end))) ∷ []))) end))

abbrev pub generated_block_before_named_function : List LedgerEntry
generated_block_before_named_function = []

-- the numbers of its shapes
abbrev pub outside_block_before_named_function : List ℕ
outside_block_before_named_function = []

abbrev pub options_block_before_named_function : Options
options_block_before_named_function = options_of true None false
