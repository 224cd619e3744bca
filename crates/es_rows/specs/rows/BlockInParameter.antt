-- Printed by tools/rows/number-rows.js from `block_in_parameter` of tools/rows/rows.json: a worked row with its numbers.
use Rattle.std.specs.Prelude.{ℕ, List, [], ◌∷◌, true, false, codes, None}
use Rattle.es_base.specs.Tree.{Tree, end, more, child, absent, list, string, no_string, boolean, literal, trees}
use Rattle.es_base.specs.declared.kind.Kind.{Kind}
use Rattle.es_base.specs.declared.ledger.GeneratedKind.{GeneratedKind}
use Rattle.es_base.specs.declared.ledger.LedgerEntry.{LedgerEntry}
use Rattle.es_base.specs.declared.literal.LiteralValue.TheVariants as literal_value
use Rattle.es_steps.specs.Generated.{node}
use Rattle.es_steps.specs.Options.{options_of}
use Rattle.es_steps.specs.declared.options.Options.{Options}

-- `function f(a = class { static { b; } }) {}`
abbrev pub source_block_in_parameter : Tree
source_block_in_parameter = node Kind.Program 0 (more (string (codes "script")) (more (list (trees (node Kind.FunctionDeclaration 1 (more (child (node Kind.BindingIdentifier 2 (more (string (codes "f")) end))) (more (list (trees (node Kind.AssignmentPattern 3 (more (child (node Kind.BindingIdentifier 4 (more (string (codes "a")) end))) (more (child (node Kind.ClassExpression 5 (more absent (more absent (more (child (node Kind.ClassBody 6 (more (list (trees (node Kind.StaticBlock 7 (more (list (trees (node Kind.ExpressionStatement 8 (more (child (node Kind.IdentifierReference 9 (more (string (codes "b")) end))) (more no_string end)) ∷ []))) end) ∷ []))) end))) end))))) end)) ∷ []))) (more (child (node Kind.BlockStatement 10 (more (list end) end))) (more (boolean false) (more (boolean false) end))))) ∷ []))) end))

-- the number of its nodes
abbrev pub nodes_block_in_parameter : ℕ
nodes_block_in_parameter = 11

-- `function f(a = (() => { var _staticBlock; return ({ "a": class { static #_ = _staticBlock = () => (b, this); } }["a"], _staticBlock()); })()) {}`
abbrev pub output_block_in_parameter : Tree
output_block_in_parameter = node Kind.Program 0 (more (string (codes "script")) (more (list (trees (node Kind.FunctionDeclaration 1 (more (child (node Kind.BindingIdentifier 2 (more (string (codes "f")) end))) (more (list (trees (node Kind.AssignmentPattern 3 (more (child (node Kind.BindingIdentifier 4 (more (string (codes "a")) end))) (more (child (node Kind.CallExpression 11 (more (child (node Kind.ArrowFunctionExpression 12 (more (list end) (more (child (node Kind.BlockStatement 13 (more (list (trees (node Kind.VariableDeclaration 14 (more (string (codes "var")) (more (list (trees (node Kind.VariableDeclarator 15 (more (child (node Kind.BindingIdentifier 16 (more (string (codes "_staticBlock")) end))) (more absent end)) ∷ []))) end)) ∷ node Kind.ReturnStatement 17 (more (child (node Kind.SequenceExpression 18 (more (list (trees (node Kind.MemberExpression 19 (more (child (node Kind.ObjectExpression 20 (more (list (trees (node Kind.Property 21 (more (child (node Kind.Literal 22 (more (literal (literal_value.String (codes "a") None)) end))) (more (child (node Kind.ClassExpression 5 (more absent (more absent (more (child (node Kind.ClassBody 6 (more (list (trees (node Kind.PropertyDefinition 23 (more (child (node Kind.PrivateIdentifier 24 (more (string (codes "_")) end))) (more (child (node Kind.AssignmentExpression 25 (more (string (codes "=")) (more (child (node Kind.IdentifierReference 26 (more (string (codes "_staticBlock")) end))) (more (child (node Kind.ArrowFunctionExpression 27 (more (list end) (more (child (node Kind.SequenceExpression 28 (more (list (trees (node Kind.IdentifierReference 9 (more (string (codes "b")) end) ∷ node Kind.ThisExpression 29 end ∷ []))) end))) (more (boolean false) end))))) end))))) (more (boolean false) (more (boolean true) end)))) ∷ []))) end))) end))))) (more (string (codes "init")) (more (boolean false) (more (boolean false) (more (boolean false) end)))))) ∷ []))) end))) (more (child (node Kind.Literal 30 (more (literal (literal_value.String (codes "a") None)) end))) (more (boolean true) (more (boolean false) end)))) ∷ node Kind.CallExpression 31 (more (child (node Kind.IdentifierReference 32 (more (string (codes "_staticBlock")) end))) (more (list end) (more (boolean false) end))) ∷ []))) end))) end) ∷ []))) end))) (more (boolean false) end))))) (more (list end) (more (boolean false) end))))) end)) ∷ []))) (more (child (node Kind.BlockStatement 10 (more (list end) end))) (more (boolean false) (more (boolean false) end))))) ∷ []))) end))

abbrev pub generated_block_in_parameter : List LedgerEntry
generated_block_in_parameter = record { name = codes "_"; kind = GeneratedKind.Private (record { 0 = 5 }) } ∷ record { name = codes "_staticBlock"; kind = GeneratedKind.Closure } ∷ []

-- the numbers of its shapes
abbrev pub outside_block_in_parameter : List ℕ
outside_block_in_parameter = []

abbrev pub options_block_in_parameter : Options
options_block_in_parameter = options_of true None false
