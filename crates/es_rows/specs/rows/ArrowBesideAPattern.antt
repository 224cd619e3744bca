-- Printed by tools/rows/number-rows.js from `arrow_beside_a_pattern` of tools/rows/forms.json: a worked row with its numbers.
use Rattle.std.specs.Prelude.{ℕ, List, [], ◌∷◌, true, false, codes, Some, None}
use Rattle.es_base.specs.Tree.{Tree, end, more, child, absent, list, string, no_string, boolean, literal, trees}
use Rattle.es_base.specs.declared.kind.Kind.{Kind}
use Rattle.es_base.specs.declared.ledger.LedgerEntry.{LedgerEntry}
use Rattle.es_base.specs.declared.literal.LiteralValue.TheVariants as literal_value
use Rattle.es_steps.specs.Generated.{node}
use Rattle.es_steps.specs.Options.{options_of}
use Rattle.es_steps.specs.declared.options.Options.{Options}

-- `class A extends P { x = () => 1; constructor({ a }) { super(a); } }`
abbrev pub source_arrow_beside_a_pattern : Tree
source_arrow_beside_a_pattern = node Kind.Program 0 (more (string (codes "script")) (more (list (trees (node Kind.ClassDeclaration 1 (more (child (node Kind.BindingIdentifier 2 (more (string (codes "A")) end))) (more (child (node Kind.IdentifierReference 3 (more (string (codes "P")) end))) (more (child (node Kind.ClassBody 4 (more (list (trees (node Kind.PropertyDefinition 5 (more (child (node Kind.IdentifierName 6 (more (string (codes "x")) end))) (more (child (node Kind.ArrowFunctionExpression 7 (more (list end) (more (child (node Kind.Literal 8 (more (literal (literal_value.Number (codes "1"))) end))) (more (boolean false) end))))) (more (boolean false) (more (boolean false) end)))) ∷ node Kind.MethodDefinition 9 (more (child (node Kind.IdentifierName 10 (more (string (codes "constructor")) end))) (more (child (node Kind.FunctionExpression 11 (more absent (more (list (trees (node Kind.ObjectPattern 12 (more (list (trees (node Kind.BindingProperty 13 (more (child (node Kind.IdentifierName 14 (more (string (codes "a")) end))) (more (child (node Kind.BindingIdentifier 15 (more (string (codes "a")) end))) (more (string (codes "init")) (more (boolean false) (more (boolean true) (more (boolean false) end)))))) ∷ []))) end) ∷ []))) (more (child (node Kind.BlockStatement 16 (more (list (trees (node Kind.ExpressionStatement 17 (more (child (node Kind.CallExpression 18 (more (child (node Kind.Super 19 end)) (more (list (trees (node Kind.IdentifierReference 20 (more (string (codes "a")) end) ∷ []))) (more (boolean false) end))))) (more no_string end)) ∷ []))) end))) (more (boolean false) (more (boolean false) end))))))) (more (string (codes "constructor")) (more (boolean false) (more (boolean false) end))))) ∷ []))) end))) end))) ∷ []))) end))

-- the number of its nodes
abbrev pub nodes_arrow_beside_a_pattern : ℕ
nodes_arrow_beside_a_pattern = 21

-- `class A extends P { constructor({ a }) { super(a); B.defineProperty(this, "x", () => 1); } }`
abbrev pub output_arrow_beside_a_pattern : Tree
output_arrow_beside_a_pattern = node Kind.Program 0 (more (string (codes "script")) (more (list (trees (node Kind.ClassDeclaration 1 (more (child (node Kind.BindingIdentifier 2 (more (string (codes "A")) end))) (more (child (node Kind.IdentifierReference 3 (more (string (codes "P")) end))) (more (child (node Kind.ClassBody 4 (more (list (trees (node Kind.MethodDefinition 9 (more (child (node Kind.IdentifierName 10 (more (string (codes "constructor")) end))) (more (child (node Kind.FunctionExpression 11 (more absent (more (list (trees (node Kind.ObjectPattern 12 (more (list (trees (node Kind.BindingProperty 13 (more (child (node Kind.IdentifierName 14 (more (string (codes "a")) end))) (more (child (node Kind.BindingIdentifier 15 (more (string (codes "a")) end))) (more (string (codes "init")) (more (boolean false) (more (boolean true) (more (boolean false) end)))))) ∷ []))) end) ∷ []))) (more (child (node Kind.BlockStatement 16 (more (list (trees (node Kind.ExpressionStatement 17 (more (child (node Kind.CallExpression 18 (more (child (node Kind.Super 19 end)) (more (list (trees (node Kind.IdentifierReference 20 (more (string (codes "a")) end) ∷ []))) (more (boolean false) end))))) (more no_string end)) ∷ node Kind.ExpressionStatement 21 (more (child (node Kind.CallExpression 22 (more (child (node Kind.MemberExpression 23 (more (child (node Kind.IdentifierReference 24 (more (string (codes "babelHelpers")) end))) (more (child (node Kind.IdentifierName 25 (more (string (codes "defineProperty")) end))) (more (boolean false) (more (boolean false) end)))))) (more (list (trees (node Kind.ThisExpression 26 end ∷ node Kind.Literal 27 (more (literal (literal_value.String (codes "x") None)) end) ∷ node Kind.ArrowFunctionExpression 7 (more (list end) (more (child (node Kind.Literal 8 (more (literal (literal_value.Number (codes "1"))) end))) (more (boolean false) end))) ∷ []))) (more (boolean false) end))))) (more no_string end)) ∷ []))) end))) (more (boolean false) (more (boolean false) end))))))) (more (string (codes "constructor")) (more (boolean false) (more (boolean false) end))))) ∷ []))) end))) end))) ∷ []))) end))

abbrev pub generated_arrow_beside_a_pattern : List LedgerEntry
generated_arrow_beside_a_pattern = []

-- the numbers of its shapes
abbrev pub outside_arrow_beside_a_pattern : List ℕ
outside_arrow_beside_a_pattern = []

abbrev pub options_arrow_beside_a_pattern : Options
options_arrow_beside_a_pattern = options_of false (Some (record { loose = false })) false
