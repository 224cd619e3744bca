-- Printed by tools/rows/number-rows.js from `deleted_this` of tools/rows/forms.json: a worked row with its numbers.
use Rattle.std.specs.Prelude.{ℕ, List, [], ◌∷◌, true, false, codes, Some, None}
use Rattle.es_base.specs.Tree.{Tree, end, more, child, absent, list, string, no_string, boolean, literal, trees}
use Rattle.es_base.specs.declared.kind.Kind.{Kind}
use Rattle.es_base.specs.declared.ledger.LedgerEntry.{LedgerEntry}
use Rattle.es_base.specs.declared.literal.LiteralValue.TheVariants as literal_value
use Rattle.es_steps.specs.Generated.{node}
use Rattle.es_steps.specs.Options.{options_of}
use Rattle.es_steps.specs.declared.options.Options.{Options}

-- `class C { static a = delete this; }`
abbrev pub source_deleted_this : Tree
source_deleted_this = node Kind.Program 0 (more (string (codes "script")) (more (list (trees (node Kind.ClassDeclaration 1 (more (child (node Kind.BindingIdentifier 2 (more (string (codes "C")) end))) (more absent (more (child (node Kind.ClassBody 3 (more (list (trees (node Kind.PropertyDefinition 4 (more (child (node Kind.IdentifierName 5 (more (string (codes "a")) end))) (more (child (node Kind.UnaryExpression 6 (more (string (codes "delete")) (more (child (node Kind.ThisExpression 7 end)) end)))) (more (boolean false) (more (boolean true) end)))) ∷ []))) end))) end))) ∷ []))) end))

-- the number of its nodes
abbrev pub nodes_deleted_this : ℕ
nodes_deleted_this = 8

-- `class C {} B.defineProperty(C, "a", true);`
abbrev pub output_deleted_this : Tree
output_deleted_this = node Kind.Program 0 (more (string (codes "script")) (more (list (trees (node Kind.ClassDeclaration 1 (more (child (node Kind.BindingIdentifier 2 (more (string (codes "C")) end))) (more absent (more (child (node Kind.ClassBody 3 (more (list end) end))) end))) ∷ node Kind.ExpressionStatement 8 (more (child (node Kind.CallExpression 9 (more (child (node Kind.MemberExpression 10 (more (child (node Kind.IdentifierReference 11 (more (string (codes "babelHelpers")) end))) (more (child (node Kind.IdentifierName 12 (more (string (codes "defineProperty")) end))) (more (boolean false) (more (boolean false) end)))))) (more (list (trees (node Kind.IdentifierReference 13 (more (string (codes "C")) end) ∷ node Kind.Literal 14 (more (literal (literal_value.String (codes "a") None)) end) ∷ node Kind.Literal 15 (more (literal (literal_value.Boolean true)) end) ∷ []))) (more (boolean false) end))))) (more no_string end)) ∷ []))) end))

abbrev pub generated_deleted_this : List LedgerEntry
generated_deleted_this = []

-- the numbers of its shapes
abbrev pub outside_deleted_this : List ℕ
outside_deleted_this = []

abbrev pub options_deleted_this : Options
options_deleted_this = options_of false (Some (record { loose = false })) false
