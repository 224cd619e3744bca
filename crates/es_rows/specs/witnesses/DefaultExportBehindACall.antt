-- Printed by tools/rows/witnesses.js.
use Rattle.std.specs.Prelude.{ℕ, List, [], ◌∷◌, false, codes, Some, None}
use Rattle.es_base.specs.Tree.{Tree, end, more, child, absent, list, string, no_string, boolean, literal, trees}
use Rattle.es_base.specs.declared.kind.Kind.{Kind}
use Rattle.es_base.specs.declared.ledger.LedgerEntry.{LedgerEntry}
use Rattle.es_base.specs.declared.literal.LiteralValue.TheVariants as literal_value
use Rattle.es_steps.specs.Generated.{node}
use Rattle.es_steps.specs.Options.{options_of}
use Rattle.es_steps.specs.declared.options.Options.{Options}

-- `export default class C { x = 1; } g();`
abbrev pub source_default_export_behind_a_call : Tree
source_default_export_behind_a_call = node Kind.Program 0 (more (string (codes "module")) (more (list (trees (node Kind.ExportDefaultDeclaration 1 (more (child (node Kind.ClassDeclaration 2 (more (child (node Kind.BindingIdentifier 3 (more (string (codes "C")) end))) (more absent (more (child (node Kind.ClassBody 4 (more (list (trees (node Kind.PropertyDefinition 5 (more (child (node Kind.IdentifierName 6 (more (string (codes "x")) end))) (more (child (node Kind.Literal 7 (more (literal (literal_value.Number (codes "1"))) end))) (more (boolean false) (more (boolean false) end)))) ∷ []))) end))) end))))) end) ∷ node Kind.ExpressionStatement 8 (more (child (node Kind.CallExpression 9 (more (child (node Kind.IdentifierReference 10 (more (string (codes "g")) end))) (more (list end) (more (boolean false) end))))) (more no_string end)) ∷ []))) end))

-- a class that is exported as default, whose export stands behind what stood behind it: `class C { constructor() { B.defineProperty(this, "x", 1); } } g(); export default C;`
abbrev pub output_default_export_behind_a_call : Tree
output_default_export_behind_a_call = node Kind.Program 0 (more (string (codes "module")) (more (list (trees (node Kind.ClassDeclaration 2 (more (child (node Kind.BindingIdentifier 3 (more (string (codes "C")) end))) (more absent (more (child (node Kind.ClassBody 4 (more (list (trees (node Kind.MethodDefinition 11 (more (child (node Kind.IdentifierName 12 (more (string (codes "constructor")) end))) (more (child (node Kind.FunctionExpression 13 (more absent (more (list end) (more (child (node Kind.BlockStatement 14 (more (list (trees (node Kind.ExpressionStatement 15 (more (child (node Kind.CallExpression 16 (more (child (node Kind.MemberExpression 17 (more (child (node Kind.IdentifierReference 18 (more (string (codes "babelHelpers")) end))) (more (child (node Kind.IdentifierName 19 (more (string (codes "defineProperty")) end))) (more (boolean false) (more (boolean false) end)))))) (more (list (trees (node Kind.ThisExpression 20 end ∷ node Kind.Literal 21 (more (literal (literal_value.String (codes "x") None)) end) ∷ node Kind.Literal 7 (more (literal (literal_value.Number (codes "1"))) end) ∷ []))) (more (boolean false) end))))) (more no_string end)) ∷ []))) end))) (more (boolean false) (more (boolean false) end))))))) (more (string (codes "constructor")) (more (boolean false) (more (boolean false) end))))) ∷ []))) end))) end))) ∷ node Kind.ExpressionStatement 8 (more (child (node Kind.CallExpression 9 (more (child (node Kind.IdentifierReference 10 (more (string (codes "g")) end))) (more (list end) (more (boolean false) end))))) (more no_string end)) ∷ node Kind.ExportDefaultDeclaration 22 (more (child (node Kind.IdentifierReference 23 (more (string (codes "C")) end))) end) ∷ []))) end))

abbrev pub generated_default_export_behind_a_call : List LedgerEntry
generated_default_export_behind_a_call = []

abbrev pub options_default_export_behind_a_call : Options
options_default_export_behind_a_call = options_of false (Some (record { loose = false })) false
