-- Printed by tools/rows/witnesses.js.
use Rattle.std.specs.Prelude.{ℕ, List, [], ◌∷◌, true, false, codes, Some, None}
use Rattle.es_base.specs.Tree.{Tree, end, more, child, absent, list, string, no_string, boolean, literal, trees}
use Rattle.es_base.specs.declared.kind.Kind.{Kind}
use Rattle.es_base.specs.declared.ledger.LedgerEntry.{LedgerEntry}
use Rattle.es_base.specs.declared.literal.LiteralValue.TheVariants as literal_value
use Rattle.es_steps.specs.Generated.{node}
use Rattle.es_steps.specs.Options.{options_of}
use Rattle.es_steps.specs.declared.options.Options.{Options}

-- `export class A { static x = 1; }`
abbrev pub source_export_of_a_call : Tree
source_export_of_a_call = node Kind.Program 0 (more (string (codes "module")) (more (list (trees (node Kind.ExportNamedDeclaration 1 (more (child (node Kind.ClassDeclaration 2 (more (child (node Kind.BindingIdentifier 3 (more (string (codes "A")) end))) (more absent (more (child (node Kind.ClassBody 4 (more (list (trees (node Kind.PropertyDefinition 5 (more (child (node Kind.IdentifierName 6 (more (string (codes "x")) end))) (more (child (node Kind.Literal 7 (more (literal (literal_value.Number (codes "1"))) end))) (more (boolean false) (more (boolean true) end)))) ∷ []))) end))) end))))) (more (list end) (more absent end))) ∷ []))) end))

-- a new export of a call, which declares nothing, where `export class A {} B.defineProperty(A, "x", 1);` is right
abbrev pub output_export_of_a_call : Tree
output_export_of_a_call = node Kind.Program 0 (more (string (codes "module")) (more (list (trees (node Kind.ExportNamedDeclaration 1 (more (child (node Kind.ClassDeclaration 2 (more (child (node Kind.BindingIdentifier 3 (more (string (codes "A")) end))) (more absent (more (child (node Kind.ClassBody 4 (more (list end) end))) end))))) (more (list end) (more absent end))) ∷ node Kind.ExportNamedDeclaration 8 (more (child (node Kind.ExpressionStatement 9 (more (child (node Kind.CallExpression 10 (more (child (node Kind.MemberExpression 11 (more (child (node Kind.IdentifierReference 12 (more (string (codes "babelHelpers")) end))) (more (child (node Kind.IdentifierName 13 (more (string (codes "defineProperty")) end))) (more (boolean false) (more (boolean false) end)))))) (more (list (trees (node Kind.IdentifierReference 14 (more (string (codes "A")) end) ∷ node Kind.Literal 15 (more (literal (literal_value.String (codes "x") None)) end) ∷ node Kind.Literal 7 (more (literal (literal_value.Number (codes "1"))) end) ∷ []))) (more (boolean false) end))))) (more no_string end)))) (more (list end) (more absent end))) ∷ []))) end))

abbrev pub generated_export_of_a_call : List LedgerEntry
generated_export_of_a_call = []

abbrev pub options_export_of_a_call : Options
options_export_of_a_call = options_of false (Some (record { loose = false })) false
