-- Printed by tools/rows/witnesses.js.
use Rattle.std.specs.Prelude.{ℕ, List, [], ◌∷◌, true, false, codes, None}
use Rattle.es_base.specs.Tree.{Tree, end, more, child, absent, list, string, no_string, boolean, literal, trees}
use Rattle.es_base.specs.declared.kind.Kind.{Kind}
use Rattle.es_base.specs.declared.ledger.GeneratedKind.{GeneratedKind}
use Rattle.es_base.specs.declared.ledger.LedgerEntry.{LedgerEntry}
use Rattle.es_base.specs.declared.literal.LiteralValue.TheVariants as literal_value
use Rattle.es_steps.specs.Generated.{node}
use Rattle.es_steps.specs.Options.{options_of}
use Rattle.es_steps.specs.declared.options.Options.{Options}

-- `export default function ([a]) { class A { static { f(1); } } }`
abbrev pub source_strict_default_export_with_a_pattern : Tree
source_strict_default_export_with_a_pattern = node Kind.Program 0 (more (string (codes "module")) (more (list (trees (node Kind.ExportDefaultDeclaration 1 (more (child (node Kind.FunctionDeclaration 2 (more absent (more (list (trees (node Kind.ArrayPattern 3 (more (list (trees (node Kind.BindingIdentifier 4 (more (string (codes "a")) end) ∷ []))) end) ∷ []))) (more (child (node Kind.BlockStatement 5 (more (list (trees (node Kind.ClassDeclaration 6 (more (child (node Kind.BindingIdentifier 7 (more (string (codes "A")) end))) (more absent (more (child (node Kind.ClassBody 8 (more (list (trees (node Kind.StaticBlock 9 (more (list (trees (node Kind.ExpressionStatement 10 (more (child (node Kind.CallExpression 11 (more (child (node Kind.IdentifierReference 12 (more (string (codes "f")) end))) (more (list (trees (node Kind.Literal 13 (more (literal (literal_value.Number (codes "1"))) end) ∷ []))) (more (boolean false) end))))) (more no_string end)) ∷ []))) end) ∷ []))) end))) end))) ∷ []))) end))) (more (boolean false) (more (boolean false) end))))))) end) ∷ []))) end))

-- a directive in a default export without a name whose parameter is a pattern, where `export default function ([a]) { class A { static #_ = f(1); } }` is right
abbrev pub output_strict_default_export_with_a_pattern : Tree
output_strict_default_export_with_a_pattern = node Kind.Program 0 (more (string (codes "module")) (more (list (trees (node Kind.ExportDefaultDeclaration 1 (more (child (node Kind.FunctionDeclaration 2 (more absent (more (list (trees (node Kind.ArrayPattern 3 (more (list (trees (node Kind.BindingIdentifier 4 (more (string (codes "a")) end) ∷ []))) end) ∷ []))) (more (child (node Kind.BlockStatement 5 (more (list (trees (node Kind.ExpressionStatement 14 (more (child (node Kind.Literal 15 (more (literal (literal_value.String (codes "use strict") None)) end))) (more (string (codes "use strict")) end)) ∷ node Kind.ClassDeclaration 6 (more (child (node Kind.BindingIdentifier 7 (more (string (codes "A")) end))) (more absent (more (child (node Kind.ClassBody 8 (more (list (trees (node Kind.PropertyDefinition 16 (more (child (node Kind.PrivateIdentifier 17 (more (string (codes "_")) end))) (more (child (node Kind.CallExpression 11 (more (child (node Kind.IdentifierReference 12 (more (string (codes "f")) end))) (more (list (trees (node Kind.Literal 13 (more (literal (literal_value.Number (codes "1"))) end) ∷ []))) (more (boolean false) end))))) (more (boolean false) (more (boolean true) end)))) ∷ []))) end))) end))) ∷ []))) end))) (more (boolean false) (more (boolean false) end))))))) end) ∷ []))) end))

abbrev pub generated_strict_default_export_with_a_pattern : List LedgerEntry
generated_strict_default_export_with_a_pattern = record { name = codes "_"; kind = GeneratedKind.Private (record { 0 = 6 }) } ∷ []

abbrev pub options_strict_default_export_with_a_pattern : Options
options_strict_default_export_with_a_pattern = options_of true None false
