-- Printed by tools/rows/witnesses.js.
use Rattle.std.specs.Prelude.{ℕ, List, [], ◌∷◌, false, codes, Some, None}
use Rattle.es_base.specs.Tree.{Tree, end, more, child, absent, list, string, no_string, boolean, literal, trees}
use Rattle.es_base.specs.declared.kind.Kind.{Kind}
use Rattle.es_base.specs.declared.ledger.LedgerEntry.{LedgerEntry}
use Rattle.es_base.specs.declared.literal.LiteralValue.TheVariants as literal_value
use Rattle.es_steps.specs.Generated.{node}
use Rattle.es_steps.specs.Options.{options_of}
use Rattle.es_steps.specs.declared.options.Options.{Options}

-- `export class C { x = 1 }`
abbrev pub source_new_import : Tree
source_new_import = node Kind.Program 0 (more (string (codes "module")) (more (list (trees (node Kind.ExportNamedDeclaration 1 (more (child (node Kind.ClassDeclaration 2 (more (child (node Kind.BindingIdentifier 3 (more (string (codes "C")) end))) (more absent (more (child (node Kind.ClassBody 4 (more (list (trees (node Kind.PropertyDefinition 5 (more (child (node Kind.IdentifierName 6 (more (string (codes "x")) end))) (more (child (node Kind.Literal 7 (more (literal (literal_value.Number (codes "1"))) end))) (more (boolean false) (more (boolean false) end)))) ∷ []))) end))) end))))) (more (list end) (more absent end))) ∷ []))) end))

-- a new import and a new export of another module, where `export class C { constructor() { B.defineProperty(this, "x", 1); } }` is right
abbrev pub output_new_import : Tree
output_new_import = node Kind.Program 0 (more (string (codes "module")) (more (list (trees (node Kind.ImportDeclaration 8 (more (list end) (more (child (node Kind.Literal 9 (more (literal (literal_value.String (codes "evil") None)) end))) end)) ∷ node Kind.ExportAllDeclaration 10 (more absent (more (child (node Kind.Literal 11 (more (literal (literal_value.String (codes "evil2") None)) end))) end)) ∷ node Kind.ExportNamedDeclaration 1 (more (child (node Kind.ClassDeclaration 2 (more (child (node Kind.BindingIdentifier 3 (more (string (codes "C")) end))) (more absent (more (child (node Kind.ClassBody 4 (more (list (trees (node Kind.MethodDefinition 12 (more (child (node Kind.IdentifierName 13 (more (string (codes "constructor")) end))) (more (child (node Kind.FunctionExpression 14 (more absent (more (list end) (more (child (node Kind.BlockStatement 15 (more (list (trees (node Kind.ExpressionStatement 16 (more (child (node Kind.CallExpression 17 (more (child (node Kind.MemberExpression 18 (more (child (node Kind.IdentifierReference 19 (more (string (codes "babelHelpers")) end))) (more (child (node Kind.IdentifierName 20 (more (string (codes "defineProperty")) end))) (more (boolean false) (more (boolean false) end)))))) (more (list (trees (node Kind.ThisExpression 21 end ∷ node Kind.Literal 22 (more (literal (literal_value.String (codes "x") None)) end) ∷ node Kind.Literal 7 (more (literal (literal_value.Number (codes "1"))) end) ∷ []))) (more (boolean false) end))))) (more no_string end)) ∷ []))) end))) (more (boolean false) (more (boolean false) end))))))) (more (string (codes "constructor")) (more (boolean false) (more (boolean false) end))))) ∷ []))) end))) end))))) (more (list end) (more absent end))) ∷ []))) end))

abbrev pub generated_new_import : List LedgerEntry
generated_new_import = []

abbrev pub options_new_import : Options
options_new_import = options_of false (Some (record { loose = false })) false
