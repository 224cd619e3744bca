-- Printed by tools/rows/witnesses.js.
use Rattle.std.specs.Prelude.{ℕ, List, [], ◌∷◌, false, codes, Some, None}
use Rattle.es_base.specs.Tree.{Tree, end, more, child, absent, list, string, no_string, boolean, literal, trees}
use Rattle.es_base.specs.declared.kind.Kind.{Kind}
use Rattle.es_base.specs.declared.ledger.GeneratedKind.{GeneratedKind}
use Rattle.es_base.specs.declared.ledger.LedgerEntry.{LedgerEntry}
use Rattle.es_base.specs.declared.literal.LiteralValue.TheVariants as literal_value
use Rattle.es_steps.specs.Generated.{node}
use Rattle.es_steps.specs.Options.{options_of}
use Rattle.es_steps.specs.declared.options.Options.{Options}

-- `import { y } from "m"; class D { x = 1; m() { g(); h(y); } }`
abbrev pub source_import_read_early : Tree
source_import_read_early = node Kind.Program 0 (more (string (codes "module")) (more (list (trees (node Kind.ImportDeclaration 1 (more (list (trees (node Kind.ImportSpecifier 2 (more (child (node Kind.IdentifierName 3 (more (string (codes "y")) end))) (more (child (node Kind.BindingIdentifier 4 (more (string (codes "y")) end))) end)) ∷ []))) (more (child (node Kind.Literal 5 (more (literal (literal_value.String (codes "m") (Some (codes "\"m\"")))) end))) end)) ∷ node Kind.ClassDeclaration 6 (more (child (node Kind.BindingIdentifier 7 (more (string (codes "D")) end))) (more absent (more (child (node Kind.ClassBody 8 (more (list (trees (node Kind.PropertyDefinition 9 (more (child (node Kind.IdentifierName 10 (more (string (codes "x")) end))) (more (child (node Kind.Literal 11 (more (literal (literal_value.Number (codes "1"))) end))) (more (boolean false) (more (boolean false) end)))) ∷ node Kind.MethodDefinition 12 (more (child (node Kind.IdentifierName 13 (more (string (codes "m")) end))) (more (child (node Kind.FunctionExpression 14 (more absent (more (list end) (more (child (node Kind.BlockStatement 15 (more (list (trees (node Kind.ExpressionStatement 16 (more (child (node Kind.CallExpression 17 (more (child (node Kind.IdentifierReference 18 (more (string (codes "g")) end))) (more (list end) (more (boolean false) end))))) (more no_string end)) ∷ node Kind.ExpressionStatement 19 (more (child (node Kind.CallExpression 20 (more (child (node Kind.IdentifierReference 21 (more (string (codes "h")) end))) (more (list (trees (node Kind.IdentifierReference 22 (more (string (codes "y")) end) ∷ []))) (more (boolean false) end))))) (more no_string end)) ∷ []))) end))) (more (boolean false) (more (boolean false) end))))))) (more (string (codes "method")) (more (boolean false) (more (boolean false) end))))) ∷ []))) end))) end))) ∷ []))) end))

-- an imported name read in front of a call, where `import { y } from "m"; class D { constructor() { B.defineProperty(this, "x", 1); } m() { g(); h(y); } }` is right
abbrev pub output_import_read_early : Tree
output_import_read_early = node Kind.Program 0 (more (string (codes "module")) (more (list (trees (node Kind.ImportDeclaration 1 (more (list (trees (node Kind.ImportSpecifier 2 (more (child (node Kind.IdentifierName 3 (more (string (codes "y")) end))) (more (child (node Kind.BindingIdentifier 4 (more (string (codes "y")) end))) end)) ∷ []))) (more (child (node Kind.Literal 5 (more (literal (literal_value.String (codes "m") (Some (codes "\"m\"")))) end))) end)) ∷ node Kind.ClassDeclaration 6 (more (child (node Kind.BindingIdentifier 7 (more (string (codes "D")) end))) (more absent (more (child (node Kind.ClassBody 8 (more (list (trees (node Kind.MethodDefinition 23 (more (child (node Kind.IdentifierName 24 (more (string (codes "constructor")) end))) (more (child (node Kind.FunctionExpression 25 (more absent (more (list end) (more (child (node Kind.BlockStatement 26 (more (list (trees (node Kind.ExpressionStatement 27 (more (child (node Kind.CallExpression 28 (more (child (node Kind.MemberExpression 29 (more (child (node Kind.IdentifierReference 30 (more (string (codes "babelHelpers")) end))) (more (child (node Kind.IdentifierName 31 (more (string (codes "defineProperty")) end))) (more (boolean false) (more (boolean false) end)))))) (more (list (trees (node Kind.ThisExpression 32 end ∷ node Kind.Literal 33 (more (literal (literal_value.String (codes "x") None)) end) ∷ node Kind.Literal 11 (more (literal (literal_value.Number (codes "1"))) end) ∷ []))) (more (boolean false) end))))) (more no_string end)) ∷ []))) end))) (more (boolean false) (more (boolean false) end))))))) (more (string (codes "constructor")) (more (boolean false) (more (boolean false) end))))) ∷ node Kind.MethodDefinition 12 (more (child (node Kind.IdentifierName 13 (more (string (codes "m")) end))) (more (child (node Kind.FunctionExpression 14 (more absent (more (list end) (more (child (node Kind.BlockStatement 15 (more (list (trees (node Kind.VariableDeclaration 34 (more (string (codes "var")) (more (list (trees (node Kind.VariableDeclarator 35 (more (child (node Kind.BindingIdentifier 36 (more (string (codes "_t")) end))) (more absent end)) ∷ []))) end)) ∷ node Kind.ExpressionStatement 37 (more (child (node Kind.AssignmentExpression 38 (more (string (codes "=")) (more (child (node Kind.IdentifierReference 39 (more (string (codes "_t")) end))) (more (child (node Kind.IdentifierReference 22 (more (string (codes "y")) end))) end))))) (more no_string end)) ∷ node Kind.ExpressionStatement 16 (more (child (node Kind.CallExpression 17 (more (child (node Kind.IdentifierReference 18 (more (string (codes "g")) end))) (more (list end) (more (boolean false) end))))) (more no_string end)) ∷ node Kind.ExpressionStatement 19 (more (child (node Kind.CallExpression 20 (more (child (node Kind.IdentifierReference 21 (more (string (codes "h")) end))) (more (list (trees (node Kind.IdentifierReference 40 (more (string (codes "_t")) end) ∷ []))) (more (boolean false) end))))) (more no_string end)) ∷ []))) end))) (more (boolean false) (more (boolean false) end))))))) (more (string (codes "method")) (more (boolean false) (more (boolean false) end))))) ∷ []))) end))) end))) ∷ []))) end))

abbrev pub generated_import_read_early : List LedgerEntry
generated_import_read_early = record { name = codes "_t"; kind = GeneratedKind.Temp } ∷ []

abbrev pub options_import_read_early : Options
options_import_read_early = options_of false (Some (record { loose = false })) false
