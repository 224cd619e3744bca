-- Printed by tools/rows/witnesses.js.
use Rattle.std.specs.Prelude.{ℕ, List, [], ◌∷◌, true, false, codes, Some, None}
use Rattle.es_base.specs.Tree.{Tree, end, more, child, absent, list, string, no_string, boolean, literal, trees}
use Rattle.es_base.specs.declared.kind.Kind.{Kind}
use Rattle.es_base.specs.declared.ledger.GeneratedKind.{GeneratedKind}
use Rattle.es_base.specs.declared.ledger.LedgerEntry.{LedgerEntry}
use Rattle.es_base.specs.declared.literal.LiteralValue.TheVariants as literal_value
use Rattle.es_steps.specs.Generated.{node}
use Rattle.es_steps.specs.Options.{options_of}
use Rattle.es_steps.specs.declared.options.Options.{Options}

-- `export default (class { static x = 1; }); g();`
abbrev pub source_default_value_behind_a_call : Tree
source_default_value_behind_a_call = node Kind.Program 0 (more (string (codes "module")) (more (list (trees (node Kind.ExportDefaultDeclaration 1 (more (child (node Kind.ClassExpression 2 (more absent (more absent (more (child (node Kind.ClassBody 3 (more (list (trees (node Kind.PropertyDefinition 4 (more (child (node Kind.IdentifierName 5 (more (string (codes "x")) end))) (more (child (node Kind.Literal 6 (more (literal (literal_value.Number (codes "1"))) end))) (more (boolean false) (more (boolean true) end)))) ∷ []))) end))) end))))) end) ∷ node Kind.ExpressionStatement 7 (more (child (node Kind.CallExpression 8 (more (child (node Kind.IdentifierReference 9 (more (string (codes "g")) end))) (more (list end) (more (boolean false) end))))) (more no_string end)) ∷ []))) end))

-- a value that is exported as default, whose export stands behind what stood behind it: `var _C; _C = class { }; B.defineProperty(_C, "x", 1); g(); export default _C;`
abbrev pub output_default_value_behind_a_call : Tree
output_default_value_behind_a_call = node Kind.Program 0 (more (string (codes "module")) (more (list (trees (node Kind.VariableDeclaration 10 (more (string (codes "var")) (more (list (trees (node Kind.VariableDeclarator 11 (more (child (node Kind.BindingIdentifier 12 (more (string (codes "_C")) end))) (more absent end)) ∷ []))) end)) ∷ node Kind.ExpressionStatement 13 (more (child (node Kind.AssignmentExpression 14 (more (string (codes "=")) (more (child (node Kind.IdentifierReference 15 (more (string (codes "_C")) end))) (more (child (node Kind.ClassExpression 2 (more absent (more absent (more (child (node Kind.ClassBody 3 (more (list end) end))) end))))) end))))) (more no_string end)) ∷ node Kind.ExpressionStatement 16 (more (child (node Kind.CallExpression 17 (more (child (node Kind.MemberExpression 18 (more (child (node Kind.IdentifierReference 19 (more (string (codes "babelHelpers")) end))) (more (child (node Kind.IdentifierName 20 (more (string (codes "defineProperty")) end))) (more (boolean false) (more (boolean false) end)))))) (more (list (trees (node Kind.IdentifierReference 21 (more (string (codes "_C")) end) ∷ node Kind.Literal 22 (more (literal (literal_value.String (codes "x") None)) end) ∷ node Kind.Literal 6 (more (literal (literal_value.Number (codes "1"))) end) ∷ []))) (more (boolean false) end))))) (more no_string end)) ∷ node Kind.ExpressionStatement 7 (more (child (node Kind.CallExpression 8 (more (child (node Kind.IdentifierReference 9 (more (string (codes "g")) end))) (more (list end) (more (boolean false) end))))) (more no_string end)) ∷ node Kind.ExportDefaultDeclaration 23 (more (child (node Kind.IdentifierReference 24 (more (string (codes "_C")) end))) end) ∷ []))) end))

abbrev pub generated_default_value_behind_a_call : List LedgerEntry
generated_default_value_behind_a_call = record { name = codes "_C"; kind = GeneratedKind.ClassTemp (record { 0 = 2 }) } ∷ []

abbrev pub options_default_value_behind_a_call : Options
options_default_value_behind_a_call = options_of false (Some (record { loose = false })) false
