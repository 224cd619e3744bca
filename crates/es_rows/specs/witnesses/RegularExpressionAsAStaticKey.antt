-- Printed by tools/rows/witnesses.js.
use Rattle.std.specs.Prelude.{ℕ, List, [], ◌∷◌, true, false, codes, Some}
use Rattle.es_base.specs.Tree.{Tree, end, more, child, absent, list, string, no_string, boolean, literal, trees}
use Rattle.es_base.specs.declared.kind.Kind.{Kind}
use Rattle.es_base.specs.declared.ledger.GeneratedKind.{GeneratedKind}
use Rattle.es_base.specs.declared.ledger.LedgerEntry.{LedgerEntry}
use Rattle.es_base.specs.declared.literal.LiteralValue.TheVariants as literal_value
use Rattle.es_steps.specs.Generated.{node}
use Rattle.es_steps.specs.Options.{options_of}
use Rattle.es_steps.specs.declared.options.Options.{Options}

-- `class A { static [/a/] = 1; }`
abbrev pub source_regular_expression_as_a_static_key : Tree
source_regular_expression_as_a_static_key = node Kind.Program 0 (more (string (codes "script")) (more (list (trees (node Kind.ClassDeclaration 1 (more (child (node Kind.BindingIdentifier 2 (more (string (codes "A")) end))) (more absent (more (child (node Kind.ClassBody 3 (more (list (trees (node Kind.PropertyDefinition 4 (more (child (node Kind.Literal 5 (more (literal (literal_value.RegExp (codes "a") (codes ""))) end))) (more (child (node Kind.Literal 6 (more (literal (literal_value.Number (codes "1"))) end))) (more (boolean true) (more (boolean true) end)))) ∷ []))) end))) end))) ∷ []))) end))

-- a regular expression as the key of a static field, as `var _k; _k = /a/; class A {} B.defineProperty(A, _k, 1);` means
abbrev pub output_regular_expression_as_a_static_key : Tree
output_regular_expression_as_a_static_key = node Kind.Program 0 (more (string (codes "script")) (more (list (trees (node Kind.VariableDeclaration 7 (more (string (codes "var")) (more (list (trees (node Kind.VariableDeclarator 8 (more (child (node Kind.BindingIdentifier 9 (more (string (codes "_k")) end))) (more absent end)) ∷ []))) end)) ∷ node Kind.ExpressionStatement 10 (more (child (node Kind.AssignmentExpression 11 (more (string (codes "=")) (more (child (node Kind.IdentifierReference 12 (more (string (codes "_k")) end))) (more (child (node Kind.Literal 5 (more (literal (literal_value.RegExp (codes "a") (codes ""))) end))) end))))) (more no_string end)) ∷ node Kind.ClassDeclaration 1 (more (child (node Kind.BindingIdentifier 2 (more (string (codes "A")) end))) (more absent (more (child (node Kind.ClassBody 3 (more (list end) end))) end))) ∷ node Kind.ExpressionStatement 13 (more (child (node Kind.CallExpression 14 (more (child (node Kind.MemberExpression 15 (more (child (node Kind.IdentifierReference 16 (more (string (codes "babelHelpers")) end))) (more (child (node Kind.IdentifierName 17 (more (string (codes "defineProperty")) end))) (more (boolean false) (more (boolean false) end)))))) (more (list (trees (node Kind.IdentifierReference 18 (more (string (codes "A")) end) ∷ node Kind.IdentifierReference 19 (more (string (codes "_k")) end) ∷ node Kind.Literal 6 (more (literal (literal_value.Number (codes "1"))) end) ∷ []))) (more (boolean false) end))))) (more no_string end)) ∷ []))) end))

abbrev pub generated_regular_expression_as_a_static_key : List LedgerEntry
generated_regular_expression_as_a_static_key = record { name = codes "_k"; kind = GeneratedKind.Temp } ∷ []

abbrev pub options_regular_expression_as_a_static_key : Options
options_regular_expression_as_a_static_key = options_of false (Some (record { loose = false })) false
