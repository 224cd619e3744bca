-- Printed by tools/rows/witnesses.js.
use Rattle.std.specs.Prelude.{ℕ, List, [], ◌∷◌, true, false, codes, Some, None}
use Rattle.es_base.specs.Tree.{Tree, end, more, child, absent, list, string, no_string, boolean, literal, trees}
use Rattle.es_base.specs.declared.kind.Kind.{Kind}
use Rattle.es_base.specs.declared.ledger.GeneratedKind.{GeneratedKind}
use Rattle.es_base.specs.declared.ledger.LedgerEntry.{LedgerEntry}
use Rattle.es_base.specs.declared.literal.LiteralValue.TheVariants as literal_value
use Rattle.es_steps.specs.Generated.{node}
use Rattle.es_steps.specs.Options.{options_of}
use Rattle.es_steps.specs.declared.options.Options.{Options}

-- `class A extends P { static x = super[`k`] += 1; }`
abbrev pub source_template_that_is_copied : Tree
source_template_that_is_copied = node Kind.Program 0 (more (string (codes "script")) (more (list (trees (node Kind.ClassDeclaration 1 (more (child (node Kind.BindingIdentifier 2 (more (string (codes "A")) end))) (more (child (node Kind.IdentifierReference 3 (more (string (codes "P")) end))) (more (child (node Kind.ClassBody 4 (more (list (trees (node Kind.PropertyDefinition 5 (more (child (node Kind.IdentifierName 6 (more (string (codes "x")) end))) (more (child (node Kind.AssignmentExpression 7 (more (string (codes "+=")) (more (child (node Kind.MemberExpression 8 (more (child (node Kind.Super 9 end)) (more (child (node Kind.TemplateLiteral 10 (more (list (trees (node Kind.TemplateElement 11 (more (string (codes "k")) (more (string (codes "k")) (more (boolean true) end))) ∷ []))) (more (list end) end)))) (more (boolean true) (more (boolean false) end)))))) (more (child (node Kind.Literal 12 (more (literal (literal_value.Number (codes "1"))) end))) end))))) (more (boolean false) (more (boolean true) end)))) ∷ []))) end))) end))) ∷ []))) end))

-- a template without expressions as a key that is read and written, as `var _A; class A extends P {} _A = A; B.defineProperty(A, "x", B.superPropSet(_A, `k`, B.superPropGet(_A, `k`, _A) + 1, _A, 1));` means
abbrev pub output_template_that_is_copied : Tree
output_template_that_is_copied = node Kind.Program 0 (more (string (codes "script")) (more (list (trees (node Kind.VariableDeclaration 13 (more (string (codes "var")) (more (list (trees (node Kind.VariableDeclarator 14 (more (child (node Kind.BindingIdentifier 15 (more (string (codes "_A")) end))) (more absent end)) ∷ []))) end)) ∷ node Kind.ClassDeclaration 1 (more (child (node Kind.BindingIdentifier 2 (more (string (codes "A")) end))) (more (child (node Kind.IdentifierReference 3 (more (string (codes "P")) end))) (more (child (node Kind.ClassBody 4 (more (list end) end))) end))) ∷ node Kind.ExpressionStatement 16 (more (child (node Kind.AssignmentExpression 17 (more (string (codes "=")) (more (child (node Kind.IdentifierReference 18 (more (string (codes "_A")) end))) (more (child (node Kind.IdentifierReference 19 (more (string (codes "A")) end))) end))))) (more no_string end)) ∷ node Kind.ExpressionStatement 20 (more (child (node Kind.CallExpression 21 (more (child (node Kind.MemberExpression 22 (more (child (node Kind.IdentifierReference 23 (more (string (codes "babelHelpers")) end))) (more (child (node Kind.IdentifierName 24 (more (string (codes "defineProperty")) end))) (more (boolean false) (more (boolean false) end)))))) (more (list (trees (node Kind.IdentifierReference 25 (more (string (codes "A")) end) ∷ node Kind.Literal 26 (more (literal (literal_value.String (codes "x") None)) end) ∷ node Kind.CallExpression 27 (more (child (node Kind.MemberExpression 28 (more (child (node Kind.IdentifierReference 29 (more (string (codes "babelHelpers")) end))) (more (child (node Kind.IdentifierName 30 (more (string (codes "superPropSet")) end))) (more (boolean false) (more (boolean false) end)))))) (more (list (trees (node Kind.IdentifierReference 31 (more (string (codes "_A")) end) ∷ node Kind.TemplateLiteral 10 (more (list (trees (node Kind.TemplateElement 11 (more (string (codes "k")) (more (string (codes "k")) (more (boolean true) end))) ∷ []))) (more (list end) end)) ∷ node Kind.BinaryExpression 7 (more (string (codes "+")) (more (child (node Kind.CallExpression 8 (more (child (node Kind.MemberExpression 32 (more (child (node Kind.IdentifierReference 33 (more (string (codes "babelHelpers")) end))) (more (child (node Kind.IdentifierName 34 (more (string (codes "superPropGet")) end))) (more (boolean false) (more (boolean false) end)))))) (more (list (trees (node Kind.IdentifierReference 35 (more (string (codes "_A")) end) ∷ node Kind.TemplateLiteral 36 (more (list (trees (node Kind.TemplateElement 37 (more (string (codes "k")) (more (string (codes "k")) (more (boolean true) end))) ∷ []))) (more (list end) end)) ∷ node Kind.IdentifierReference 38 (more (string (codes "_A")) end) ∷ []))) (more (boolean false) end))))) (more (child (node Kind.Literal 12 (more (literal (literal_value.Number (codes "1"))) end))) end))) ∷ node Kind.IdentifierReference 39 (more (string (codes "_A")) end) ∷ node Kind.Literal 40 (more (literal (literal_value.Number (codes "1"))) end) ∷ []))) (more (boolean false) end))) ∷ []))) (more (boolean false) end))))) (more no_string end)) ∷ []))) end))

abbrev pub generated_template_that_is_copied : List LedgerEntry
generated_template_that_is_copied = record { name = codes "_A"; kind = GeneratedKind.ClassTemp (record { 0 = 1 }) } ∷ []

abbrev pub options_template_that_is_copied : Options
options_template_that_is_copied = options_of false (Some (record { loose = false })) false
