-- Printed by tools/rows/witnesses.js.
use Rattle.std.specs.Prelude.{ℕ, List, [], ◌∷◌, true, false, codes, Some}
use Rattle.es_base.specs.Tree.{Tree, end, more, child, absent, list, string, no_string, boolean, literal, trees}
use Rattle.es_base.specs.declared.kind.Kind.{Kind}
use Rattle.es_base.specs.declared.ledger.GeneratedKind.{GeneratedKind}
use Rattle.es_base.specs.declared.ledger.LedgerEntry.{LedgerEntry}
use Rattle.es_base.specs.declared.literal.LiteralValue.TheVariants as literal_value
use Rattle.es_steps.specs.Generated.{node}
use Rattle.es_steps.specs.Options.{options_of}
use Rattle.es_steps.specs.declared.options.Options.{Options}

-- `class A { static [(a(), b())] = 1; }`
abbrev pub source_converted_sequence : Tree
source_converted_sequence = node Kind.Program 0 (more (string (codes "script")) (more (list (trees (node Kind.ClassDeclaration 1 (more (child (node Kind.BindingIdentifier 2 (more (string (codes "A")) end))) (more absent (more (child (node Kind.ClassBody 3 (more (list (trees (node Kind.PropertyDefinition 4 (more (child (node Kind.SequenceExpression 5 (more (list (trees (node Kind.CallExpression 6 (more (child (node Kind.IdentifierReference 7 (more (string (codes "a")) end))) (more (list end) (more (boolean false) end))) ∷ node Kind.CallExpression 8 (more (child (node Kind.IdentifierReference 9 (more (string (codes "b")) end))) (more (list end) (more (boolean false) end))) ∷ []))) end))) (more (child (node Kind.Literal 10 (more (literal (literal_value.Number (codes "1"))) end))) (more (boolean true) (more (boolean true) end)))) ∷ []))) end))) end))) ∷ []))) end))

-- a sequence as the key of a static field, which is converted, as `let _ref; _ref = B.toPropertyKey((a(), b())); class A {} B.defineProperty(A, _ref, 1);` means
abbrev pub output_converted_sequence : Tree
output_converted_sequence = node Kind.Program 0 (more (string (codes "script")) (more (list (trees (node Kind.VariableDeclaration 11 (more (string (codes "let")) (more (list (trees (node Kind.VariableDeclarator 12 (more (child (node Kind.BindingIdentifier 13 (more (string (codes "_ref")) end))) (more absent end)) ∷ []))) end)) ∷ node Kind.ExpressionStatement 14 (more (child (node Kind.AssignmentExpression 15 (more (string (codes "=")) (more (child (node Kind.IdentifierReference 16 (more (string (codes "_ref")) end))) (more (child (node Kind.CallExpression 17 (more (child (node Kind.MemberExpression 18 (more (child (node Kind.IdentifierReference 19 (more (string (codes "babelHelpers")) end))) (more (child (node Kind.IdentifierName 20 (more (string (codes "toPropertyKey")) end))) (more (boolean false) (more (boolean false) end)))))) (more (list (trees (node Kind.SequenceExpression 5 (more (list (trees (node Kind.CallExpression 6 (more (child (node Kind.IdentifierReference 7 (more (string (codes "a")) end))) (more (list end) (more (boolean false) end))) ∷ node Kind.CallExpression 8 (more (child (node Kind.IdentifierReference 9 (more (string (codes "b")) end))) (more (list end) (more (boolean false) end))) ∷ []))) end) ∷ []))) (more (boolean false) end))))) end))))) (more no_string end)) ∷ node Kind.ClassDeclaration 1 (more (child (node Kind.BindingIdentifier 2 (more (string (codes "A")) end))) (more absent (more (child (node Kind.ClassBody 3 (more (list end) end))) end))) ∷ node Kind.ExpressionStatement 21 (more (child (node Kind.CallExpression 22 (more (child (node Kind.MemberExpression 23 (more (child (node Kind.IdentifierReference 24 (more (string (codes "babelHelpers")) end))) (more (child (node Kind.IdentifierName 25 (more (string (codes "defineProperty")) end))) (more (boolean false) (more (boolean false) end)))))) (more (list (trees (node Kind.IdentifierReference 26 (more (string (codes "A")) end) ∷ node Kind.IdentifierReference 27 (more (string (codes "_ref")) end) ∷ node Kind.Literal 10 (more (literal (literal_value.Number (codes "1"))) end) ∷ []))) (more (boolean false) end))))) (more no_string end)) ∷ []))) end))

abbrev pub generated_converted_sequence : List LedgerEntry
generated_converted_sequence = record { name = codes "_ref"; kind = GeneratedKind.Temp } ∷ []

abbrev pub options_converted_sequence : Options
options_converted_sequence = options_of false (Some (record { loose = false })) false
