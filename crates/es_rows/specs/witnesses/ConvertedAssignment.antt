-- Printed by tools/rows/witnesses.js.
use Rattle.std.specs.Prelude.{ℕ, List, [], ◌∷◌, true, false, codes, Some}
use Rattle.es_base.specs.Tree.{Tree, end, more, child, absent, list, string, no_string, boolean, literal, trees}
use Rattle.es_base.specs.declared.kind.Kind.{Kind}
use Rattle.es_base.specs.declared.ledger.GeneratedKind.{GeneratedKind}
use Rattle.es_base.specs.declared.ledger.LedgerEntry.{LedgerEntry}
use Rattle.es_base.specs.declared.literal.LiteralValue.TheVariants as literal_value
use Rattle.es_steps.specs.Generated.{node}
use Rattle.es_steps.specs.Options.{options_of}
use Rattle.es_steps.specs.declared.options.Options.{Options}

-- `class A { static [x = f()] = 1; }`
abbrev pub source_converted_assignment : Tree
source_converted_assignment = node Kind.Program 0 (more (string (codes "script")) (more (list (trees (node Kind.ClassDeclaration 1 (more (child (node Kind.BindingIdentifier 2 (more (string (codes "A")) end))) (more absent (more (child (node Kind.ClassBody 3 (more (list (trees (node Kind.PropertyDefinition 4 (more (child (node Kind.AssignmentExpression 5 (more (string (codes "=")) (more (child (node Kind.IdentifierReference 6 (more (string (codes "x")) end))) (more (child (node Kind.CallExpression 7 (more (child (node Kind.IdentifierReference 8 (more (string (codes "f")) end))) (more (list end) (more (boolean false) end))))) end))))) (more (child (node Kind.Literal 9 (more (literal (literal_value.Number (codes "1"))) end))) (more (boolean true) (more (boolean true) end)))) ∷ []))) end))) end))) ∷ []))) end))

-- an assignment as the key of a static field, which is converted, as `let _x; _x = B.toPropertyKey(x = f()); class A {} B.defineProperty(A, _x, 1);` means
abbrev pub output_converted_assignment : Tree
output_converted_assignment = node Kind.Program 0 (more (string (codes "script")) (more (list (trees (node Kind.VariableDeclaration 10 (more (string (codes "let")) (more (list (trees (node Kind.VariableDeclarator 11 (more (child (node Kind.BindingIdentifier 12 (more (string (codes "_x")) end))) (more absent end)) ∷ []))) end)) ∷ node Kind.ExpressionStatement 13 (more (child (node Kind.AssignmentExpression 14 (more (string (codes "=")) (more (child (node Kind.IdentifierReference 15 (more (string (codes "_x")) end))) (more (child (node Kind.CallExpression 16 (more (child (node Kind.MemberExpression 17 (more (child (node Kind.IdentifierReference 18 (more (string (codes "babelHelpers")) end))) (more (child (node Kind.IdentifierName 19 (more (string (codes "toPropertyKey")) end))) (more (boolean false) (more (boolean false) end)))))) (more (list (trees (node Kind.AssignmentExpression 5 (more (string (codes "=")) (more (child (node Kind.IdentifierReference 6 (more (string (codes "x")) end))) (more (child (node Kind.CallExpression 7 (more (child (node Kind.IdentifierReference 8 (more (string (codes "f")) end))) (more (list end) (more (boolean false) end))))) end))) ∷ []))) (more (boolean false) end))))) end))))) (more no_string end)) ∷ node Kind.ClassDeclaration 1 (more (child (node Kind.BindingIdentifier 2 (more (string (codes "A")) end))) (more absent (more (child (node Kind.ClassBody 3 (more (list end) end))) end))) ∷ node Kind.ExpressionStatement 20 (more (child (node Kind.CallExpression 21 (more (child (node Kind.MemberExpression 22 (more (child (node Kind.IdentifierReference 23 (more (string (codes "babelHelpers")) end))) (more (child (node Kind.IdentifierName 24 (more (string (codes "defineProperty")) end))) (more (boolean false) (more (boolean false) end)))))) (more (list (trees (node Kind.IdentifierReference 25 (more (string (codes "A")) end) ∷ node Kind.IdentifierReference 26 (more (string (codes "_x")) end) ∷ node Kind.Literal 9 (more (literal (literal_value.Number (codes "1"))) end) ∷ []))) (more (boolean false) end))))) (more no_string end)) ∷ []))) end))

abbrev pub generated_converted_assignment : List LedgerEntry
generated_converted_assignment = record { name = codes "_x"; kind = GeneratedKind.Temp } ∷ []

abbrev pub options_converted_assignment : Options
options_converted_assignment = options_of false (Some (record { loose = false })) false
