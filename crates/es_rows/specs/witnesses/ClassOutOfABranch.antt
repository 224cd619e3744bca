-- Printed by tools/rows/witnesses.js.
use Rattle.std.specs.Prelude.{ℕ, List, [], ◌∷◌, true, false, codes, Some, None}
use Rattle.es_base.specs.Tree.{Tree, end, more, child, absent, list, string, no_string, boolean, literal, trees}
use Rattle.es_base.specs.declared.kind.Kind.{Kind}
use Rattle.es_base.specs.declared.ledger.GeneratedKind.{GeneratedKind}
use Rattle.es_base.specs.declared.ledger.LedgerEntry.{LedgerEntry}
use Rattle.es_base.specs.declared.literal.LiteralValue.TheVariants as literal_value
use Rattle.es_steps.specs.Generated.{node}
use Rattle.es_steps.specs.Options.{options_of}
use Rattle.es_steps.specs.declared.options.Options.{Options}

-- `if (c) k(class extends g { static x = 1; }); let g = f();`
abbrev pub source_class_out_of_a_branch : Tree
source_class_out_of_a_branch = node Kind.Program 0 (more (string (codes "script")) (more (list (trees (node Kind.IfStatement 1 (more (child (node Kind.IdentifierReference 2 (more (string (codes "c")) end))) (more (child (node Kind.ExpressionStatement 3 (more (child (node Kind.CallExpression 4 (more (child (node Kind.IdentifierReference 5 (more (string (codes "k")) end))) (more (list (trees (node Kind.ClassExpression 6 (more absent (more (child (node Kind.IdentifierReference 7 (more (string (codes "g")) end))) (more (child (node Kind.ClassBody 8 (more (list (trees (node Kind.PropertyDefinition 9 (more (child (node Kind.IdentifierName 10 (more (string (codes "x")) end))) (more (child (node Kind.Literal 11 (more (literal (literal_value.Number (codes "1"))) end))) (more (boolean false) (more (boolean true) end)))) ∷ []))) end))) end))) ∷ []))) (more (boolean false) end))))) (more no_string end)))) (more absent end))) ∷ node Kind.VariableDeclaration 12 (more (string (codes "let")) (more (list (trees (node Kind.VariableDeclarator 13 (more (child (node Kind.BindingIdentifier 14 (more (string (codes "g")) end))) (more (child (node Kind.CallExpression 15 (more (child (node Kind.IdentifierReference 16 (more (string (codes "f")) end))) (more (list end) (more (boolean false) end))))) end)) ∷ []))) end)) ∷ []))) end))

-- a class whose heritage is not there yet leaves the branch that does not run: `var _C; _C = class extends g { }; if (c) k((B.defineProperty(_C, "x", 1), _C)); let g = f();`
abbrev pub output_class_out_of_a_branch : Tree
output_class_out_of_a_branch = node Kind.Program 0 (more (string (codes "script")) (more (list (trees (node Kind.VariableDeclaration 17 (more (string (codes "var")) (more (list (trees (node Kind.VariableDeclarator 18 (more (child (node Kind.BindingIdentifier 19 (more (string (codes "_C")) end))) (more absent end)) ∷ []))) end)) ∷ node Kind.ExpressionStatement 20 (more (child (node Kind.AssignmentExpression 21 (more (string (codes "=")) (more (child (node Kind.IdentifierReference 22 (more (string (codes "_C")) end))) (more (child (node Kind.ClassExpression 6 (more absent (more (child (node Kind.IdentifierReference 7 (more (string (codes "g")) end))) (more (child (node Kind.ClassBody 8 (more (list end) end))) end))))) end))))) (more no_string end)) ∷ node Kind.IfStatement 1 (more (child (node Kind.IdentifierReference 2 (more (string (codes "c")) end))) (more (child (node Kind.ExpressionStatement 3 (more (child (node Kind.CallExpression 4 (more (child (node Kind.IdentifierReference 5 (more (string (codes "k")) end))) (more (list (trees (node Kind.SequenceExpression 23 (more (list (trees (node Kind.CallExpression 24 (more (child (node Kind.MemberExpression 25 (more (child (node Kind.IdentifierReference 26 (more (string (codes "babelHelpers")) end))) (more (child (node Kind.IdentifierName 27 (more (string (codes "defineProperty")) end))) (more (boolean false) (more (boolean false) end)))))) (more (list (trees (node Kind.IdentifierReference 28 (more (string (codes "_C")) end) ∷ node Kind.Literal 29 (more (literal (literal_value.String (codes "x") None)) end) ∷ node Kind.Literal 11 (more (literal (literal_value.Number (codes "1"))) end) ∷ []))) (more (boolean false) end))) ∷ node Kind.IdentifierReference 30 (more (string (codes "_C")) end) ∷ []))) end) ∷ []))) (more (boolean false) end))))) (more no_string end)))) (more absent end))) ∷ node Kind.VariableDeclaration 12 (more (string (codes "let")) (more (list (trees (node Kind.VariableDeclarator 13 (more (child (node Kind.BindingIdentifier 14 (more (string (codes "g")) end))) (more (child (node Kind.CallExpression 15 (more (child (node Kind.IdentifierReference 16 (more (string (codes "f")) end))) (more (list end) (more (boolean false) end))))) end)) ∷ []))) end)) ∷ []))) end))

abbrev pub generated_class_out_of_a_branch : List LedgerEntry
generated_class_out_of_a_branch = record { name = codes "_C"; kind = GeneratedKind.ClassTemp (record { 0 = 6 }) } ∷ []

abbrev pub options_class_out_of_a_branch : Options
options_class_out_of_a_branch = options_of false (Some (record { loose = false })) false
