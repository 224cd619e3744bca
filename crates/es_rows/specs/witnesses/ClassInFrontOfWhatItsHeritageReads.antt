-- Printed by tools/rows/witnesses.js.
use Rattle.std.specs.Prelude.{ℕ, List, [], ◌∷◌, true, false, codes, Some, None}
use Rattle.es_base.specs.Tree.{Tree, end, more, child, absent, list, string, no_string, boolean, literal, trees}
use Rattle.es_base.specs.declared.kind.Kind.{Kind}
use Rattle.es_base.specs.declared.ledger.GeneratedKind.{GeneratedKind}
use Rattle.es_base.specs.declared.ledger.LedgerEntry.{LedgerEntry}
use Rattle.es_base.specs.declared.literal.LiteralValue.TheVariants as literal_value
use Rattle.es_steps.specs.Generated.{node}
use Rattle.es_steps.specs.Options.{options_of}
use Rattle.es_steps.specs.declared.options.Options.{Options}

-- `let g = f(); k(class extends g { static x = 1; });`
abbrev pub source_class_in_front_of_what_its_heritage_reads : Tree
source_class_in_front_of_what_its_heritage_reads = node Kind.Program 0 (more (string (codes "script")) (more (list (trees (node Kind.VariableDeclaration 1 (more (string (codes "let")) (more (list (trees (node Kind.VariableDeclarator 2 (more (child (node Kind.BindingIdentifier 3 (more (string (codes "g")) end))) (more (child (node Kind.CallExpression 4 (more (child (node Kind.IdentifierReference 5 (more (string (codes "f")) end))) (more (list end) (more (boolean false) end))))) end)) ∷ []))) end)) ∷ node Kind.ExpressionStatement 6 (more (child (node Kind.CallExpression 7 (more (child (node Kind.IdentifierReference 8 (more (string (codes "k")) end))) (more (list (trees (node Kind.ClassExpression 9 (more absent (more (child (node Kind.IdentifierReference 10 (more (string (codes "g")) end))) (more (child (node Kind.ClassBody 11 (more (list (trees (node Kind.PropertyDefinition 12 (more (child (node Kind.IdentifierName 13 (more (string (codes "x")) end))) (more (child (node Kind.Literal 14 (more (literal (literal_value.Number (codes "1"))) end))) (more (boolean false) (more (boolean true) end)))) ∷ []))) end))) end))) ∷ []))) (more (boolean false) end))))) (more no_string end)) ∷ []))) end))

-- a class stands in front of the let that its heritage reads: `var _C; _C = class extends g { }; let g = f(); k((B.defineProperty(_C, "x", 1), _C));`
abbrev pub output_class_in_front_of_what_its_heritage_reads : Tree
output_class_in_front_of_what_its_heritage_reads = node Kind.Program 0 (more (string (codes "script")) (more (list (trees (node Kind.VariableDeclaration 15 (more (string (codes "var")) (more (list (trees (node Kind.VariableDeclarator 16 (more (child (node Kind.BindingIdentifier 17 (more (string (codes "_C")) end))) (more absent end)) ∷ []))) end)) ∷ node Kind.ExpressionStatement 18 (more (child (node Kind.AssignmentExpression 19 (more (string (codes "=")) (more (child (node Kind.IdentifierReference 20 (more (string (codes "_C")) end))) (more (child (node Kind.ClassExpression 9 (more absent (more (child (node Kind.IdentifierReference 10 (more (string (codes "g")) end))) (more (child (node Kind.ClassBody 11 (more (list end) end))) end))))) end))))) (more no_string end)) ∷ node Kind.VariableDeclaration 1 (more (string (codes "let")) (more (list (trees (node Kind.VariableDeclarator 2 (more (child (node Kind.BindingIdentifier 3 (more (string (codes "g")) end))) (more (child (node Kind.CallExpression 4 (more (child (node Kind.IdentifierReference 5 (more (string (codes "f")) end))) (more (list end) (more (boolean false) end))))) end)) ∷ []))) end)) ∷ node Kind.ExpressionStatement 6 (more (child (node Kind.CallExpression 7 (more (child (node Kind.IdentifierReference 8 (more (string (codes "k")) end))) (more (list (trees (node Kind.SequenceExpression 21 (more (list (trees (node Kind.CallExpression 22 (more (child (node Kind.MemberExpression 23 (more (child (node Kind.IdentifierReference 24 (more (string (codes "babelHelpers")) end))) (more (child (node Kind.IdentifierName 25 (more (string (codes "defineProperty")) end))) (more (boolean false) (more (boolean false) end)))))) (more (list (trees (node Kind.IdentifierReference 26 (more (string (codes "_C")) end) ∷ node Kind.Literal 27 (more (literal (literal_value.String (codes "x") None)) end) ∷ node Kind.Literal 14 (more (literal (literal_value.Number (codes "1"))) end) ∷ []))) (more (boolean false) end))) ∷ node Kind.IdentifierReference 28 (more (string (codes "_C")) end) ∷ []))) end) ∷ []))) (more (boolean false) end))))) (more no_string end)) ∷ []))) end))

abbrev pub generated_class_in_front_of_what_its_heritage_reads : List LedgerEntry
generated_class_in_front_of_what_its_heritage_reads = record { name = codes "_C"; kind = GeneratedKind.ClassTemp (record { 0 = 9 }) } ∷ []

abbrev pub options_class_in_front_of_what_its_heritage_reads : Options
options_class_in_front_of_what_its_heritage_reads = options_of false (Some (record { loose = false })) false
