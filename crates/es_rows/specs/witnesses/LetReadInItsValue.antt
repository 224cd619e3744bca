-- Printed by tools/rows/witnesses.js.
use Rattle.std.specs.Prelude.{ℕ, List, [], ◌∷◌, true, false, codes, Some, None}
use Rattle.es_base.specs.Tree.{Tree, end, more, child, absent, list, string, no_string, boolean, literal, trees}
use Rattle.es_base.specs.declared.kind.Kind.{Kind}
use Rattle.es_base.specs.declared.ledger.GeneratedKind.{GeneratedKind}
use Rattle.es_base.specs.declared.ledger.LedgerEntry.{LedgerEntry}
use Rattle.es_base.specs.declared.literal.LiteralValue.TheVariants as literal_value
use Rattle.es_steps.specs.Generated.{node}
use Rattle.es_steps.specs.Options.{options_of}
use Rattle.es_steps.specs.declared.options.Options.{Options}

-- `class C { static x = C.y; } f(C.x);`
abbrev pub source_let_read_in_its_value : Tree
source_let_read_in_its_value = node Kind.Program 0 (more (string (codes "script")) (more (list (trees (node Kind.ClassDeclaration 1 (more (child (node Kind.BindingIdentifier 2 (more (string (codes "C")) end))) (more absent (more (child (node Kind.ClassBody 3 (more (list (trees (node Kind.PropertyDefinition 4 (more (child (node Kind.IdentifierName 5 (more (string (codes "x")) end))) (more (child (node Kind.MemberExpression 6 (more (child (node Kind.IdentifierReference 7 (more (string (codes "C")) end))) (more (child (node Kind.IdentifierName 8 (more (string (codes "y")) end))) (more (boolean false) (more (boolean false) end)))))) (more (boolean false) (more (boolean true) end)))) ∷ []))) end))) end))) ∷ node Kind.ExpressionStatement 9 (more (child (node Kind.CallExpression 10 (more (child (node Kind.IdentifierReference 11 (more (string (codes "f")) end))) (more (list (trees (node Kind.MemberExpression 12 (more (child (node Kind.IdentifierReference 13 (more (string (codes "C")) end))) (more (child (node Kind.IdentifierName 14 (more (string (codes "x")) end))) (more (boolean false) (more (boolean false) end)))) ∷ []))) (more (boolean false) end))))) (more no_string end)) ∷ []))) end))

-- a class declaration that becomes a `let`, which is read in its own value: `var _C; let C = (_C = class C {}, B.defineProperty(_C, "x", C.y), _C); f(C.x);`
abbrev pub output_let_read_in_its_value : Tree
output_let_read_in_its_value = node Kind.Program 0 (more (string (codes "script")) (more (list (trees (node Kind.VariableDeclaration 15 (more (string (codes "var")) (more (list (trees (node Kind.VariableDeclarator 16 (more (child (node Kind.BindingIdentifier 17 (more (string (codes "_C")) end))) (more absent end)) ∷ []))) end)) ∷ node Kind.VariableDeclaration 18 (more (string (codes "let")) (more (list (trees (node Kind.VariableDeclarator 19 (more (child (node Kind.BindingIdentifier 2 (more (string (codes "C")) end))) (more (child (node Kind.SequenceExpression 20 (more (list (trees (node Kind.AssignmentExpression 21 (more (string (codes "=")) (more (child (node Kind.IdentifierReference 22 (more (string (codes "_C")) end))) (more (child (node Kind.ClassExpression 1 (more (child (node Kind.BindingIdentifier 23 (more (string (codes "C")) end))) (more absent (more (child (node Kind.ClassBody 3 (more (list end) end))) end))))) end))) ∷ node Kind.CallExpression 24 (more (child (node Kind.MemberExpression 25 (more (child (node Kind.IdentifierReference 26 (more (string (codes "babelHelpers")) end))) (more (child (node Kind.IdentifierName 27 (more (string (codes "defineProperty")) end))) (more (boolean false) (more (boolean false) end)))))) (more (list (trees (node Kind.IdentifierReference 28 (more (string (codes "_C")) end) ∷ node Kind.Literal 29 (more (literal (literal_value.String (codes "x") None)) end) ∷ node Kind.MemberExpression 6 (more (child (node Kind.IdentifierReference 7 (more (string (codes "C")) end))) (more (child (node Kind.IdentifierName 8 (more (string (codes "y")) end))) (more (boolean false) (more (boolean false) end)))) ∷ []))) (more (boolean false) end))) ∷ node Kind.IdentifierReference 30 (more (string (codes "_C")) end) ∷ []))) end))) end)) ∷ []))) end)) ∷ node Kind.ExpressionStatement 9 (more (child (node Kind.CallExpression 10 (more (child (node Kind.IdentifierReference 11 (more (string (codes "f")) end))) (more (list (trees (node Kind.MemberExpression 12 (more (child (node Kind.IdentifierReference 13 (more (string (codes "C")) end))) (more (child (node Kind.IdentifierName 14 (more (string (codes "x")) end))) (more (boolean false) (more (boolean false) end)))) ∷ []))) (more (boolean false) end))))) (more no_string end)) ∷ []))) end))

abbrev pub generated_let_read_in_its_value : List LedgerEntry
generated_let_read_in_its_value = record { name = codes "_C"; kind = GeneratedKind.ClassTemp (record { 0 = 1 }) } ∷ []

abbrev pub options_let_read_in_its_value : Options
options_let_read_in_its_value = options_of false (Some (record { loose = false })) false
