-- Printed by tools/rows/witnesses.js.
use Rattle.std.specs.Prelude.{ℕ, List, [], ◌∷◌, true, false, codes, Some, None}
use Rattle.es_base.specs.Tree.{Tree, end, more, child, absent, list, string, no_string, boolean, literal, trees}
use Rattle.es_base.specs.declared.kind.Kind.{Kind}
use Rattle.es_base.specs.declared.ledger.GeneratedKind.{GeneratedKind}
use Rattle.es_base.specs.declared.ledger.LedgerEntry.{LedgerEntry}
use Rattle.es_base.specs.declared.literal.LiteralValue.TheVariants as literal_value
use Rattle.es_steps.specs.Generated.{node}
use Rattle.es_steps.specs.Options.{options_of}
use Rattle.es_steps.specs.declared.options.Options.{Options}

-- `a()?.(class extends g { static x = 1; }); let g = f();`
abbrev pub source_class_out_of_a_chain : Tree
source_class_out_of_a_chain = node Kind.Program 0 (more (string (codes "script")) (more (list (trees (node Kind.ExpressionStatement 1 (more (child (node Kind.ChainExpression 2 (more (child (node Kind.CallExpression 3 (more (child (node Kind.CallExpression 4 (more (child (node Kind.IdentifierReference 5 (more (string (codes "a")) end))) (more (list end) (more (boolean false) end))))) (more (list (trees (node Kind.ClassExpression 6 (more absent (more (child (node Kind.IdentifierReference 7 (more (string (codes "g")) end))) (more (child (node Kind.ClassBody 8 (more (list (trees (node Kind.PropertyDefinition 9 (more (child (node Kind.IdentifierName 10 (more (string (codes "x")) end))) (more (child (node Kind.Literal 11 (more (literal (literal_value.Number (codes "1"))) end))) (more (boolean false) (more (boolean true) end)))) ∷ []))) end))) end))) ∷ []))) (more (boolean true) end))))) end))) (more no_string end)) ∷ node Kind.VariableDeclaration 12 (more (string (codes "let")) (more (list (trees (node Kind.VariableDeclarator 13 (more (child (node Kind.BindingIdentifier 14 (more (string (codes "g")) end))) (more (child (node Kind.CallExpression 15 (more (child (node Kind.IdentifierReference 16 (more (string (codes "f")) end))) (more (list end) (more (boolean false) end))))) end)) ∷ []))) end)) ∷ []))) end))

-- a class leaves the chain that may not run: `var _t, _C; (_t = a(), _C = class extends g { }, _t)?.((B.defineProperty(_C, "x", 1), _C)); let g = f();`
abbrev pub output_class_out_of_a_chain : Tree
output_class_out_of_a_chain = node Kind.Program 0 (more (string (codes "script")) (more (list (trees (node Kind.VariableDeclaration 17 (more (string (codes "var")) (more (list (trees (node Kind.VariableDeclarator 18 (more (child (node Kind.BindingIdentifier 19 (more (string (codes "_t")) end))) (more absent end)) ∷ node Kind.VariableDeclarator 20 (more (child (node Kind.BindingIdentifier 21 (more (string (codes "_C")) end))) (more absent end)) ∷ []))) end)) ∷ node Kind.ExpressionStatement 1 (more (child (node Kind.ChainExpression 2 (more (child (node Kind.CallExpression 3 (more (child (node Kind.SequenceExpression 22 (more (list (trees (node Kind.AssignmentExpression 23 (more (string (codes "=")) (more (child (node Kind.IdentifierReference 24 (more (string (codes "_t")) end))) (more (child (node Kind.CallExpression 4 (more (child (node Kind.IdentifierReference 5 (more (string (codes "a")) end))) (more (list end) (more (boolean false) end))))) end))) ∷ node Kind.AssignmentExpression 25 (more (string (codes "=")) (more (child (node Kind.IdentifierReference 26 (more (string (codes "_C")) end))) (more (child (node Kind.ClassExpression 6 (more absent (more (child (node Kind.IdentifierReference 7 (more (string (codes "g")) end))) (more (child (node Kind.ClassBody 8 (more (list end) end))) end))))) end))) ∷ node Kind.IdentifierReference 27 (more (string (codes "_t")) end) ∷ []))) end))) (more (list (trees (node Kind.SequenceExpression 28 (more (list (trees (node Kind.CallExpression 29 (more (child (node Kind.MemberExpression 30 (more (child (node Kind.IdentifierReference 31 (more (string (codes "babelHelpers")) end))) (more (child (node Kind.IdentifierName 32 (more (string (codes "defineProperty")) end))) (more (boolean false) (more (boolean false) end)))))) (more (list (trees (node Kind.IdentifierReference 33 (more (string (codes "_C")) end) ∷ node Kind.Literal 34 (more (literal (literal_value.String (codes "x") None)) end) ∷ node Kind.Literal 11 (more (literal (literal_value.Number (codes "1"))) end) ∷ []))) (more (boolean false) end))) ∷ node Kind.IdentifierReference 35 (more (string (codes "_C")) end) ∷ []))) end) ∷ []))) (more (boolean true) end))))) end))) (more no_string end)) ∷ node Kind.VariableDeclaration 12 (more (string (codes "let")) (more (list (trees (node Kind.VariableDeclarator 13 (more (child (node Kind.BindingIdentifier 14 (more (string (codes "g")) end))) (more (child (node Kind.CallExpression 15 (more (child (node Kind.IdentifierReference 16 (more (string (codes "f")) end))) (more (list end) (more (boolean false) end))))) end)) ∷ []))) end)) ∷ []))) end))

abbrev pub generated_class_out_of_a_chain : List LedgerEntry
generated_class_out_of_a_chain = record { name = codes "_t"; kind = GeneratedKind.Temp } ∷ record { name = codes "_C"; kind = GeneratedKind.ClassTemp (record { 0 = 6 }) } ∷ []

abbrev pub options_class_out_of_a_chain : Options
options_class_out_of_a_chain = options_of false (Some (record { loose = false })) false
