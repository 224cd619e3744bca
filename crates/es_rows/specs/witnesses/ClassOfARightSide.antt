-- Printed by tools/rows/witnesses.js.
use Rattle.std.specs.Prelude.{ℕ, List, [], ◌∷◌, false, codes, Some, None}
use Rattle.es_base.specs.Tree.{Tree, end, more, child, absent, list, string, no_string, boolean, literal, trees}
use Rattle.es_base.specs.declared.kind.Kind.{Kind}
use Rattle.es_base.specs.declared.ledger.GeneratedKind.{GeneratedKind}
use Rattle.es_base.specs.declared.ledger.LedgerEntry.{LedgerEntry}
use Rattle.es_base.specs.declared.literal.LiteralValue.TheVariants as literal_value
use Rattle.es_steps.specs.Generated.{node}
use Rattle.es_steps.specs.Options.{options_of}
use Rattle.es_steps.specs.declared.options.Options.{Options}

-- `for (const x of g()) h(class { y = 1; });`
abbrev pub source_class_of_a_right_side : Tree
source_class_of_a_right_side = node Kind.Program 0 (more (string (codes "script")) (more (list (trees (node Kind.ForOfStatement 1 (more (child (node Kind.VariableDeclaration 2 (more (string (codes "const")) (more (list (trees (node Kind.VariableDeclarator 3 (more (child (node Kind.BindingIdentifier 4 (more (string (codes "x")) end))) (more absent end)) ∷ []))) end)))) (more (child (node Kind.CallExpression 5 (more (child (node Kind.IdentifierReference 6 (more (string (codes "g")) end))) (more (list end) (more (boolean false) end))))) (more (child (node Kind.ExpressionStatement 7 (more (child (node Kind.CallExpression 8 (more (child (node Kind.IdentifierReference 9 (more (string (codes "h")) end))) (more (list (trees (node Kind.ClassExpression 10 (more absent (more absent (more (child (node Kind.ClassBody 11 (more (list (trees (node Kind.PropertyDefinition 12 (more (child (node Kind.IdentifierName 13 (more (string (codes "y")) end))) (more (child (node Kind.Literal 14 (more (literal (literal_value.Number (codes "1"))) end))) (more (boolean false) (more (boolean false) end)))) ∷ []))) end))) end))) ∷ []))) (more (boolean false) end))))) (more no_string end)))) (more (boolean false) end)))) ∷ []))) end))

-- a class of the body of a `for` evaluated once, beside what it runs over, where `for (const x of g()) h(class { constructor() { B.defineProperty(this, "y", 1); } });` is right
abbrev pub output_class_of_a_right_side : Tree
output_class_of_a_right_side = node Kind.Program 0 (more (string (codes "script")) (more (list (trees (node Kind.VariableDeclaration 15 (more (string (codes "let")) (more (list (trees (node Kind.VariableDeclarator 16 (more (child (node Kind.BindingIdentifier 17 (more (string (codes "_t")) end))) (more absent end)) ∷ []))) end)) ∷ node Kind.ForOfStatement 1 (more (child (node Kind.VariableDeclaration 2 (more (string (codes "const")) (more (list (trees (node Kind.VariableDeclarator 3 (more (child (node Kind.BindingIdentifier 4 (more (string (codes "x")) end))) (more absent end)) ∷ []))) end)))) (more (child (node Kind.SequenceExpression 18 (more (list (trees (node Kind.AssignmentExpression 19 (more (string (codes "=")) (more (child (node Kind.IdentifierReference 20 (more (string (codes "_t")) end))) (more (child (node Kind.ClassExpression 10 (more absent (more absent (more (child (node Kind.ClassBody 11 (more (list (trees (node Kind.MethodDefinition 21 (more (child (node Kind.IdentifierName 22 (more (string (codes "constructor")) end))) (more (child (node Kind.FunctionExpression 23 (more absent (more (list end) (more (child (node Kind.BlockStatement 24 (more (list (trees (node Kind.ExpressionStatement 25 (more (child (node Kind.CallExpression 26 (more (child (node Kind.MemberExpression 27 (more (child (node Kind.IdentifierReference 28 (more (string (codes "babelHelpers")) end))) (more (child (node Kind.IdentifierName 29 (more (string (codes "defineProperty")) end))) (more (boolean false) (more (boolean false) end)))))) (more (list (trees (node Kind.ThisExpression 30 end ∷ node Kind.Literal 31 (more (literal (literal_value.String (codes "y") None)) end) ∷ node Kind.Literal 14 (more (literal (literal_value.Number (codes "1"))) end) ∷ []))) (more (boolean false) end))))) (more no_string end)) ∷ []))) end))) (more (boolean false) (more (boolean false) end))))))) (more (string (codes "constructor")) (more (boolean false) (more (boolean false) end))))) ∷ []))) end))) end))))) end))) ∷ node Kind.CallExpression 5 (more (child (node Kind.IdentifierReference 6 (more (string (codes "g")) end))) (more (list end) (more (boolean false) end))) ∷ []))) end))) (more (child (node Kind.ExpressionStatement 7 (more (child (node Kind.CallExpression 8 (more (child (node Kind.IdentifierReference 9 (more (string (codes "h")) end))) (more (list (trees (node Kind.IdentifierReference 32 (more (string (codes "_t")) end) ∷ []))) (more (boolean false) end))))) (more no_string end)))) (more (boolean false) end)))) ∷ []))) end))

abbrev pub generated_class_of_a_right_side : List LedgerEntry
generated_class_of_a_right_side = record { name = codes "_t"; kind = GeneratedKind.Temp } ∷ []

abbrev pub options_class_of_a_right_side : Options
options_class_of_a_right_side = options_of false (Some (record { loose = false })) false
