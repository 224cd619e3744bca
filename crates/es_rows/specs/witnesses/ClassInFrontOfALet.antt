-- Printed by tools/rows/witnesses.js.
use Rattle.std.specs.Prelude.{ℕ, List, [], ◌∷◌, true, false, codes, Some, None}
use Rattle.es_base.specs.Tree.{Tree, end, more, child, absent, list, string, no_string, boolean, literal, trees}
use Rattle.es_base.specs.declared.kind.Kind.{Kind}
use Rattle.es_base.specs.declared.ledger.GeneratedKind.{GeneratedKind}
use Rattle.es_base.specs.declared.ledger.LedgerEntry.{LedgerEntry}
use Rattle.es_base.specs.declared.literal.LiteralValue.TheVariants as literal_value
use Rattle.es_steps.specs.Generated.{node}
use Rattle.es_steps.specs.Options.{options_of}
use Rattle.es_steps.specs.declared.options.Options.{Options}

-- `class C { static x = [class { m() { return C; } }, g(1)]; }`
abbrev pub source_class_in_front_of_a_let : Tree
source_class_in_front_of_a_let = node Kind.Program 0 (more (string (codes "script")) (more (list (trees (node Kind.ClassDeclaration 1 (more (child (node Kind.BindingIdentifier 2 (more (string (codes "C")) end))) (more absent (more (child (node Kind.ClassBody 3 (more (list (trees (node Kind.PropertyDefinition 4 (more (child (node Kind.IdentifierName 5 (more (string (codes "x")) end))) (more (child (node Kind.ArrayExpression 6 (more (list (trees (node Kind.ClassExpression 7 (more absent (more absent (more (child (node Kind.ClassBody 8 (more (list (trees (node Kind.MethodDefinition 9 (more (child (node Kind.IdentifierName 10 (more (string (codes "m")) end))) (more (child (node Kind.FunctionExpression 11 (more absent (more (list end) (more (child (node Kind.BlockStatement 12 (more (list (trees (node Kind.ReturnStatement 13 (more (child (node Kind.IdentifierReference 14 (more (string (codes "C")) end))) end) ∷ []))) end))) (more (boolean false) (more (boolean false) end))))))) (more (string (codes "method")) (more (boolean false) (more (boolean false) end))))) ∷ []))) end))) end))) ∷ node Kind.CallExpression 15 (more (child (node Kind.IdentifierReference 16 (more (string (codes "g")) end))) (more (list (trees (node Kind.Literal 17 (more (literal (literal_value.Number (codes "1"))) end) ∷ []))) (more (boolean false) end))) ∷ []))) end))) (more (boolean false) (more (boolean true) end)))) ∷ []))) end))) end))) ∷ []))) end))

-- a class that moves out of a static field, in front of the `let` that it names: `var _C, _t; _t = class { m() { return C; } }; let C = (_C = class C {}, B.defineProperty(_C, "x", [_t, g(1)]), _C);`
abbrev pub output_class_in_front_of_a_let : Tree
output_class_in_front_of_a_let = node Kind.Program 0 (more (string (codes "script")) (more (list (trees (node Kind.VariableDeclaration 18 (more (string (codes "var")) (more (list (trees (node Kind.VariableDeclarator 19 (more (child (node Kind.BindingIdentifier 20 (more (string (codes "_C")) end))) (more absent end)) ∷ node Kind.VariableDeclarator 21 (more (child (node Kind.BindingIdentifier 22 (more (string (codes "_t")) end))) (more absent end)) ∷ []))) end)) ∷ node Kind.ExpressionStatement 23 (more (child (node Kind.AssignmentExpression 24 (more (string (codes "=")) (more (child (node Kind.IdentifierReference 25 (more (string (codes "_t")) end))) (more (child (node Kind.ClassExpression 7 (more absent (more absent (more (child (node Kind.ClassBody 8 (more (list (trees (node Kind.MethodDefinition 9 (more (child (node Kind.IdentifierName 10 (more (string (codes "m")) end))) (more (child (node Kind.FunctionExpression 11 (more absent (more (list end) (more (child (node Kind.BlockStatement 12 (more (list (trees (node Kind.ReturnStatement 13 (more (child (node Kind.IdentifierReference 14 (more (string (codes "C")) end))) end) ∷ []))) end))) (more (boolean false) (more (boolean false) end))))))) (more (string (codes "method")) (more (boolean false) (more (boolean false) end))))) ∷ []))) end))) end))))) end))))) (more no_string end)) ∷ node Kind.VariableDeclaration 26 (more (string (codes "let")) (more (list (trees (node Kind.VariableDeclarator 27 (more (child (node Kind.BindingIdentifier 2 (more (string (codes "C")) end))) (more (child (node Kind.SequenceExpression 28 (more (list (trees (node Kind.AssignmentExpression 29 (more (string (codes "=")) (more (child (node Kind.IdentifierReference 30 (more (string (codes "_C")) end))) (more (child (node Kind.ClassExpression 1 (more (child (node Kind.BindingIdentifier 31 (more (string (codes "C")) end))) (more absent (more (child (node Kind.ClassBody 3 (more (list end) end))) end))))) end))) ∷ node Kind.CallExpression 32 (more (child (node Kind.MemberExpression 33 (more (child (node Kind.IdentifierReference 34 (more (string (codes "babelHelpers")) end))) (more (child (node Kind.IdentifierName 35 (more (string (codes "defineProperty")) end))) (more (boolean false) (more (boolean false) end)))))) (more (list (trees (node Kind.IdentifierReference 36 (more (string (codes "_C")) end) ∷ node Kind.Literal 37 (more (literal (literal_value.String (codes "x") None)) end) ∷ node Kind.ArrayExpression 6 (more (list (trees (node Kind.IdentifierReference 38 (more (string (codes "_t")) end) ∷ node Kind.CallExpression 15 (more (child (node Kind.IdentifierReference 16 (more (string (codes "g")) end))) (more (list (trees (node Kind.Literal 17 (more (literal (literal_value.Number (codes "1"))) end) ∷ []))) (more (boolean false) end))) ∷ []))) end) ∷ []))) (more (boolean false) end))) ∷ node Kind.IdentifierReference 39 (more (string (codes "_C")) end) ∷ []))) end))) end)) ∷ []))) end)) ∷ []))) end))

abbrev pub generated_class_in_front_of_a_let : List LedgerEntry
generated_class_in_front_of_a_let = record { name = codes "_t"; kind = GeneratedKind.Temp } ∷ record { name = codes "_C"; kind = GeneratedKind.ClassTemp (record { 0 = 1 }) } ∷ []

abbrev pub options_class_in_front_of_a_let : Options
options_class_in_front_of_a_let = options_of false (Some (record { loose = false })) false
