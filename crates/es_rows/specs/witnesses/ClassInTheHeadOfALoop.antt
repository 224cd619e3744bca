-- Printed by tools/rows/witnesses.js.
use Rattle.std.specs.Prelude.{ℕ, List, [], ◌∷◌, true, false, codes, Some, None}
use Rattle.es_base.specs.Tree.{Tree, end, more, child, absent, list, string, no_string, boolean, literal, trees}
use Rattle.es_base.specs.declared.kind.Kind.{Kind}
use Rattle.es_base.specs.declared.ledger.GeneratedKind.{GeneratedKind}
use Rattle.es_base.specs.declared.ledger.LedgerEntry.{LedgerEntry}
use Rattle.es_base.specs.declared.literal.LiteralValue.TheVariants as literal_value
use Rattle.es_steps.specs.Generated.{node}
use Rattle.es_steps.specs.Options.{options_of}
use Rattle.es_steps.specs.declared.options.Options.{Options}

-- `for (var y = class { static x = 1; } in o) { k(() => 2, class { x = 1; }); }`
abbrev pub source_class_in_the_head_of_a_loop : Tree
source_class_in_the_head_of_a_loop = node Kind.Program 0 (more (string (codes "script")) (more (list (trees (node Kind.ForInStatement 1 (more (child (node Kind.VariableDeclaration 2 (more (string (codes "var")) (more (list (trees (node Kind.VariableDeclarator 3 (more (child (node Kind.BindingIdentifier 4 (more (string (codes "y")) end))) (more (child (node Kind.ClassExpression 5 (more absent (more absent (more (child (node Kind.ClassBody 6 (more (list (trees (node Kind.PropertyDefinition 7 (more (child (node Kind.IdentifierName 8 (more (string (codes "x")) end))) (more (child (node Kind.Literal 9 (more (literal (literal_value.Number (codes "1"))) end))) (more (boolean false) (more (boolean true) end)))) ∷ []))) end))) end))))) end)) ∷ []))) end)))) (more (child (node Kind.IdentifierReference 10 (more (string (codes "o")) end))) (more (child (node Kind.BlockStatement 11 (more (list (trees (node Kind.ExpressionStatement 12 (more (child (node Kind.CallExpression 13 (more (child (node Kind.IdentifierReference 14 (more (string (codes "k")) end))) (more (list (trees (node Kind.ArrowFunctionExpression 15 (more (list end) (more (child (node Kind.Literal 16 (more (literal (literal_value.Number (codes "2"))) end))) (more (boolean false) end))) ∷ node Kind.ClassExpression 17 (more absent (more absent (more (child (node Kind.ClassBody 18 (more (list (trees (node Kind.PropertyDefinition 19 (more (child (node Kind.IdentifierName 20 (more (string (codes "x")) end))) (more (child (node Kind.Literal 21 (more (literal (literal_value.Number (codes "1"))) end))) (more (boolean false) (more (boolean false) end)))) ∷ []))) end))) end))) ∷ []))) (more (boolean false) end))))) (more no_string end)) ∷ []))) end))) end))) ∷ []))) end))

-- a class in the value that the head of a for-in evaluates once, as `var _C; for (var y = (_C = class { }, B.defineProperty(_C, "x", 1), _C) in o) { k(() => 2, class { constructor() { B.defineProperty(this, "x", 1); } }); }` means
abbrev pub output_class_in_the_head_of_a_loop : Tree
output_class_in_the_head_of_a_loop = node Kind.Program 0 (more (string (codes "script")) (more (list (trees (node Kind.VariableDeclaration 22 (more (string (codes "var")) (more (list (trees (node Kind.VariableDeclarator 23 (more (child (node Kind.BindingIdentifier 24 (more (string (codes "_C")) end))) (more absent end)) ∷ []))) end)) ∷ node Kind.ForInStatement 1 (more (child (node Kind.VariableDeclaration 2 (more (string (codes "var")) (more (list (trees (node Kind.VariableDeclarator 3 (more (child (node Kind.BindingIdentifier 4 (more (string (codes "y")) end))) (more (child (node Kind.SequenceExpression 25 (more (list (trees (node Kind.AssignmentExpression 26 (more (string (codes "=")) (more (child (node Kind.IdentifierReference 27 (more (string (codes "_C")) end))) (more (child (node Kind.ClassExpression 5 (more absent (more absent (more (child (node Kind.ClassBody 6 (more (list end) end))) end))))) end))) ∷ node Kind.CallExpression 28 (more (child (node Kind.MemberExpression 29 (more (child (node Kind.IdentifierReference 30 (more (string (codes "babelHelpers")) end))) (more (child (node Kind.IdentifierName 31 (more (string (codes "defineProperty")) end))) (more (boolean false) (more (boolean false) end)))))) (more (list (trees (node Kind.IdentifierReference 32 (more (string (codes "_C")) end) ∷ node Kind.Literal 33 (more (literal (literal_value.String (codes "x") None)) end) ∷ node Kind.Literal 9 (more (literal (literal_value.Number (codes "1"))) end) ∷ []))) (more (boolean false) end))) ∷ node Kind.IdentifierReference 34 (more (string (codes "_C")) end) ∷ []))) end))) end)) ∷ []))) end)))) (more (child (node Kind.IdentifierReference 10 (more (string (codes "o")) end))) (more (child (node Kind.BlockStatement 11 (more (list (trees (node Kind.ExpressionStatement 12 (more (child (node Kind.CallExpression 13 (more (child (node Kind.IdentifierReference 14 (more (string (codes "k")) end))) (more (list (trees (node Kind.ArrowFunctionExpression 15 (more (list end) (more (child (node Kind.Literal 16 (more (literal (literal_value.Number (codes "2"))) end))) (more (boolean false) end))) ∷ node Kind.ClassExpression 17 (more absent (more absent (more (child (node Kind.ClassBody 18 (more (list (trees (node Kind.MethodDefinition 35 (more (child (node Kind.IdentifierName 36 (more (string (codes "constructor")) end))) (more (child (node Kind.FunctionExpression 37 (more absent (more (list end) (more (child (node Kind.BlockStatement 38 (more (list (trees (node Kind.ExpressionStatement 39 (more (child (node Kind.CallExpression 40 (more (child (node Kind.MemberExpression 41 (more (child (node Kind.IdentifierReference 42 (more (string (codes "babelHelpers")) end))) (more (child (node Kind.IdentifierName 43 (more (string (codes "defineProperty")) end))) (more (boolean false) (more (boolean false) end)))))) (more (list (trees (node Kind.ThisExpression 44 end ∷ node Kind.Literal 45 (more (literal (literal_value.String (codes "x") None)) end) ∷ node Kind.Literal 21 (more (literal (literal_value.Number (codes "1"))) end) ∷ []))) (more (boolean false) end))))) (more no_string end)) ∷ []))) end))) (more (boolean false) (more (boolean false) end))))))) (more (string (codes "constructor")) (more (boolean false) (more (boolean false) end))))) ∷ []))) end))) end))) ∷ []))) (more (boolean false) end))))) (more no_string end)) ∷ []))) end))) end))) ∷ []))) end))

abbrev pub generated_class_in_the_head_of_a_loop : List LedgerEntry
generated_class_in_the_head_of_a_loop = record { name = codes "_C"; kind = GeneratedKind.ClassTemp (record { 0 = 5 }) } ∷ []

abbrev pub options_class_in_the_head_of_a_loop : Options
options_class_in_the_head_of_a_loop = options_of false (Some (record { loose = false })) false
