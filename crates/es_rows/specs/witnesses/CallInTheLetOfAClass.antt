-- Printed by tools/rows/witnesses.js.
use Rattle.std.specs.Prelude.{ℕ, List, [], ◌∷◌, false, codes, Some, None}
use Rattle.es_base.specs.Tree.{Tree, end, more, child, absent, list, string, no_string, boolean, literal, trees}
use Rattle.es_base.specs.declared.kind.Kind.{Kind}
use Rattle.es_base.specs.declared.ledger.GeneratedKind.{GeneratedKind}
use Rattle.es_base.specs.declared.ledger.LedgerEntry.{LedgerEntry}
use Rattle.es_base.specs.declared.literal.LiteralValue.TheVariants as literal_value
use Rattle.es_steps.specs.Generated.{node}
use Rattle.es_steps.specs.Options.{options_of}
use Rattle.es_steps.specs.declared.options.Options.{Options}

-- `let g = () => A; class A { x = 1; } f(g, class { y = 1; });`
abbrev pub source_call_in_the_let_of_a_class : Tree
source_call_in_the_let_of_a_class = node Kind.Program 0 (more (string (codes "script")) (more (list (trees (node Kind.VariableDeclaration 1 (more (string (codes "let")) (more (list (trees (node Kind.VariableDeclarator 2 (more (child (node Kind.BindingIdentifier 3 (more (string (codes "g")) end))) (more (child (node Kind.ArrowFunctionExpression 4 (more (list end) (more (child (node Kind.IdentifierReference 5 (more (string (codes "A")) end))) (more (boolean false) end))))) end)) ∷ []))) end)) ∷ node Kind.ClassDeclaration 6 (more (child (node Kind.BindingIdentifier 7 (more (string (codes "A")) end))) (more absent (more (child (node Kind.ClassBody 8 (more (list (trees (node Kind.PropertyDefinition 9 (more (child (node Kind.IdentifierName 10 (more (string (codes "x")) end))) (more (child (node Kind.Literal 11 (more (literal (literal_value.Number (codes "1"))) end))) (more (boolean false) (more (boolean false) end)))) ∷ []))) end))) end))) ∷ node Kind.ExpressionStatement 12 (more (child (node Kind.CallExpression 13 (more (child (node Kind.IdentifierReference 14 (more (string (codes "f")) end))) (more (list (trees (node Kind.IdentifierReference 15 (more (string (codes "g")) end) ∷ node Kind.ClassExpression 16 (more absent (more absent (more (child (node Kind.ClassBody 17 (more (list (trees (node Kind.PropertyDefinition 18 (more (child (node Kind.IdentifierName 19 (more (string (codes "y")) end))) (more (child (node Kind.Literal 20 (more (literal (literal_value.Number (codes "1"))) end))) (more (boolean false) (more (boolean false) end)))) ∷ []))) end))) end))) ∷ []))) (more (boolean false) end))))) (more no_string end)) ∷ []))) end))

-- a call that stood behind a class declaration, in the initializer of the `let` that the class becomes: `let g = () => A; var _A; let A = (_A = class A { constructor() { B.defineProperty(this, "x", 1); } }, f(g, class { constructor() { B.defineProperty(this, "y", 1); } }), _A);`
abbrev pub output_call_in_the_let_of_a_class : Tree
output_call_in_the_let_of_a_class = node Kind.Program 0 (more (string (codes "script")) (more (list (trees (node Kind.VariableDeclaration 1 (more (string (codes "let")) (more (list (trees (node Kind.VariableDeclarator 2 (more (child (node Kind.BindingIdentifier 3 (more (string (codes "g")) end))) (more (child (node Kind.ArrowFunctionExpression 4 (more (list end) (more (child (node Kind.IdentifierReference 5 (more (string (codes "A")) end))) (more (boolean false) end))))) end)) ∷ []))) end)) ∷ node Kind.VariableDeclaration 21 (more (string (codes "var")) (more (list (trees (node Kind.VariableDeclarator 22 (more (child (node Kind.BindingIdentifier 23 (more (string (codes "_A")) end))) (more absent end)) ∷ []))) end)) ∷ node Kind.VariableDeclaration 24 (more (string (codes "let")) (more (list (trees (node Kind.VariableDeclarator 25 (more (child (node Kind.BindingIdentifier 7 (more (string (codes "A")) end))) (more (child (node Kind.SequenceExpression 26 (more (list (trees (node Kind.AssignmentExpression 27 (more (string (codes "=")) (more (child (node Kind.IdentifierReference 28 (more (string (codes "_A")) end))) (more (child (node Kind.ClassExpression 6 (more (child (node Kind.BindingIdentifier 29 (more (string (codes "A")) end))) (more absent (more (child (node Kind.ClassBody 8 (more (list (trees (node Kind.MethodDefinition 30 (more (child (node Kind.IdentifierName 31 (more (string (codes "constructor")) end))) (more (child (node Kind.FunctionExpression 32 (more absent (more (list end) (more (child (node Kind.BlockStatement 33 (more (list (trees (node Kind.ExpressionStatement 34 (more (child (node Kind.CallExpression 35 (more (child (node Kind.MemberExpression 36 (more (child (node Kind.IdentifierReference 37 (more (string (codes "babelHelpers")) end))) (more (child (node Kind.IdentifierName 38 (more (string (codes "defineProperty")) end))) (more (boolean false) (more (boolean false) end)))))) (more (list (trees (node Kind.ThisExpression 39 end ∷ node Kind.Literal 40 (more (literal (literal_value.String (codes "x") None)) end) ∷ node Kind.Literal 11 (more (literal (literal_value.Number (codes "1"))) end) ∷ []))) (more (boolean false) end))))) (more no_string end)) ∷ []))) end))) (more (boolean false) (more (boolean false) end))))))) (more (string (codes "constructor")) (more (boolean false) (more (boolean false) end))))) ∷ []))) end))) end))))) end))) ∷ node Kind.CallExpression 13 (more (child (node Kind.IdentifierReference 14 (more (string (codes "f")) end))) (more (list (trees (node Kind.IdentifierReference 15 (more (string (codes "g")) end) ∷ node Kind.ClassExpression 16 (more absent (more absent (more (child (node Kind.ClassBody 17 (more (list (trees (node Kind.MethodDefinition 41 (more (child (node Kind.IdentifierName 42 (more (string (codes "constructor")) end))) (more (child (node Kind.FunctionExpression 43 (more absent (more (list end) (more (child (node Kind.BlockStatement 44 (more (list (trees (node Kind.ExpressionStatement 45 (more (child (node Kind.CallExpression 46 (more (child (node Kind.MemberExpression 47 (more (child (node Kind.IdentifierReference 48 (more (string (codes "babelHelpers")) end))) (more (child (node Kind.IdentifierName 49 (more (string (codes "defineProperty")) end))) (more (boolean false) (more (boolean false) end)))))) (more (list (trees (node Kind.ThisExpression 50 end ∷ node Kind.Literal 51 (more (literal (literal_value.String (codes "y") None)) end) ∷ node Kind.Literal 20 (more (literal (literal_value.Number (codes "1"))) end) ∷ []))) (more (boolean false) end))))) (more no_string end)) ∷ []))) end))) (more (boolean false) (more (boolean false) end))))))) (more (string (codes "constructor")) (more (boolean false) (more (boolean false) end))))) ∷ []))) end))) end))) ∷ []))) (more (boolean false) end))) ∷ node Kind.IdentifierReference 52 (more (string (codes "_A")) end) ∷ []))) end))) end)) ∷ []))) end)) ∷ []))) end))

abbrev pub generated_call_in_the_let_of_a_class : List LedgerEntry
generated_call_in_the_let_of_a_class = record { name = codes "_A"; kind = GeneratedKind.ClassTemp (record { 0 = 6 }) } ∷ []

abbrev pub options_call_in_the_let_of_a_class : Options
options_call_in_the_let_of_a_class = options_of false (Some (record { loose = false })) false
