-- Printed by tools/rows/witnesses.js.
use Rattle.std.specs.Prelude.{ℕ, List, [], ◌∷◌, false, codes, Some, None}
use Rattle.es_base.specs.Tree.{Tree, end, more, child, absent, list, string, no_string, boolean, literal, trees}
use Rattle.es_base.specs.declared.kind.Kind.{Kind}
use Rattle.es_base.specs.declared.ledger.LedgerEntry.{LedgerEntry}
use Rattle.es_base.specs.declared.literal.LiteralValue.TheVariants as literal_value
use Rattle.es_steps.specs.Generated.{node}
use Rattle.es_steps.specs.Options.{options_of}
use Rattle.es_steps.specs.declared.options.Options.{Options}

-- `for (let i; t(); ) { g(i); i = f(); class D { x = 1; } }`
abbrev pub source_let_out_of_a_head : Tree
source_let_out_of_a_head = node Kind.Program 0 (more (string (codes "script")) (more (list (trees (node Kind.ForStatement 1 (more (child (node Kind.VariableDeclaration 2 (more (string (codes "let")) (more (list (trees (node Kind.VariableDeclarator 3 (more (child (node Kind.BindingIdentifier 4 (more (string (codes "i")) end))) (more absent end)) ∷ []))) end)))) (more (child (node Kind.CallExpression 5 (more (child (node Kind.IdentifierReference 6 (more (string (codes "t")) end))) (more (list end) (more (boolean false) end))))) (more absent (more (child (node Kind.BlockStatement 7 (more (list (trees (node Kind.ExpressionStatement 8 (more (child (node Kind.CallExpression 9 (more (child (node Kind.IdentifierReference 10 (more (string (codes "g")) end))) (more (list (trees (node Kind.IdentifierReference 11 (more (string (codes "i")) end) ∷ []))) (more (boolean false) end))))) (more no_string end)) ∷ node Kind.ExpressionStatement 12 (more (child (node Kind.AssignmentExpression 13 (more (string (codes "=")) (more (child (node Kind.IdentifierReference 14 (more (string (codes "i")) end))) (more (child (node Kind.CallExpression 15 (more (child (node Kind.IdentifierReference 16 (more (string (codes "f")) end))) (more (list end) (more (boolean false) end))))) end))))) (more no_string end)) ∷ node Kind.ClassDeclaration 17 (more (child (node Kind.BindingIdentifier 18 (more (string (codes "D")) end))) (more absent (more (child (node Kind.ClassBody 19 (more (list (trees (node Kind.PropertyDefinition 20 (more (child (node Kind.IdentifierName 21 (more (string (codes "x")) end))) (more (child (node Kind.Literal 22 (more (literal (literal_value.Number (codes "1"))) end))) (more (boolean false) (more (boolean false) end)))) ∷ []))) end))) end))) ∷ []))) end))) end)))) ∷ []))) end))

-- a `let` moved from the head of a `for` into its body, where `for (let i; t(); ) { g(i); i = f(); class D { constructor() { B.defineProperty(this, "x", 1); } } }` is right
abbrev pub output_let_out_of_a_head : Tree
output_let_out_of_a_head = node Kind.Program 0 (more (string (codes "script")) (more (list (trees (node Kind.ForStatement 1 (more (child (node Kind.UnaryExpression 23 (more (string (codes "void")) (more (child (node Kind.Literal 24 (more (literal (literal_value.Number (codes "0"))) end))) end)))) (more (child (node Kind.CallExpression 5 (more (child (node Kind.IdentifierReference 6 (more (string (codes "t")) end))) (more (list end) (more (boolean false) end))))) (more absent (more (child (node Kind.BlockStatement 7 (more (list (trees (node Kind.VariableDeclaration 2 (more (string (codes "let")) (more (list (trees (node Kind.VariableDeclarator 3 (more (child (node Kind.BindingIdentifier 4 (more (string (codes "i")) end))) (more absent end)) ∷ []))) end)) ∷ node Kind.ExpressionStatement 8 (more (child (node Kind.CallExpression 9 (more (child (node Kind.IdentifierReference 10 (more (string (codes "g")) end))) (more (list (trees (node Kind.IdentifierReference 11 (more (string (codes "i")) end) ∷ []))) (more (boolean false) end))))) (more no_string end)) ∷ node Kind.ExpressionStatement 12 (more (child (node Kind.AssignmentExpression 13 (more (string (codes "=")) (more (child (node Kind.IdentifierReference 14 (more (string (codes "i")) end))) (more (child (node Kind.CallExpression 15 (more (child (node Kind.IdentifierReference 16 (more (string (codes "f")) end))) (more (list end) (more (boolean false) end))))) end))))) (more no_string end)) ∷ node Kind.ClassDeclaration 17 (more (child (node Kind.BindingIdentifier 18 (more (string (codes "D")) end))) (more absent (more (child (node Kind.ClassBody 19 (more (list (trees (node Kind.MethodDefinition 25 (more (child (node Kind.IdentifierName 26 (more (string (codes "constructor")) end))) (more (child (node Kind.FunctionExpression 27 (more absent (more (list end) (more (child (node Kind.BlockStatement 28 (more (list (trees (node Kind.ExpressionStatement 29 (more (child (node Kind.CallExpression 30 (more (child (node Kind.MemberExpression 31 (more (child (node Kind.IdentifierReference 32 (more (string (codes "babelHelpers")) end))) (more (child (node Kind.IdentifierName 33 (more (string (codes "defineProperty")) end))) (more (boolean false) (more (boolean false) end)))))) (more (list (trees (node Kind.ThisExpression 34 end ∷ node Kind.Literal 35 (more (literal (literal_value.String (codes "x") None)) end) ∷ node Kind.Literal 22 (more (literal (literal_value.Number (codes "1"))) end) ∷ []))) (more (boolean false) end))))) (more no_string end)) ∷ []))) end))) (more (boolean false) (more (boolean false) end))))))) (more (string (codes "constructor")) (more (boolean false) (more (boolean false) end))))) ∷ []))) end))) end))) ∷ []))) end))) end)))) ∷ []))) end))

abbrev pub generated_let_out_of_a_head : List LedgerEntry
generated_let_out_of_a_head = []

abbrev pub options_let_out_of_a_head : Options
options_let_out_of_a_head = options_of false (Some (record { loose = false })) false
