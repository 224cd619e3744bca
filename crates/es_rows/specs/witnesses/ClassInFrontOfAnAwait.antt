-- Printed by tools/rows/witnesses.js.
use Rattle.std.specs.Prelude.{ℕ, List, [], ◌∷◌, true, false, codes, Some, None}
use Rattle.es_base.specs.Tree.{Tree, end, more, child, absent, list, string, no_string, boolean, literal, trees}
use Rattle.es_base.specs.declared.kind.Kind.{Kind}
use Rattle.es_base.specs.declared.ledger.GeneratedKind.{GeneratedKind}
use Rattle.es_base.specs.declared.ledger.LedgerEntry.{LedgerEntry}
use Rattle.es_base.specs.declared.literal.LiteralValue.TheVariants as literal_value
use Rattle.es_steps.specs.Generated.{node}
use Rattle.es_steps.specs.Options.{options_of}
use Rattle.es_steps.specs.declared.options.Options.{Options}

-- `async function m() { await h(); k(class extends g { static x = 1; }); } m(); let g = f();`
abbrev pub source_class_in_front_of_an_await : Tree
source_class_in_front_of_an_await = node Kind.Program 0 (more (string (codes "script")) (more (list (trees (node Kind.FunctionDeclaration 1 (more (child (node Kind.BindingIdentifier 2 (more (string (codes "m")) end))) (more (list end) (more (child (node Kind.BlockStatement 3 (more (list (trees (node Kind.ExpressionStatement 4 (more (child (node Kind.AwaitExpression 5 (more (child (node Kind.CallExpression 6 (more (child (node Kind.IdentifierReference 7 (more (string (codes "h")) end))) (more (list end) (more (boolean false) end))))) end))) (more no_string end)) ∷ node Kind.ExpressionStatement 8 (more (child (node Kind.CallExpression 9 (more (child (node Kind.IdentifierReference 10 (more (string (codes "k")) end))) (more (list (trees (node Kind.ClassExpression 11 (more absent (more (child (node Kind.IdentifierReference 12 (more (string (codes "g")) end))) (more (child (node Kind.ClassBody 13 (more (list (trees (node Kind.PropertyDefinition 14 (more (child (node Kind.IdentifierName 15 (more (string (codes "x")) end))) (more (child (node Kind.Literal 16 (more (literal (literal_value.Number (codes "1"))) end))) (more (boolean false) (more (boolean true) end)))) ∷ []))) end))) end))) ∷ []))) (more (boolean false) end))))) (more no_string end)) ∷ []))) end))) (more (boolean true) (more (boolean false) end))))) ∷ node Kind.ExpressionStatement 17 (more (child (node Kind.CallExpression 18 (more (child (node Kind.IdentifierReference 19 (more (string (codes "m")) end))) (more (list end) (more (boolean false) end))))) (more no_string end)) ∷ node Kind.VariableDeclaration 20 (more (string (codes "let")) (more (list (trees (node Kind.VariableDeclarator 21 (more (child (node Kind.BindingIdentifier 22 (more (string (codes "g")) end))) (more (child (node Kind.CallExpression 23 (more (child (node Kind.IdentifierReference 24 (more (string (codes "f")) end))) (more (list end) (more (boolean false) end))))) end)) ∷ []))) end)) ∷ []))) end))

-- a class stands in front of an await, behind which its heritage is read: `async function m() { var _C; _C = class extends g { }; await h(); k((B.defineProperty(_C, "x", 1), _C)); } m(); let g = f();`
abbrev pub output_class_in_front_of_an_await : Tree
output_class_in_front_of_an_await = node Kind.Program 0 (more (string (codes "script")) (more (list (trees (node Kind.FunctionDeclaration 1 (more (child (node Kind.BindingIdentifier 2 (more (string (codes "m")) end))) (more (list end) (more (child (node Kind.BlockStatement 3 (more (list (trees (node Kind.VariableDeclaration 25 (more (string (codes "var")) (more (list (trees (node Kind.VariableDeclarator 26 (more (child (node Kind.BindingIdentifier 27 (more (string (codes "_C")) end))) (more absent end)) ∷ []))) end)) ∷ node Kind.ExpressionStatement 28 (more (child (node Kind.AssignmentExpression 29 (more (string (codes "=")) (more (child (node Kind.IdentifierReference 30 (more (string (codes "_C")) end))) (more (child (node Kind.ClassExpression 11 (more absent (more (child (node Kind.IdentifierReference 12 (more (string (codes "g")) end))) (more (child (node Kind.ClassBody 13 (more (list end) end))) end))))) end))))) (more no_string end)) ∷ node Kind.ExpressionStatement 4 (more (child (node Kind.AwaitExpression 5 (more (child (node Kind.CallExpression 6 (more (child (node Kind.IdentifierReference 7 (more (string (codes "h")) end))) (more (list end) (more (boolean false) end))))) end))) (more no_string end)) ∷ node Kind.ExpressionStatement 8 (more (child (node Kind.CallExpression 9 (more (child (node Kind.IdentifierReference 10 (more (string (codes "k")) end))) (more (list (trees (node Kind.SequenceExpression 31 (more (list (trees (node Kind.CallExpression 32 (more (child (node Kind.MemberExpression 33 (more (child (node Kind.IdentifierReference 34 (more (string (codes "babelHelpers")) end))) (more (child (node Kind.IdentifierName 35 (more (string (codes "defineProperty")) end))) (more (boolean false) (more (boolean false) end)))))) (more (list (trees (node Kind.IdentifierReference 36 (more (string (codes "_C")) end) ∷ node Kind.Literal 37 (more (literal (literal_value.String (codes "x") None)) end) ∷ node Kind.Literal 16 (more (literal (literal_value.Number (codes "1"))) end) ∷ []))) (more (boolean false) end))) ∷ node Kind.IdentifierReference 38 (more (string (codes "_C")) end) ∷ []))) end) ∷ []))) (more (boolean false) end))))) (more no_string end)) ∷ []))) end))) (more (boolean true) (more (boolean false) end))))) ∷ node Kind.ExpressionStatement 17 (more (child (node Kind.CallExpression 18 (more (child (node Kind.IdentifierReference 19 (more (string (codes "m")) end))) (more (list end) (more (boolean false) end))))) (more no_string end)) ∷ node Kind.VariableDeclaration 20 (more (string (codes "let")) (more (list (trees (node Kind.VariableDeclarator 21 (more (child (node Kind.BindingIdentifier 22 (more (string (codes "g")) end))) (more (child (node Kind.CallExpression 23 (more (child (node Kind.IdentifierReference 24 (more (string (codes "f")) end))) (more (list end) (more (boolean false) end))))) end)) ∷ []))) end)) ∷ []))) end))

abbrev pub generated_class_in_front_of_an_await : List LedgerEntry
generated_class_in_front_of_an_await = record { name = codes "_C"; kind = GeneratedKind.ClassTemp (record { 0 = 11 }) } ∷ []

abbrev pub options_class_in_front_of_an_await : Options
options_class_in_front_of_an_await = options_of false (Some (record { loose = false })) false
