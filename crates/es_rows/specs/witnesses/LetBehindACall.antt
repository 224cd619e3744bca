-- Printed by tools/rows/witnesses.js.
use Rattle.std.specs.Prelude.{ℕ, List, [], ◌∷◌, true, false, codes, Some, None}
use Rattle.es_base.specs.Tree.{Tree, end, more, child, absent, list, string, no_string, boolean, literal, trees}
use Rattle.es_base.specs.declared.kind.Kind.{Kind}
use Rattle.es_base.specs.declared.ledger.GeneratedKind.{GeneratedKind}
use Rattle.es_base.specs.declared.ledger.LedgerEntry.{LedgerEntry}
use Rattle.es_base.specs.declared.literal.LiteralValue.TheVariants as literal_value
use Rattle.es_steps.specs.Generated.{node}
use Rattle.es_steps.specs.Options.{options_of}
use Rattle.es_steps.specs.declared.options.Options.{Options}

-- `F(); function F(a = class D { static x = D; }) { f(a.x === a); }`
abbrev pub source_let_behind_a_call : Tree
source_let_behind_a_call = node Kind.Program 0 (more (string (codes "script")) (more (list (trees (node Kind.ExpressionStatement 1 (more (child (node Kind.CallExpression 2 (more (child (node Kind.IdentifierReference 3 (more (string (codes "F")) end))) (more (list end) (more (boolean false) end))))) (more no_string end)) ∷ node Kind.FunctionDeclaration 4 (more (child (node Kind.BindingIdentifier 5 (more (string (codes "F")) end))) (more (list (trees (node Kind.AssignmentPattern 6 (more (child (node Kind.BindingIdentifier 7 (more (string (codes "a")) end))) (more (child (node Kind.ClassExpression 8 (more (child (node Kind.BindingIdentifier 9 (more (string (codes "D")) end))) (more absent (more (child (node Kind.ClassBody 10 (more (list (trees (node Kind.PropertyDefinition 11 (more (child (node Kind.IdentifierName 12 (more (string (codes "x")) end))) (more (child (node Kind.IdentifierReference 13 (more (string (codes "D")) end))) (more (boolean false) (more (boolean true) end)))) ∷ []))) end))) end))))) end)) ∷ []))) (more (child (node Kind.BlockStatement 14 (more (list (trees (node Kind.ExpressionStatement 15 (more (child (node Kind.CallExpression 16 (more (child (node Kind.IdentifierReference 17 (more (string (codes "f")) end))) (more (list (trees (node Kind.BinaryExpression 18 (more (string (codes "===")) (more (child (node Kind.MemberExpression 19 (more (child (node Kind.IdentifierReference 20 (more (string (codes "a")) end))) (more (child (node Kind.IdentifierName 21 (more (string (codes "x")) end))) (more (boolean false) (more (boolean false) end)))))) (more (child (node Kind.IdentifierReference 22 (more (string (codes "a")) end))) end))) ∷ []))) (more (boolean false) end))))) (more no_string end)) ∷ []))) end))) (more (boolean false) (more (boolean false) end))))) ∷ []))) end))

-- a `let` of a generated name of a class behind a call of the function whose parameters it is given in, where `F(); let _D; function F(a = (_D = class D {}, B.defineProperty(_D, "x", _D), _D)) { f(a.x === a); }` is right
abbrev pub output_let_behind_a_call : Tree
output_let_behind_a_call = node Kind.Program 0 (more (string (codes "script")) (more (list (trees (node Kind.ExpressionStatement 1 (more (child (node Kind.CallExpression 2 (more (child (node Kind.IdentifierReference 3 (more (string (codes "F")) end))) (more (list end) (more (boolean false) end))))) (more no_string end)) ∷ node Kind.VariableDeclaration 23 (more (string (codes "let")) (more (list (trees (node Kind.VariableDeclarator 24 (more (child (node Kind.BindingIdentifier 25 (more (string (codes "_D")) end))) (more absent end)) ∷ []))) end)) ∷ node Kind.FunctionDeclaration 4 (more (child (node Kind.BindingIdentifier 5 (more (string (codes "F")) end))) (more (list (trees (node Kind.AssignmentPattern 6 (more (child (node Kind.BindingIdentifier 7 (more (string (codes "a")) end))) (more (child (node Kind.SequenceExpression 26 (more (list (trees (node Kind.AssignmentExpression 27 (more (string (codes "=")) (more (child (node Kind.IdentifierReference 28 (more (string (codes "_D")) end))) (more (child (node Kind.ClassExpression 8 (more (child (node Kind.BindingIdentifier 9 (more (string (codes "D")) end))) (more absent (more (child (node Kind.ClassBody 10 (more (list end) end))) end))))) end))) ∷ node Kind.CallExpression 29 (more (child (node Kind.MemberExpression 30 (more (child (node Kind.IdentifierReference 31 (more (string (codes "babelHelpers")) end))) (more (child (node Kind.IdentifierName 32 (more (string (codes "defineProperty")) end))) (more (boolean false) (more (boolean false) end)))))) (more (list (trees (node Kind.IdentifierReference 33 (more (string (codes "_D")) end) ∷ node Kind.Literal 34 (more (literal (literal_value.String (codes "x") None)) end) ∷ node Kind.IdentifierReference 13 (more (string (codes "_D")) end) ∷ []))) (more (boolean false) end))) ∷ node Kind.IdentifierReference 35 (more (string (codes "_D")) end) ∷ []))) end))) end)) ∷ []))) (more (child (node Kind.BlockStatement 14 (more (list (trees (node Kind.ExpressionStatement 15 (more (child (node Kind.CallExpression 16 (more (child (node Kind.IdentifierReference 17 (more (string (codes "f")) end))) (more (list (trees (node Kind.BinaryExpression 18 (more (string (codes "===")) (more (child (node Kind.MemberExpression 19 (more (child (node Kind.IdentifierReference 20 (more (string (codes "a")) end))) (more (child (node Kind.IdentifierName 21 (more (string (codes "x")) end))) (more (boolean false) (more (boolean false) end)))))) (more (child (node Kind.IdentifierReference 22 (more (string (codes "a")) end))) end))) ∷ []))) (more (boolean false) end))))) (more no_string end)) ∷ []))) end))) (more (boolean false) (more (boolean false) end))))) ∷ []))) end))

abbrev pub generated_let_behind_a_call : List LedgerEntry
generated_let_behind_a_call = record { name = codes "_D"; kind = GeneratedKind.ClassTemp (record { 0 = 8 }) } ∷ []

abbrev pub options_let_behind_a_call : Options
options_let_behind_a_call = options_of false (Some (record { loose = false })) false
