-- Printed by tools/rows/witnesses.js.
use Rattle.std.specs.Prelude.{ℕ, List, [], ◌∷◌, true, false, codes, Some, None}
use Rattle.es_base.specs.Tree.{Tree, end, more, child, absent, list, string, no_string, boolean, literal, trees}
use Rattle.es_base.specs.declared.kind.Kind.{Kind}
use Rattle.es_base.specs.declared.ledger.GeneratedKind.{GeneratedKind}
use Rattle.es_base.specs.declared.ledger.LedgerEntry.{LedgerEntry}
use Rattle.es_base.specs.declared.literal.LiteralValue.TheVariants as literal_value
use Rattle.es_steps.specs.Generated.{node}
use Rattle.es_steps.specs.Options.{options_of}
use Rattle.es_steps.specs.declared.options.Options.{Options}

-- `class C { static #m() { return C; } static x = C.#m(); } f(C.x === C);`
abbrev pub source_let_read_in_a_method : Tree
source_let_read_in_a_method = node Kind.Program 0 (more (string (codes "script")) (more (list (trees (node Kind.ClassDeclaration 1 (more (child (node Kind.BindingIdentifier 2 (more (string (codes "C")) end))) (more absent (more (child (node Kind.ClassBody 3 (more (list (trees (node Kind.MethodDefinition 4 (more (child (node Kind.PrivateIdentifier 5 (more (string (codes "m")) end))) (more (child (node Kind.FunctionExpression 6 (more absent (more (list end) (more (child (node Kind.BlockStatement 7 (more (list (trees (node Kind.ReturnStatement 8 (more (child (node Kind.IdentifierReference 9 (more (string (codes "C")) end))) end) ∷ []))) end))) (more (boolean false) (more (boolean false) end))))))) (more (string (codes "method")) (more (boolean false) (more (boolean true) end))))) ∷ node Kind.PropertyDefinition 10 (more (child (node Kind.IdentifierName 11 (more (string (codes "x")) end))) (more (child (node Kind.CallExpression 12 (more (child (node Kind.PrivateField 13 (more (child (node Kind.IdentifierReference 14 (more (string (codes "C")) end))) (more (child (node Kind.PrivateIdentifier 15 (more (string (codes "m")) end))) (more (boolean false) (more (boolean false) end)))))) (more (list end) (more (boolean false) end))))) (more (boolean false) (more (boolean true) end)))) ∷ []))) end))) end))) ∷ node Kind.ExpressionStatement 16 (more (child (node Kind.CallExpression 17 (more (child (node Kind.IdentifierReference 18 (more (string (codes "f")) end))) (more (list (trees (node Kind.BinaryExpression 19 (more (string (codes "===")) (more (child (node Kind.MemberExpression 20 (more (child (node Kind.IdentifierReference 21 (more (string (codes "C")) end))) (more (child (node Kind.IdentifierName 22 (more (string (codes "x")) end))) (more (boolean false) (more (boolean false) end)))))) (more (child (node Kind.IdentifierReference 23 (more (string (codes "C")) end))) end))) ∷ []))) (more (boolean false) end))))) (more no_string end)) ∷ []))) end))

-- a class declaration that becomes a `let`, which the function of a private method reads, where `var _C; let C = (_C = class C {}, B.defineProperty(_C, "x", _m.call(_C)), _C); function _m() { return C; } f(C.x === C);` is right
abbrev pub output_let_read_in_a_method : Tree
output_let_read_in_a_method = node Kind.Program 0 (more (string (codes "script")) (more (list (trees (node Kind.VariableDeclaration 24 (more (string (codes "var")) (more (list (trees (node Kind.VariableDeclarator 25 (more (child (node Kind.BindingIdentifier 26 (more (string (codes "_C")) end))) (more absent end)) ∷ []))) end)) ∷ node Kind.VariableDeclaration 27 (more (string (codes "let")) (more (list (trees (node Kind.VariableDeclarator 28 (more (child (node Kind.BindingIdentifier 2 (more (string (codes "C")) end))) (more (child (node Kind.SequenceExpression 29 (more (list (trees (node Kind.AssignmentExpression 30 (more (string (codes "=")) (more (child (node Kind.IdentifierReference 31 (more (string (codes "_C")) end))) (more (child (node Kind.ClassExpression 1 (more (child (node Kind.BindingIdentifier 32 (more (string (codes "C")) end))) (more absent (more (child (node Kind.ClassBody 3 (more (list end) end))) end))))) end))) ∷ node Kind.CallExpression 33 (more (child (node Kind.MemberExpression 34 (more (child (node Kind.IdentifierReference 35 (more (string (codes "babelHelpers")) end))) (more (child (node Kind.IdentifierName 36 (more (string (codes "defineProperty")) end))) (more (boolean false) (more (boolean false) end)))))) (more (list (trees (node Kind.IdentifierReference 37 (more (string (codes "_C")) end) ∷ node Kind.Literal 38 (more (literal (literal_value.String (codes "x") None)) end) ∷ node Kind.CallExpression 12 (more (child (node Kind.MemberExpression 39 (more (child (node Kind.IdentifierReference 13 (more (string (codes "_m")) end))) (more (child (node Kind.IdentifierName 40 (more (string (codes "call")) end))) (more (boolean false) (more (boolean false) end)))))) (more (list (trees (node Kind.IdentifierReference 14 (more (string (codes "_C")) end) ∷ []))) (more (boolean false) end))) ∷ []))) (more (boolean false) end))) ∷ node Kind.IdentifierReference 41 (more (string (codes "_C")) end) ∷ []))) end))) end)) ∷ []))) end)) ∷ node Kind.FunctionDeclaration 6 (more (child (node Kind.BindingIdentifier 42 (more (string (codes "_m")) end))) (more (list end) (more (child (node Kind.BlockStatement 7 (more (list (trees (node Kind.ReturnStatement 8 (more (child (node Kind.IdentifierReference 9 (more (string (codes "C")) end))) end) ∷ []))) end))) (more (boolean false) (more (boolean false) end))))) ∷ node Kind.ExpressionStatement 16 (more (child (node Kind.CallExpression 17 (more (child (node Kind.IdentifierReference 18 (more (string (codes "f")) end))) (more (list (trees (node Kind.BinaryExpression 19 (more (string (codes "===")) (more (child (node Kind.MemberExpression 20 (more (child (node Kind.IdentifierReference 21 (more (string (codes "C")) end))) (more (child (node Kind.IdentifierName 22 (more (string (codes "x")) end))) (more (boolean false) (more (boolean false) end)))))) (more (child (node Kind.IdentifierReference 23 (more (string (codes "C")) end))) end))) ∷ []))) (more (boolean false) end))))) (more no_string end)) ∷ []))) end))

abbrev pub generated_let_read_in_a_method : List LedgerEntry
generated_let_read_in_a_method = record { name = codes "_C"; kind = GeneratedKind.ClassTemp (record { 0 = 1 }) } ∷ record { name = codes "_m"; kind = GeneratedKind.Method (record { 0 = 5 }) } ∷ []

abbrev pub options_let_read_in_a_method : Options
options_let_read_in_a_method = options_of false (Some (record { loose = false })) false
