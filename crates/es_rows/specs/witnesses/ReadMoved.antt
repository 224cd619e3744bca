-- Printed by tools/rows/witnesses.js.
use Rattle.std.specs.Prelude.{ℕ, List, [], ◌∷◌, true, false, codes, Some}
use Rattle.es_base.specs.Tree.{Tree, end, more, child, absent, list, string, no_string, boolean, literal, trees}
use Rattle.es_base.specs.declared.kind.Kind.{Kind}
use Rattle.es_base.specs.declared.ledger.GeneratedKind.{GeneratedKind}
use Rattle.es_base.specs.declared.ledger.LedgerEntry.{LedgerEntry}
use Rattle.es_base.specs.declared.literal.LiteralValue.TheVariants as literal_value
use Rattle.es_steps.specs.Generated.{node}
use Rattle.es_steps.specs.Options.{options_of}
use Rattle.es_steps.specs.declared.options.Options.{Options}

-- `function f() { var a = 1; g(a); function a() {} } class C { [k()] = 1; }`
abbrev pub source_read_moved : Tree
source_read_moved = node Kind.Program 0 (more (string (codes "script")) (more (list (trees (node Kind.FunctionDeclaration 1 (more (child (node Kind.BindingIdentifier 2 (more (string (codes "f")) end))) (more (list end) (more (child (node Kind.BlockStatement 3 (more (list (trees (node Kind.VariableDeclaration 4 (more (string (codes "var")) (more (list (trees (node Kind.VariableDeclarator 5 (more (child (node Kind.BindingIdentifier 6 (more (string (codes "a")) end))) (more (child (node Kind.Literal 7 (more (literal (literal_value.Number (codes "1"))) end))) end)) ∷ []))) end)) ∷ node Kind.ExpressionStatement 8 (more (child (node Kind.CallExpression 9 (more (child (node Kind.IdentifierReference 10 (more (string (codes "g")) end))) (more (list (trees (node Kind.IdentifierReference 11 (more (string (codes "a")) end) ∷ []))) (more (boolean false) end))))) (more no_string end)) ∷ node Kind.FunctionDeclaration 12 (more (child (node Kind.BindingIdentifier 13 (more (string (codes "a")) end))) (more (list end) (more (child (node Kind.BlockStatement 14 (more (list end) end))) (more (boolean false) (more (boolean false) end))))) ∷ []))) end))) (more (boolean false) (more (boolean false) end))))) ∷ node Kind.ClassDeclaration 15 (more (child (node Kind.BindingIdentifier 16 (more (string (codes "C")) end))) (more absent (more (child (node Kind.ClassBody 17 (more (list (trees (node Kind.PropertyDefinition 18 (more (child (node Kind.CallExpression 19 (more (child (node Kind.IdentifierReference 20 (more (string (codes "k")) end))) (more (list end) (more (boolean false) end))))) (more (child (node Kind.Literal 21 (more (literal (literal_value.Number (codes "1"))) end))) (more (boolean true) (more (boolean false) end)))) ∷ []))) end))) end))) ∷ []))) end))

-- a read in front of the initializer of a `var` that a function of the same body declares again, where `let _k; function f() { var a = 1; g(a); function a() {} } _k = k(); class C { constructor() { B.defineProperty(this, _k, 1); } }` is right
abbrev pub output_read_moved : Tree
output_read_moved = node Kind.Program 0 (more (string (codes "script")) (more (list (trees (node Kind.VariableDeclaration 22 (more (string (codes "let")) (more (list (trees (node Kind.VariableDeclarator 23 (more (child (node Kind.BindingIdentifier 24 (more (string (codes "_k")) end))) (more absent end)) ∷ []))) end)) ∷ node Kind.FunctionDeclaration 1 (more (child (node Kind.BindingIdentifier 2 (more (string (codes "f")) end))) (more (list end) (more (child (node Kind.BlockStatement 3 (more (list (trees (node Kind.ExpressionStatement 25 (more (child (node Kind.AssignmentExpression 26 (more (string (codes "=")) (more (child (node Kind.IdentifierReference 27 (more (string (codes "_k")) end))) (more (child (node Kind.IdentifierReference 11 (more (string (codes "a")) end))) end))))) (more no_string end)) ∷ node Kind.VariableDeclaration 4 (more (string (codes "var")) (more (list (trees (node Kind.VariableDeclarator 5 (more (child (node Kind.BindingIdentifier 6 (more (string (codes "a")) end))) (more (child (node Kind.Literal 7 (more (literal (literal_value.Number (codes "1"))) end))) end)) ∷ []))) end)) ∷ node Kind.ExpressionStatement 8 (more (child (node Kind.CallExpression 9 (more (child (node Kind.IdentifierReference 10 (more (string (codes "g")) end))) (more (list (trees (node Kind.IdentifierReference 28 (more (string (codes "_k")) end) ∷ []))) (more (boolean false) end))))) (more no_string end)) ∷ node Kind.FunctionDeclaration 12 (more (child (node Kind.BindingIdentifier 13 (more (string (codes "a")) end))) (more (list end) (more (child (node Kind.BlockStatement 14 (more (list end) end))) (more (boolean false) (more (boolean false) end))))) ∷ []))) end))) (more (boolean false) (more (boolean false) end))))) ∷ node Kind.ExpressionStatement 29 (more (child (node Kind.AssignmentExpression 30 (more (string (codes "=")) (more (child (node Kind.IdentifierReference 31 (more (string (codes "_k")) end))) (more (child (node Kind.CallExpression 19 (more (child (node Kind.IdentifierReference 20 (more (string (codes "k")) end))) (more (list end) (more (boolean false) end))))) end))))) (more no_string end)) ∷ node Kind.ClassDeclaration 15 (more (child (node Kind.BindingIdentifier 16 (more (string (codes "C")) end))) (more absent (more (child (node Kind.ClassBody 17 (more (list (trees (node Kind.MethodDefinition 32 (more (child (node Kind.IdentifierName 33 (more (string (codes "constructor")) end))) (more (child (node Kind.FunctionExpression 34 (more absent (more (list end) (more (child (node Kind.BlockStatement 35 (more (list (trees (node Kind.ExpressionStatement 36 (more (child (node Kind.CallExpression 37 (more (child (node Kind.MemberExpression 38 (more (child (node Kind.IdentifierReference 39 (more (string (codes "babelHelpers")) end))) (more (child (node Kind.IdentifierName 40 (more (string (codes "defineProperty")) end))) (more (boolean false) (more (boolean false) end)))))) (more (list (trees (node Kind.ThisExpression 41 end ∷ node Kind.IdentifierReference 42 (more (string (codes "_k")) end) ∷ node Kind.Literal 21 (more (literal (literal_value.Number (codes "1"))) end) ∷ []))) (more (boolean false) end))))) (more no_string end)) ∷ []))) end))) (more (boolean false) (more (boolean false) end))))))) (more (string (codes "constructor")) (more (boolean false) (more (boolean false) end))))) ∷ []))) end))) end))) ∷ []))) end))

abbrev pub generated_read_moved : List LedgerEntry
generated_read_moved = record { name = codes "_k"; kind = GeneratedKind.Temp } ∷ []

abbrev pub options_read_moved : Options
options_read_moved = options_of false (Some (record { loose = false })) false
