-- Printed by tools/rows/witnesses.js.
use Rattle.std.specs.Prelude.{ℕ, List, [], ◌∷◌, true, false, codes, Some, None}
use Rattle.es_base.specs.Tree.{Tree, end, more, child, absent, list, string, no_string, boolean, literal, trees}
use Rattle.es_base.specs.declared.kind.Kind.{Kind}
use Rattle.es_base.specs.declared.ledger.GeneratedKind.{GeneratedKind}
use Rattle.es_base.specs.declared.ledger.LedgerEntry.{LedgerEntry}
use Rattle.es_base.specs.declared.literal.LiteralValue.TheVariants as literal_value
use Rattle.es_steps.specs.Generated.{node}
use Rattle.es_steps.specs.Options.{options_of}
use Rattle.es_steps.specs.declared.options.Options.{Options}

-- `class D { x = 1; m() { class C { [k()]() {} [c() ? h(this) : 0]() {} } return C; } }`
abbrev pub source_branch_of_a_key : Tree
source_branch_of_a_key = node Kind.Program 0 (more (string (codes "script")) (more (list (trees (node Kind.ClassDeclaration 1 (more (child (node Kind.BindingIdentifier 2 (more (string (codes "D")) end))) (more absent (more (child (node Kind.ClassBody 3 (more (list (trees (node Kind.PropertyDefinition 4 (more (child (node Kind.IdentifierName 5 (more (string (codes "x")) end))) (more (child (node Kind.Literal 6 (more (literal (literal_value.Number (codes "1"))) end))) (more (boolean false) (more (boolean false) end)))) ∷ node Kind.MethodDefinition 7 (more (child (node Kind.IdentifierName 8 (more (string (codes "m")) end))) (more (child (node Kind.FunctionExpression 9 (more absent (more (list end) (more (child (node Kind.BlockStatement 10 (more (list (trees (node Kind.ClassDeclaration 11 (more (child (node Kind.BindingIdentifier 12 (more (string (codes "C")) end))) (more absent (more (child (node Kind.ClassBody 13 (more (list (trees (node Kind.MethodDefinition 14 (more (child (node Kind.CallExpression 15 (more (child (node Kind.IdentifierReference 16 (more (string (codes "k")) end))) (more (list end) (more (boolean false) end))))) (more (child (node Kind.FunctionExpression 17 (more absent (more (list end) (more (child (node Kind.BlockStatement 18 (more (list end) end))) (more (boolean false) (more (boolean false) end))))))) (more (string (codes "method")) (more (boolean true) (more (boolean false) end))))) ∷ node Kind.MethodDefinition 19 (more (child (node Kind.ConditionalExpression 20 (more (child (node Kind.CallExpression 21 (more (child (node Kind.IdentifierReference 22 (more (string (codes "c")) end))) (more (list end) (more (boolean false) end))))) (more (child (node Kind.CallExpression 23 (more (child (node Kind.IdentifierReference 24 (more (string (codes "h")) end))) (more (list (trees (node Kind.ThisExpression 25 end ∷ []))) (more (boolean false) end))))) (more (child (node Kind.Literal 26 (more (literal (literal_value.Number (codes "0"))) end))) end))))) (more (child (node Kind.FunctionExpression 27 (more absent (more (list end) (more (child (node Kind.BlockStatement 28 (more (list end) end))) (more (boolean false) (more (boolean false) end))))))) (more (string (codes "method")) (more (boolean true) (more (boolean false) end))))) ∷ []))) end))) end))) ∷ node Kind.ReturnStatement 29 (more (child (node Kind.IdentifierReference 30 (more (string (codes "C")) end))) end) ∷ []))) end))) (more (boolean false) (more (boolean false) end))))))) (more (string (codes "method")) (more (boolean false) (more (boolean false) end))))) ∷ []))) end))) end))) ∷ []))) end))

-- a branch in a key reads what a key in front of it has given, as `class D { constructor() { B.defineProperty(this, "x", 1); } m() { class C { [k()]() {} [c() ? h(this) : 0]() {} } return C; } }` means
abbrev pub output_branch_of_a_key : Tree
output_branch_of_a_key = node Kind.Program 0 (more (string (codes "script")) (more (list (trees (node Kind.ClassDeclaration 1 (more (child (node Kind.BindingIdentifier 2 (more (string (codes "D")) end))) (more absent (more (child (node Kind.ClassBody 3 (more (list (trees (node Kind.MethodDefinition 31 (more (child (node Kind.IdentifierName 32 (more (string (codes "constructor")) end))) (more (child (node Kind.FunctionExpression 33 (more absent (more (list end) (more (child (node Kind.BlockStatement 34 (more (list (trees (node Kind.ExpressionStatement 35 (more (child (node Kind.CallExpression 36 (more (child (node Kind.MemberExpression 37 (more (child (node Kind.IdentifierReference 38 (more (string (codes "babelHelpers")) end))) (more (child (node Kind.IdentifierName 39 (more (string (codes "defineProperty")) end))) (more (boolean false) (more (boolean false) end)))))) (more (list (trees (node Kind.ThisExpression 40 end ∷ node Kind.Literal 41 (more (literal (literal_value.String (codes "x") None)) end) ∷ node Kind.Literal 6 (more (literal (literal_value.Number (codes "1"))) end) ∷ []))) (more (boolean false) end))))) (more no_string end)) ∷ []))) end))) (more (boolean false) (more (boolean false) end))))))) (more (string (codes "constructor")) (more (boolean false) (more (boolean false) end))))) ∷ node Kind.MethodDefinition 7 (more (child (node Kind.IdentifierName 8 (more (string (codes "m")) end))) (more (child (node Kind.FunctionExpression 9 (more absent (more (list end) (more (child (node Kind.BlockStatement 10 (more (list (trees (node Kind.VariableDeclaration 42 (more (string (codes "let")) (more (list (trees (node Kind.VariableDeclarator 43 (more (child (node Kind.BindingIdentifier 44 (more (string (codes "_t")) end))) (more absent end)) ∷ []))) end)) ∷ node Kind.ClassDeclaration 11 (more (child (node Kind.BindingIdentifier 12 (more (string (codes "C")) end))) (more absent (more (child (node Kind.ClassBody 13 (more (list (trees (node Kind.MethodDefinition 14 (more (child (node Kind.SequenceExpression 45 (more (list (trees (node Kind.AssignmentExpression 46 (more (string (codes "=")) (more (child (node Kind.IdentifierReference 47 (more (string (codes "_t")) end))) (more (child (node Kind.ThisExpression 25 end)) end))) ∷ node Kind.CallExpression 15 (more (child (node Kind.IdentifierReference 16 (more (string (codes "k")) end))) (more (list end) (more (boolean false) end))) ∷ []))) end))) (more (child (node Kind.FunctionExpression 17 (more absent (more (list end) (more (child (node Kind.BlockStatement 18 (more (list end) end))) (more (boolean false) (more (boolean false) end))))))) (more (string (codes "method")) (more (boolean true) (more (boolean false) end))))) ∷ node Kind.MethodDefinition 19 (more (child (node Kind.ConditionalExpression 20 (more (child (node Kind.CallExpression 21 (more (child (node Kind.IdentifierReference 22 (more (string (codes "c")) end))) (more (list end) (more (boolean false) end))))) (more (child (node Kind.CallExpression 23 (more (child (node Kind.IdentifierReference 24 (more (string (codes "h")) end))) (more (list (trees (node Kind.IdentifierReference 48 (more (string (codes "_t")) end) ∷ []))) (more (boolean false) end))))) (more (child (node Kind.Literal 26 (more (literal (literal_value.Number (codes "0"))) end))) end))))) (more (child (node Kind.FunctionExpression 27 (more absent (more (list end) (more (child (node Kind.BlockStatement 28 (more (list end) end))) (more (boolean false) (more (boolean false) end))))))) (more (string (codes "method")) (more (boolean true) (more (boolean false) end))))) ∷ []))) end))) end))) ∷ node Kind.ReturnStatement 29 (more (child (node Kind.IdentifierReference 30 (more (string (codes "C")) end))) end) ∷ []))) end))) (more (boolean false) (more (boolean false) end))))))) (more (string (codes "method")) (more (boolean false) (more (boolean false) end))))) ∷ []))) end))) end))) ∷ []))) end))

abbrev pub generated_branch_of_a_key : List LedgerEntry
generated_branch_of_a_key = record { name = codes "_t"; kind = GeneratedKind.Temp } ∷ []

abbrev pub options_branch_of_a_key : Options
options_branch_of_a_key = options_of false (Some (record { loose = false })) false
