-- Printed by tools/rows/witnesses.js.
use Rattle.std.specs.Prelude.{ℕ, List, [], ◌∷◌, false, codes, Some, None}
use Rattle.es_base.specs.Tree.{Tree, end, more, child, absent, list, string, no_string, boolean, literal, trees}
use Rattle.es_base.specs.declared.kind.Kind.{Kind}
use Rattle.es_base.specs.declared.ledger.GeneratedKind.{GeneratedKind}
use Rattle.es_base.specs.declared.ledger.LedgerEntry.{LedgerEntry}
use Rattle.es_base.specs.declared.literal.LiteralValue.TheVariants as literal_value
use Rattle.es_steps.specs.Generated.{node}
use Rattle.es_steps.specs.Options.{options_of}
use Rattle.es_steps.specs.declared.options.Options.{Options}

-- ` class D { x = 1; m() { h(() => 5); } }`
abbrev pub source_temporary_given_behind_a_call : Tree
source_temporary_given_behind_a_call = node Kind.Program 0 (more (string (codes "script")) (more (list (trees (node Kind.ClassDeclaration 1 (more (child (node Kind.BindingIdentifier 2 (more (string (codes "D")) end))) (more absent (more (child (node Kind.ClassBody 3 (more (list (trees (node Kind.PropertyDefinition 4 (more (child (node Kind.IdentifierName 5 (more (string (codes "x")) end))) (more (child (node Kind.Literal 6 (more (literal (literal_value.Number (codes "1"))) end))) (more (boolean false) (more (boolean false) end)))) ∷ node Kind.MethodDefinition 7 (more (child (node Kind.IdentifierName 8 (more (string (codes "m")) end))) (more (child (node Kind.FunctionExpression 9 (more absent (more (list end) (more (child (node Kind.BlockStatement 10 (more (list (trees (node Kind.ExpressionStatement 11 (more (child (node Kind.CallExpression 12 (more (child (node Kind.IdentifierReference 13 (more (string (codes "h")) end))) (more (list (trees (node Kind.ArrowFunctionExpression 14 (more (list end) (more (child (node Kind.Literal 15 (more (literal (literal_value.Number (codes "5"))) end))) (more (boolean false) end))) ∷ []))) (more (boolean false) end))))) (more no_string end)) ∷ []))) end))) (more (boolean false) (more (boolean false) end))))))) (more (string (codes "method")) (more (boolean false) (more (boolean false) end))))) ∷ []))) end))) end))) ∷ []))) end))

-- a temporary given behind a call that reads it, where ` class D { constructor() { B.defineProperty(this, "x", 1); } m() { h(() => 5); } }` is right
abbrev pub output_temporary_given_behind_a_call : Tree
output_temporary_given_behind_a_call = node Kind.Program 0 (more (string (codes "script")) (more (list (trees (node Kind.ClassDeclaration 1 (more (child (node Kind.BindingIdentifier 2 (more (string (codes "D")) end))) (more absent (more (child (node Kind.ClassBody 3 (more (list (trees (node Kind.MethodDefinition 16 (more (child (node Kind.IdentifierName 17 (more (string (codes "constructor")) end))) (more (child (node Kind.FunctionExpression 18 (more absent (more (list end) (more (child (node Kind.BlockStatement 19 (more (list (trees (node Kind.ExpressionStatement 20 (more (child (node Kind.CallExpression 21 (more (child (node Kind.MemberExpression 22 (more (child (node Kind.IdentifierReference 23 (more (string (codes "babelHelpers")) end))) (more (child (node Kind.IdentifierName 24 (more (string (codes "defineProperty")) end))) (more (boolean false) (more (boolean false) end)))))) (more (list (trees (node Kind.ThisExpression 25 end ∷ node Kind.Literal 26 (more (literal (literal_value.String (codes "x") None)) end) ∷ node Kind.Literal 6 (more (literal (literal_value.Number (codes "1"))) end) ∷ []))) (more (boolean false) end))))) (more no_string end)) ∷ []))) end))) (more (boolean false) (more (boolean false) end))))))) (more (string (codes "constructor")) (more (boolean false) (more (boolean false) end))))) ∷ node Kind.MethodDefinition 7 (more (child (node Kind.IdentifierName 8 (more (string (codes "m")) end))) (more (child (node Kind.FunctionExpression 9 (more absent (more (list end) (more (child (node Kind.BlockStatement 10 (more (list (trees (node Kind.VariableDeclaration 27 (more (string (codes "var")) (more (list (trees (node Kind.VariableDeclarator 28 (more (child (node Kind.BindingIdentifier 29 (more (string (codes "_t")) end))) (more absent end)) ∷ []))) end)) ∷ node Kind.ExpressionStatement 11 (more (child (node Kind.CallExpression 12 (more (child (node Kind.IdentifierReference 13 (more (string (codes "h")) end))) (more (list (trees (node Kind.ArrowFunctionExpression 14 (more (list end) (more (child (node Kind.IdentifierReference 30 (more (string (codes "_t")) end))) (more (boolean false) end))) ∷ []))) (more (boolean false) end))))) (more no_string end)) ∷ node Kind.ExpressionStatement 31 (more (child (node Kind.AssignmentExpression 32 (more (string (codes "=")) (more (child (node Kind.IdentifierReference 33 (more (string (codes "_t")) end))) (more (child (node Kind.Literal 15 (more (literal (literal_value.Number (codes "5"))) end))) end))))) (more no_string end)) ∷ []))) end))) (more (boolean false) (more (boolean false) end))))))) (more (string (codes "method")) (more (boolean false) (more (boolean false) end))))) ∷ []))) end))) end))) ∷ []))) end))

abbrev pub generated_temporary_given_behind_a_call : List LedgerEntry
generated_temporary_given_behind_a_call = record { name = codes "_t"; kind = GeneratedKind.Temp } ∷ []

abbrev pub options_temporary_given_behind_a_call : Options
options_temporary_given_behind_a_call = options_of false (Some (record { loose = false })) false
