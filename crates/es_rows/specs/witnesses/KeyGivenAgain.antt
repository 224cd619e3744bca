-- Printed by tools/rows/witnesses.js.
use Rattle.std.specs.Prelude.{ℕ, List, [], ◌∷◌, true, false, codes, Some, None}
use Rattle.es_base.specs.Tree.{Tree, end, more, child, absent, list, string, no_string, boolean, literal, trees}
use Rattle.es_base.specs.declared.kind.Kind.{Kind}
use Rattle.es_base.specs.declared.ledger.GeneratedKind.{GeneratedKind}
use Rattle.es_base.specs.declared.ledger.LedgerEntry.{LedgerEntry}
use Rattle.es_base.specs.declared.literal.LiteralValue.TheVariants as literal_value
use Rattle.es_steps.specs.Generated.{node}
use Rattle.es_steps.specs.Options.{options_of}
use Rattle.es_steps.specs.declared.options.Options.{Options}

-- `class C { x = 1; [k()]() {} [c && l()]() {} }`
abbrev pub source_key_given_again : Tree
source_key_given_again = node Kind.Program 0 (more (string (codes "script")) (more (list (trees (node Kind.ClassDeclaration 1 (more (child (node Kind.BindingIdentifier 2 (more (string (codes "C")) end))) (more absent (more (child (node Kind.ClassBody 3 (more (list (trees (node Kind.PropertyDefinition 4 (more (child (node Kind.IdentifierName 5 (more (string (codes "x")) end))) (more (child (node Kind.Literal 6 (more (literal (literal_value.Number (codes "1"))) end))) (more (boolean false) (more (boolean false) end)))) ∷ node Kind.MethodDefinition 7 (more (child (node Kind.CallExpression 8 (more (child (node Kind.IdentifierReference 9 (more (string (codes "k")) end))) (more (list end) (more (boolean false) end))))) (more (child (node Kind.FunctionExpression 10 (more absent (more (list end) (more (child (node Kind.BlockStatement 11 (more (list end) end))) (more (boolean false) (more (boolean false) end))))))) (more (string (codes "method")) (more (boolean true) (more (boolean false) end))))) ∷ node Kind.MethodDefinition 12 (more (child (node Kind.LogicalExpression 13 (more (string (codes "&&")) (more (child (node Kind.IdentifierReference 14 (more (string (codes "c")) end))) (more (child (node Kind.CallExpression 15 (more (child (node Kind.IdentifierReference 16 (more (string (codes "l")) end))) (more (list end) (more (boolean false) end))))) end))))) (more (child (node Kind.FunctionExpression 17 (more absent (more (list end) (more (child (node Kind.BlockStatement 18 (more (list end) end))) (more (boolean false) (more (boolean false) end))))))) (more (string (codes "method")) (more (boolean true) (more (boolean false) end))))) ∷ []))) end))) end))) ∷ []))) end))

-- the key of a method given again in a branch of the next, where `class C { constructor() { B.defineProperty(this, "x", 1); } [k()]() {} [c && l()]() {} }` is right
abbrev pub output_key_given_again : Tree
output_key_given_again = node Kind.Program 0 (more (string (codes "script")) (more (list (trees (node Kind.VariableDeclaration 19 (more (string (codes "let")) (more (list (trees (node Kind.VariableDeclarator 20 (more (child (node Kind.BindingIdentifier 21 (more (string (codes "_k")) end))) (more absent end)) ∷ node Kind.VariableDeclarator 22 (more (child (node Kind.BindingIdentifier 23 (more (string (codes "_k2")) end))) (more absent end)) ∷ []))) end)) ∷ node Kind.ExpressionStatement 24 (more (child (node Kind.AssignmentExpression 25 (more (string (codes "=")) (more (child (node Kind.IdentifierReference 26 (more (string (codes "_k")) end))) (more (child (node Kind.CallExpression 8 (more (child (node Kind.IdentifierReference 9 (more (string (codes "k")) end))) (more (list end) (more (boolean false) end))))) end))))) (more no_string end)) ∷ node Kind.ExpressionStatement 27 (more (child (node Kind.AssignmentExpression 28 (more (string (codes "=")) (more (child (node Kind.IdentifierReference 29 (more (string (codes "_k2")) end))) (more (child (node Kind.LogicalExpression 13 (more (string (codes "&&")) (more (child (node Kind.IdentifierReference 14 (more (string (codes "c")) end))) (more (child (node Kind.AssignmentExpression 30 (more (string (codes "=")) (more (child (node Kind.IdentifierReference 31 (more (string (codes "_k")) end))) (more (child (node Kind.CallExpression 15 (more (child (node Kind.IdentifierReference 16 (more (string (codes "l")) end))) (more (list end) (more (boolean false) end))))) end))))) end))))) end))))) (more no_string end)) ∷ node Kind.ClassDeclaration 1 (more (child (node Kind.BindingIdentifier 2 (more (string (codes "C")) end))) (more absent (more (child (node Kind.ClassBody 3 (more (list (trees (node Kind.MethodDefinition 32 (more (child (node Kind.IdentifierName 33 (more (string (codes "constructor")) end))) (more (child (node Kind.FunctionExpression 34 (more absent (more (list end) (more (child (node Kind.BlockStatement 35 (more (list (trees (node Kind.ExpressionStatement 36 (more (child (node Kind.CallExpression 37 (more (child (node Kind.MemberExpression 38 (more (child (node Kind.IdentifierReference 39 (more (string (codes "babelHelpers")) end))) (more (child (node Kind.IdentifierName 40 (more (string (codes "defineProperty")) end))) (more (boolean false) (more (boolean false) end)))))) (more (list (trees (node Kind.ThisExpression 41 end ∷ node Kind.Literal 42 (more (literal (literal_value.String (codes "x") None)) end) ∷ node Kind.Literal 6 (more (literal (literal_value.Number (codes "1"))) end) ∷ []))) (more (boolean false) end))))) (more no_string end)) ∷ []))) end))) (more (boolean false) (more (boolean false) end))))))) (more (string (codes "constructor")) (more (boolean false) (more (boolean false) end))))) ∷ node Kind.MethodDefinition 7 (more (child (node Kind.IdentifierReference 43 (more (string (codes "_k")) end))) (more (child (node Kind.FunctionExpression 10 (more absent (more (list end) (more (child (node Kind.BlockStatement 11 (more (list end) end))) (more (boolean false) (more (boolean false) end))))))) (more (string (codes "method")) (more (boolean true) (more (boolean false) end))))) ∷ node Kind.MethodDefinition 12 (more (child (node Kind.IdentifierReference 44 (more (string (codes "_k2")) end))) (more (child (node Kind.FunctionExpression 17 (more absent (more (list end) (more (child (node Kind.BlockStatement 18 (more (list end) end))) (more (boolean false) (more (boolean false) end))))))) (more (string (codes "method")) (more (boolean true) (more (boolean false) end))))) ∷ []))) end))) end))) ∷ []))) end))

abbrev pub generated_key_given_again : List LedgerEntry
generated_key_given_again = record { name = codes "_k"; kind = GeneratedKind.Temp } ∷ record { name = codes "_k2"; kind = GeneratedKind.Temp } ∷ []

abbrev pub options_key_given_again : Options
options_key_given_again = options_of false (Some (record { loose = false })) false
