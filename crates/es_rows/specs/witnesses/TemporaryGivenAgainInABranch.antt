-- Printed by tools/rows/witnesses.js.
use Rattle.std.specs.Prelude.{ℕ, List, [], ◌∷◌, false, codes, Some, None}
use Rattle.es_base.specs.Tree.{Tree, end, more, child, absent, list, string, no_string, boolean, literal, trees}
use Rattle.es_base.specs.declared.kind.Kind.{Kind}
use Rattle.es_base.specs.declared.ledger.GeneratedKind.{GeneratedKind}
use Rattle.es_base.specs.declared.ledger.LedgerEntry.{LedgerEntry}
use Rattle.es_base.specs.declared.literal.LiteralValue.TheVariants as literal_value
use Rattle.es_steps.specs.Generated.{node}
use Rattle.es_steps.specs.Options.{options_of}
use Rattle.es_steps.specs.declared.options.Options.{Options}

-- ` class D { x = 1; m(h, c) { return h(k(), c && l()); } }`
abbrev pub source_temporary_given_again_in_a_branch : Tree
source_temporary_given_again_in_a_branch = node Kind.Program 0 (more (string (codes "script")) (more (list (trees (node Kind.ClassDeclaration 1 (more (child (node Kind.BindingIdentifier 2 (more (string (codes "D")) end))) (more absent (more (child (node Kind.ClassBody 3 (more (list (trees (node Kind.PropertyDefinition 4 (more (child (node Kind.IdentifierName 5 (more (string (codes "x")) end))) (more (child (node Kind.Literal 6 (more (literal (literal_value.Number (codes "1"))) end))) (more (boolean false) (more (boolean false) end)))) ∷ node Kind.MethodDefinition 7 (more (child (node Kind.IdentifierName 8 (more (string (codes "m")) end))) (more (child (node Kind.FunctionExpression 9 (more absent (more (list (trees (node Kind.BindingIdentifier 10 (more (string (codes "h")) end) ∷ node Kind.BindingIdentifier 11 (more (string (codes "c")) end) ∷ []))) (more (child (node Kind.BlockStatement 12 (more (list (trees (node Kind.ReturnStatement 13 (more (child (node Kind.CallExpression 14 (more (child (node Kind.IdentifierReference 15 (more (string (codes "h")) end))) (more (list (trees (node Kind.CallExpression 16 (more (child (node Kind.IdentifierReference 17 (more (string (codes "k")) end))) (more (list end) (more (boolean false) end))) ∷ node Kind.LogicalExpression 18 (more (string (codes "&&")) (more (child (node Kind.IdentifierReference 19 (more (string (codes "c")) end))) (more (child (node Kind.CallExpression 20 (more (child (node Kind.IdentifierReference 21 (more (string (codes "l")) end))) (more (list end) (more (boolean false) end))))) end))) ∷ []))) (more (boolean false) end))))) end) ∷ []))) end))) (more (boolean false) (more (boolean false) end))))))) (more (string (codes "method")) (more (boolean false) (more (boolean false) end))))) ∷ []))) end))) end))) ∷ []))) end))

-- a temporary given again in a branch, where ` class D { constructor() { B.defineProperty(this, "x", 1); } m(h, c) { return h(k(), c && l()); } }` is right
abbrev pub output_temporary_given_again_in_a_branch : Tree
output_temporary_given_again_in_a_branch = node Kind.Program 0 (more (string (codes "script")) (more (list (trees (node Kind.ClassDeclaration 1 (more (child (node Kind.BindingIdentifier 2 (more (string (codes "D")) end))) (more absent (more (child (node Kind.ClassBody 3 (more (list (trees (node Kind.MethodDefinition 22 (more (child (node Kind.IdentifierName 23 (more (string (codes "constructor")) end))) (more (child (node Kind.FunctionExpression 24 (more absent (more (list end) (more (child (node Kind.BlockStatement 25 (more (list (trees (node Kind.ExpressionStatement 26 (more (child (node Kind.CallExpression 27 (more (child (node Kind.MemberExpression 28 (more (child (node Kind.IdentifierReference 29 (more (string (codes "babelHelpers")) end))) (more (child (node Kind.IdentifierName 30 (more (string (codes "defineProperty")) end))) (more (boolean false) (more (boolean false) end)))))) (more (list (trees (node Kind.ThisExpression 31 end ∷ node Kind.Literal 32 (more (literal (literal_value.String (codes "x") None)) end) ∷ node Kind.Literal 6 (more (literal (literal_value.Number (codes "1"))) end) ∷ []))) (more (boolean false) end))))) (more no_string end)) ∷ []))) end))) (more (boolean false) (more (boolean false) end))))))) (more (string (codes "constructor")) (more (boolean false) (more (boolean false) end))))) ∷ node Kind.MethodDefinition 7 (more (child (node Kind.IdentifierName 8 (more (string (codes "m")) end))) (more (child (node Kind.FunctionExpression 9 (more absent (more (list (trees (node Kind.BindingIdentifier 10 (more (string (codes "h")) end) ∷ node Kind.BindingIdentifier 11 (more (string (codes "c")) end) ∷ []))) (more (child (node Kind.BlockStatement 12 (more (list (trees (node Kind.VariableDeclaration 33 (more (string (codes "var")) (more (list (trees (node Kind.VariableDeclarator 34 (more (child (node Kind.BindingIdentifier 35 (more (string (codes "_t")) end))) (more absent end)) ∷ node Kind.VariableDeclarator 36 (more (child (node Kind.BindingIdentifier 37 (more (string (codes "_u")) end))) (more absent end)) ∷ []))) end)) ∷ node Kind.ReturnStatement 13 (more (child (node Kind.SequenceExpression 38 (more (list (trees (node Kind.AssignmentExpression 39 (more (string (codes "=")) (more (child (node Kind.IdentifierReference 40 (more (string (codes "_t")) end))) (more (child (node Kind.CallExpression 16 (more (child (node Kind.IdentifierReference 17 (more (string (codes "k")) end))) (more (list end) (more (boolean false) end))))) end))) ∷ node Kind.AssignmentExpression 41 (more (string (codes "=")) (more (child (node Kind.IdentifierReference 42 (more (string (codes "_u")) end))) (more (child (node Kind.LogicalExpression 18 (more (string (codes "&&")) (more (child (node Kind.IdentifierReference 19 (more (string (codes "c")) end))) (more (child (node Kind.AssignmentExpression 43 (more (string (codes "=")) (more (child (node Kind.IdentifierReference 44 (more (string (codes "_t")) end))) (more (child (node Kind.CallExpression 20 (more (child (node Kind.IdentifierReference 21 (more (string (codes "l")) end))) (more (list end) (more (boolean false) end))))) end))))) end))))) end))) ∷ node Kind.CallExpression 14 (more (child (node Kind.IdentifierReference 15 (more (string (codes "h")) end))) (more (list (trees (node Kind.IdentifierReference 45 (more (string (codes "_t")) end) ∷ node Kind.IdentifierReference 46 (more (string (codes "_u")) end) ∷ []))) (more (boolean false) end))) ∷ []))) end))) end) ∷ []))) end))) (more (boolean false) (more (boolean false) end))))))) (more (string (codes "method")) (more (boolean false) (more (boolean false) end))))) ∷ []))) end))) end))) ∷ []))) end))

abbrev pub generated_temporary_given_again_in_a_branch : List LedgerEntry
generated_temporary_given_again_in_a_branch = record { name = codes "_t"; kind = GeneratedKind.Temp } ∷ record { name = codes "_u"; kind = GeneratedKind.Temp } ∷ []

abbrev pub options_temporary_given_again_in_a_branch : Options
options_temporary_given_again_in_a_branch = options_of false (Some (record { loose = false })) false
