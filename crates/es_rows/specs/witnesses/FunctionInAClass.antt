-- Printed by tools/rows/witnesses.js.
use Rattle.std.specs.Prelude.{ℕ, List, [], ◌∷◌, true, false, codes, Some, None}
use Rattle.es_base.specs.Tree.{Tree, end, more, child, absent, list, string, no_string, boolean, literal, trees}
use Rattle.es_base.specs.declared.kind.Kind.{Kind}
use Rattle.es_base.specs.declared.ledger.GeneratedKind.{GeneratedKind}
use Rattle.es_base.specs.declared.ledger.LedgerEntry.{LedgerEntry}
use Rattle.es_base.specs.declared.literal.LiteralValue.TheVariants as literal_value
use Rattle.es_steps.specs.Generated.{node}
use Rattle.es_steps.specs.Options.{options_of}
use Rattle.es_steps.specs.declared.options.Options.{Options}

-- `f(class { x = 1; [k()]() {} }, function() { return this; });`
abbrev pub source_function_in_a_class : Tree
source_function_in_a_class = node Kind.Program 0 (more (string (codes "script")) (more (list (trees (node Kind.ExpressionStatement 1 (more (child (node Kind.CallExpression 2 (more (child (node Kind.IdentifierReference 3 (more (string (codes "f")) end))) (more (list (trees (node Kind.ClassExpression 4 (more absent (more absent (more (child (node Kind.ClassBody 5 (more (list (trees (node Kind.PropertyDefinition 6 (more (child (node Kind.IdentifierName 7 (more (string (codes "x")) end))) (more (child (node Kind.Literal 8 (more (literal (literal_value.Number (codes "1"))) end))) (more (boolean false) (more (boolean false) end)))) ∷ node Kind.MethodDefinition 9 (more (child (node Kind.CallExpression 10 (more (child (node Kind.IdentifierReference 11 (more (string (codes "k")) end))) (more (list end) (more (boolean false) end))))) (more (child (node Kind.FunctionExpression 12 (more absent (more (list end) (more (child (node Kind.BlockStatement 13 (more (list end) end))) (more (boolean false) (more (boolean false) end))))))) (more (string (codes "method")) (more (boolean true) (more (boolean false) end))))) ∷ []))) end))) end))) ∷ node Kind.FunctionExpression 14 (more absent (more (list end) (more (child (node Kind.BlockStatement 15 (more (list (trees (node Kind.ReturnStatement 16 (more (child (node Kind.ThisExpression 17 end)) end) ∷ []))) end))) (more (boolean false) (more (boolean false) end))))) ∷ []))) (more (boolean false) end))))) (more no_string end)) ∷ []))) end))

-- a function that is not strict, given in a class, where `f(class { constructor() { B.defineProperty(this, "x", 1); } [k()]() {} }, function() { return this; });` is right
abbrev pub output_function_in_a_class : Tree
output_function_in_a_class = node Kind.Program 0 (more (string (codes "script")) (more (list (trees (node Kind.VariableDeclaration 18 (more (string (codes "var")) (more (list (trees (node Kind.VariableDeclarator 19 (more (child (node Kind.BindingIdentifier 20 (more (string (codes "_t")) end))) (more absent end)) ∷ []))) end)) ∷ node Kind.ExpressionStatement 1 (more (child (node Kind.CallExpression 2 (more (child (node Kind.IdentifierReference 3 (more (string (codes "f")) end))) (more (list (trees (node Kind.ClassExpression 4 (more absent (more absent (more (child (node Kind.ClassBody 5 (more (list (trees (node Kind.MethodDefinition 21 (more (child (node Kind.IdentifierName 22 (more (string (codes "constructor")) end))) (more (child (node Kind.FunctionExpression 23 (more absent (more (list end) (more (child (node Kind.BlockStatement 24 (more (list (trees (node Kind.ExpressionStatement 25 (more (child (node Kind.CallExpression 26 (more (child (node Kind.MemberExpression 27 (more (child (node Kind.IdentifierReference 28 (more (string (codes "babelHelpers")) end))) (more (child (node Kind.IdentifierName 29 (more (string (codes "defineProperty")) end))) (more (boolean false) (more (boolean false) end)))))) (more (list (trees (node Kind.ThisExpression 30 end ∷ node Kind.Literal 31 (more (literal (literal_value.String (codes "x") None)) end) ∷ node Kind.Literal 8 (more (literal (literal_value.Number (codes "1"))) end) ∷ []))) (more (boolean false) end))))) (more no_string end)) ∷ []))) end))) (more (boolean false) (more (boolean false) end))))))) (more (string (codes "constructor")) (more (boolean false) (more (boolean false) end))))) ∷ node Kind.MethodDefinition 9 (more (child (node Kind.SequenceExpression 32 (more (list (trees (node Kind.AssignmentExpression 33 (more (string (codes "=")) (more (child (node Kind.IdentifierReference 34 (more (string (codes "_t")) end))) (more (child (node Kind.FunctionExpression 14 (more absent (more (list end) (more (child (node Kind.BlockStatement 15 (more (list (trees (node Kind.ReturnStatement 16 (more (child (node Kind.ThisExpression 17 end)) end) ∷ []))) end))) (more (boolean false) (more (boolean false) end))))))) end))) ∷ node Kind.CallExpression 10 (more (child (node Kind.IdentifierReference 11 (more (string (codes "k")) end))) (more (list end) (more (boolean false) end))) ∷ []))) end))) (more (child (node Kind.FunctionExpression 12 (more absent (more (list end) (more (child (node Kind.BlockStatement 13 (more (list end) end))) (more (boolean false) (more (boolean false) end))))))) (more (string (codes "method")) (more (boolean true) (more (boolean false) end))))) ∷ []))) end))) end))) ∷ node Kind.IdentifierReference 35 (more (string (codes "_t")) end) ∷ []))) (more (boolean false) end))))) (more no_string end)) ∷ []))) end))

abbrev pub generated_function_in_a_class : List LedgerEntry
generated_function_in_a_class = record { name = codes "_t"; kind = GeneratedKind.Temp } ∷ []

abbrev pub options_function_in_a_class : Options
options_function_in_a_class = options_of false (Some (record { loose = false })) false
