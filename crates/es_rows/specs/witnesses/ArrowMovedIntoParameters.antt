-- Printed by tools/rows/witnesses.js.
use Rattle.std.specs.Prelude.{ℕ, List, [], ◌∷◌, true, false, codes, Some, None}
use Rattle.es_base.specs.Tree.{Tree, end, more, child, absent, list, string, no_string, boolean, literal, trees}
use Rattle.es_base.specs.declared.kind.Kind.{Kind}
use Rattle.es_base.specs.declared.ledger.GeneratedKind.{GeneratedKind}
use Rattle.es_base.specs.declared.ledger.LedgerEntry.{LedgerEntry}
use Rattle.es_base.specs.declared.literal.LiteralValue.TheVariants as literal_value
use Rattle.es_steps.specs.Generated.{node}
use Rattle.es_steps.specs.Options.{options_of}
use Rattle.es_steps.specs.declared.options.Options.{Options}

-- ` class D { x = 1; m(a, { ["k"]: b }) { var a = 2; h(() => a); } }`
abbrev pub source_arrow_moved_into_parameters : Tree
source_arrow_moved_into_parameters = node Kind.Program 0 (more (string (codes "script")) (more (list (trees (node Kind.ClassDeclaration 1 (more (child (node Kind.BindingIdentifier 2 (more (string (codes "D")) end))) (more absent (more (child (node Kind.ClassBody 3 (more (list (trees (node Kind.PropertyDefinition 4 (more (child (node Kind.IdentifierName 5 (more (string (codes "x")) end))) (more (child (node Kind.Literal 6 (more (literal (literal_value.Number (codes "1"))) end))) (more (boolean false) (more (boolean false) end)))) ∷ node Kind.MethodDefinition 7 (more (child (node Kind.IdentifierName 8 (more (string (codes "m")) end))) (more (child (node Kind.FunctionExpression 9 (more absent (more (list (trees (node Kind.BindingIdentifier 10 (more (string (codes "a")) end) ∷ node Kind.ObjectPattern 11 (more (list (trees (node Kind.BindingProperty 12 (more (child (node Kind.Literal 13 (more (literal (literal_value.String (codes "k") (Some (codes "\"k\"")))) end))) (more (child (node Kind.BindingIdentifier 14 (more (string (codes "b")) end))) (more (string (codes "init")) (more (boolean false) (more (boolean false) (more (boolean true) end)))))) ∷ []))) end) ∷ []))) (more (child (node Kind.BlockStatement 15 (more (list (trees (node Kind.VariableDeclaration 16 (more (string (codes "var")) (more (list (trees (node Kind.VariableDeclarator 17 (more (child (node Kind.BindingIdentifier 18 (more (string (codes "a")) end))) (more (child (node Kind.Literal 19 (more (literal (literal_value.Number (codes "2"))) end))) end)) ∷ []))) end)) ∷ node Kind.ExpressionStatement 20 (more (child (node Kind.CallExpression 21 (more (child (node Kind.IdentifierReference 22 (more (string (codes "h")) end))) (more (list (trees (node Kind.ArrowFunctionExpression 23 (more (list end) (more (child (node Kind.IdentifierReference 24 (more (string (codes "a")) end))) (more (boolean false) end))) ∷ []))) (more (boolean false) end))))) (more no_string end)) ∷ []))) end))) (more (boolean false) (more (boolean false) end))))))) (more (string (codes "method")) (more (boolean false) (more (boolean false) end))))) ∷ []))) end))) end))) ∷ []))) end))

-- an arrow moved from a body into the parameters, which have an environment of their own, where ` class D { constructor() { B.defineProperty(this, "x", 1); } m(a, { ["k"]: b }) { var a = 2; h(() => a); } }` is right
abbrev pub output_arrow_moved_into_parameters : Tree
output_arrow_moved_into_parameters = node Kind.Program 0 (more (string (codes "script")) (more (list (trees (node Kind.VariableDeclaration 25 (more (string (codes "var")) (more (list (trees (node Kind.VariableDeclarator 26 (more (child (node Kind.BindingIdentifier 27 (more (string (codes "_t")) end))) (more absent end)) ∷ []))) end)) ∷ node Kind.ClassDeclaration 1 (more (child (node Kind.BindingIdentifier 2 (more (string (codes "D")) end))) (more absent (more (child (node Kind.ClassBody 3 (more (list (trees (node Kind.MethodDefinition 28 (more (child (node Kind.IdentifierName 29 (more (string (codes "constructor")) end))) (more (child (node Kind.FunctionExpression 30 (more absent (more (list end) (more (child (node Kind.BlockStatement 31 (more (list (trees (node Kind.ExpressionStatement 32 (more (child (node Kind.CallExpression 33 (more (child (node Kind.MemberExpression 34 (more (child (node Kind.IdentifierReference 35 (more (string (codes "babelHelpers")) end))) (more (child (node Kind.IdentifierName 36 (more (string (codes "defineProperty")) end))) (more (boolean false) (more (boolean false) end)))))) (more (list (trees (node Kind.ThisExpression 37 end ∷ node Kind.Literal 38 (more (literal (literal_value.String (codes "x") None)) end) ∷ node Kind.Literal 6 (more (literal (literal_value.Number (codes "1"))) end) ∷ []))) (more (boolean false) end))))) (more no_string end)) ∷ []))) end))) (more (boolean false) (more (boolean false) end))))))) (more (string (codes "constructor")) (more (boolean false) (more (boolean false) end))))) ∷ node Kind.MethodDefinition 7 (more (child (node Kind.IdentifierName 8 (more (string (codes "m")) end))) (more (child (node Kind.FunctionExpression 9 (more absent (more (list (trees (node Kind.BindingIdentifier 10 (more (string (codes "a")) end) ∷ node Kind.ObjectPattern 11 (more (list (trees (node Kind.BindingProperty 12 (more (child (node Kind.SequenceExpression 39 (more (list (trees (node Kind.AssignmentExpression 40 (more (string (codes "=")) (more (child (node Kind.IdentifierReference 41 (more (string (codes "_t")) end))) (more (child (node Kind.ArrowFunctionExpression 23 (more (list end) (more (child (node Kind.IdentifierReference 24 (more (string (codes "a")) end))) (more (boolean false) end))))) end))) ∷ node Kind.Literal 13 (more (literal (literal_value.String (codes "k") (Some (codes "\"k\"")))) end) ∷ []))) end))) (more (child (node Kind.BindingIdentifier 14 (more (string (codes "b")) end))) (more (string (codes "init")) (more (boolean false) (more (boolean false) (more (boolean true) end)))))) ∷ []))) end) ∷ []))) (more (child (node Kind.BlockStatement 15 (more (list (trees (node Kind.VariableDeclaration 16 (more (string (codes "var")) (more (list (trees (node Kind.VariableDeclarator 17 (more (child (node Kind.BindingIdentifier 18 (more (string (codes "a")) end))) (more (child (node Kind.Literal 19 (more (literal (literal_value.Number (codes "2"))) end))) end)) ∷ []))) end)) ∷ node Kind.ExpressionStatement 20 (more (child (node Kind.CallExpression 21 (more (child (node Kind.IdentifierReference 22 (more (string (codes "h")) end))) (more (list (trees (node Kind.IdentifierReference 42 (more (string (codes "_t")) end) ∷ []))) (more (boolean false) end))))) (more no_string end)) ∷ []))) end))) (more (boolean false) (more (boolean false) end))))))) (more (string (codes "method")) (more (boolean false) (more (boolean false) end))))) ∷ []))) end))) end))) ∷ []))) end))

abbrev pub generated_arrow_moved_into_parameters : List LedgerEntry
generated_arrow_moved_into_parameters = record { name = codes "_t"; kind = GeneratedKind.Temp } ∷ []

abbrev pub options_arrow_moved_into_parameters : Options
options_arrow_moved_into_parameters = options_of false (Some (record { loose = false })) false
