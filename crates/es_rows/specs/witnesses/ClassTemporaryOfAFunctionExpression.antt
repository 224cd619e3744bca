-- Printed by tools/rows/witnesses.js.
use Rattle.std.specs.Prelude.{ℕ, List, [], ◌∷◌, true, false, codes, Some, None}
use Rattle.es_base.specs.Tree.{Tree, end, more, child, absent, list, string, no_string, boolean, literal, trees}
use Rattle.es_base.specs.declared.kind.Kind.{Kind}
use Rattle.es_base.specs.declared.ledger.GeneratedKind.{GeneratedKind}
use Rattle.es_base.specs.declared.ledger.LedgerEntry.{LedgerEntry}
use Rattle.es_base.specs.declared.literal.LiteralValue.TheVariants as literal_value
use Rattle.es_steps.specs.Generated.{node}
use Rattle.es_steps.specs.Options.{options_of}
use Rattle.es_steps.specs.declared.options.Options.{Options}

-- `f(function (a = class { static x = 1; }) { return a; });`
abbrev pub source_class_temporary_of_a_function_expression : Tree
source_class_temporary_of_a_function_expression = node Kind.Program 0 (more (string (codes "script")) (more (list (trees (node Kind.ExpressionStatement 1 (more (child (node Kind.CallExpression 2 (more (child (node Kind.IdentifierReference 3 (more (string (codes "f")) end))) (more (list (trees (node Kind.FunctionExpression 4 (more absent (more (list (trees (node Kind.AssignmentPattern 5 (more (child (node Kind.BindingIdentifier 6 (more (string (codes "a")) end))) (more (child (node Kind.ClassExpression 7 (more absent (more absent (more (child (node Kind.ClassBody 8 (more (list (trees (node Kind.PropertyDefinition 9 (more (child (node Kind.IdentifierName 10 (more (string (codes "x")) end))) (more (child (node Kind.Literal 11 (more (literal (literal_value.Number (codes "1"))) end))) (more (boolean false) (more (boolean true) end)))) ∷ []))) end))) end))))) end)) ∷ []))) (more (child (node Kind.BlockStatement 12 (more (list (trees (node Kind.ReturnStatement 13 (more (child (node Kind.IdentifierReference 14 (more (string (codes "a")) end))) end) ∷ []))) end))) (more (boolean false) (more (boolean false) end))))) ∷ []))) (more (boolean false) end))))) (more no_string end)) ∷ []))) end))

-- the name of a class given to the own name of a function expression, which is constant, where `var _Class; f(function (a = (_Class = class {}, B.defineProperty(_Class, "x", 1), _Class)) { return a; });` is right
abbrev pub output_class_temporary_of_a_function_expression : Tree
output_class_temporary_of_a_function_expression = node Kind.Program 0 (more (string (codes "script")) (more (list (trees (node Kind.ExpressionStatement 1 (more (child (node Kind.CallExpression 2 (more (child (node Kind.IdentifierReference 3 (more (string (codes "f")) end))) (more (list (trees (node Kind.FunctionExpression 4 (more (child (node Kind.BindingIdentifier 15 (more (string (codes "_Class")) end))) (more (list (trees (node Kind.AssignmentPattern 5 (more (child (node Kind.BindingIdentifier 6 (more (string (codes "a")) end))) (more (child (node Kind.SequenceExpression 16 (more (list (trees (node Kind.AssignmentExpression 17 (more (string (codes "=")) (more (child (node Kind.IdentifierReference 18 (more (string (codes "_Class")) end))) (more (child (node Kind.ClassExpression 7 (more absent (more absent (more (child (node Kind.ClassBody 8 (more (list end) end))) end))))) end))) ∷ node Kind.CallExpression 19 (more (child (node Kind.MemberExpression 20 (more (child (node Kind.IdentifierReference 21 (more (string (codes "babelHelpers")) end))) (more (child (node Kind.IdentifierName 22 (more (string (codes "defineProperty")) end))) (more (boolean false) (more (boolean false) end)))))) (more (list (trees (node Kind.IdentifierReference 23 (more (string (codes "_Class")) end) ∷ node Kind.Literal 24 (more (literal (literal_value.String (codes "x") None)) end) ∷ node Kind.Literal 11 (more (literal (literal_value.Number (codes "1"))) end) ∷ []))) (more (boolean false) end))) ∷ node Kind.IdentifierReference 25 (more (string (codes "_Class")) end) ∷ []))) end))) end)) ∷ []))) (more (child (node Kind.BlockStatement 12 (more (list (trees (node Kind.ReturnStatement 13 (more (child (node Kind.IdentifierReference 14 (more (string (codes "a")) end))) end) ∷ []))) end))) (more (boolean false) (more (boolean false) end))))) ∷ []))) (more (boolean false) end))))) (more no_string end)) ∷ []))) end))

abbrev pub generated_class_temporary_of_a_function_expression : List LedgerEntry
generated_class_temporary_of_a_function_expression = record { name = codes "_Class"; kind = GeneratedKind.ClassTemp (record { 0 = 7 }) } ∷ []

abbrev pub options_class_temporary_of_a_function_expression : Options
options_class_temporary_of_a_function_expression = options_of false (Some (record { loose = false })) false
