-- Printed by tools/rows/witnesses.js.
use Rattle.std.specs.Prelude.{ℕ, List, [], ◌∷◌, true, false, codes, None}
use Rattle.es_base.specs.Tree.{Tree, end, more, child, absent, list, string, no_string, boolean, literal, trees}
use Rattle.es_base.specs.declared.kind.Kind.{Kind}
use Rattle.es_base.specs.declared.ledger.GeneratedKind.{GeneratedKind}
use Rattle.es_base.specs.declared.ledger.LedgerEntry.{LedgerEntry}
use Rattle.es_base.specs.declared.literal.LiteralValue.TheVariants as literal_value
use Rattle.es_steps.specs.Generated.{node}
use Rattle.es_steps.specs.Options.{options_of}
use Rattle.es_steps.specs.declared.options.Options.{Options}

-- `class A { static { f(1); } m() { g({ [a = u]: 1 }); } n() { b = o; } }`
abbrev pub source_conversion_of_an_assignment_of_another_name : Tree
source_conversion_of_an_assignment_of_another_name = node Kind.Program 0 (more (string (codes "script")) (more (list (trees (node Kind.ClassDeclaration 1 (more (child (node Kind.BindingIdentifier 2 (more (string (codes "A")) end))) (more absent (more (child (node Kind.ClassBody 3 (more (list (trees (node Kind.StaticBlock 4 (more (list (trees (node Kind.ExpressionStatement 5 (more (child (node Kind.CallExpression 6 (more (child (node Kind.IdentifierReference 7 (more (string (codes "f")) end))) (more (list (trees (node Kind.Literal 8 (more (literal (literal_value.Number (codes "1"))) end) ∷ []))) (more (boolean false) end))))) (more no_string end)) ∷ []))) end) ∷ node Kind.MethodDefinition 9 (more (child (node Kind.IdentifierName 10 (more (string (codes "m")) end))) (more (child (node Kind.FunctionExpression 11 (more absent (more (list end) (more (child (node Kind.BlockStatement 12 (more (list (trees (node Kind.ExpressionStatement 13 (more (child (node Kind.CallExpression 14 (more (child (node Kind.IdentifierReference 15 (more (string (codes "g")) end))) (more (list (trees (node Kind.ObjectExpression 16 (more (list (trees (node Kind.Property 17 (more (child (node Kind.AssignmentExpression 18 (more (string (codes "=")) (more (child (node Kind.IdentifierReference 19 (more (string (codes "a")) end))) (more (child (node Kind.IdentifierReference 20 (more (string (codes "u")) end))) end))))) (more (child (node Kind.Literal 21 (more (literal (literal_value.Number (codes "1"))) end))) (more (string (codes "init")) (more (boolean false) (more (boolean false) (more (boolean true) end)))))) ∷ []))) end) ∷ []))) (more (boolean false) end))))) (more no_string end)) ∷ []))) end))) (more (boolean false) (more (boolean false) end))))))) (more (string (codes "method")) (more (boolean false) (more (boolean false) end))))) ∷ node Kind.MethodDefinition 22 (more (child (node Kind.IdentifierName 23 (more (string (codes "n")) end))) (more (child (node Kind.FunctionExpression 24 (more absent (more (list end) (more (child (node Kind.BlockStatement 25 (more (list (trees (node Kind.ExpressionStatement 26 (more (child (node Kind.AssignmentExpression 27 (more (string (codes "=")) (more (child (node Kind.IdentifierReference 28 (more (string (codes "b")) end))) (more (child (node Kind.IdentifierReference 29 (more (string (codes "o")) end))) end))))) (more no_string end)) ∷ []))) end))) (more (boolean false) (more (boolean false) end))))))) (more (string (codes "method")) (more (boolean false) (more (boolean false) end))))) ∷ []))) end))) end))) ∷ []))) end))

-- a conversion of an assignment of another name, with the number of a key that is an assignment: `class A { static #_ = f(1); m() { g({ [a = u]: 1 }); } n() { B.toPropertyKey(b = o); } }`
abbrev pub output_conversion_of_an_assignment_of_another_name : Tree
output_conversion_of_an_assignment_of_another_name = node Kind.Program 0 (more (string (codes "script")) (more (list (trees (node Kind.ClassDeclaration 1 (more (child (node Kind.BindingIdentifier 2 (more (string (codes "A")) end))) (more absent (more (child (node Kind.ClassBody 3 (more (list (trees (node Kind.PropertyDefinition 30 (more (child (node Kind.PrivateIdentifier 31 (more (string (codes "_")) end))) (more (child (node Kind.CallExpression 6 (more (child (node Kind.IdentifierReference 7 (more (string (codes "f")) end))) (more (list (trees (node Kind.Literal 8 (more (literal (literal_value.Number (codes "1"))) end) ∷ []))) (more (boolean false) end))))) (more (boolean false) (more (boolean true) end)))) ∷ node Kind.MethodDefinition 9 (more (child (node Kind.IdentifierName 10 (more (string (codes "m")) end))) (more (child (node Kind.FunctionExpression 11 (more absent (more (list end) (more (child (node Kind.BlockStatement 12 (more (list (trees (node Kind.ExpressionStatement 13 (more (child (node Kind.CallExpression 14 (more (child (node Kind.IdentifierReference 15 (more (string (codes "g")) end))) (more (list (trees (node Kind.ObjectExpression 16 (more (list (trees (node Kind.Property 17 (more (child (node Kind.AssignmentExpression 27 (more (string (codes "=")) (more (child (node Kind.IdentifierReference 19 (more (string (codes "a")) end))) (more (child (node Kind.IdentifierReference 20 (more (string (codes "u")) end))) end))))) (more (child (node Kind.Literal 21 (more (literal (literal_value.Number (codes "1"))) end))) (more (string (codes "init")) (more (boolean false) (more (boolean false) (more (boolean true) end)))))) ∷ []))) end) ∷ []))) (more (boolean false) end))))) (more no_string end)) ∷ []))) end))) (more (boolean false) (more (boolean false) end))))))) (more (string (codes "method")) (more (boolean false) (more (boolean false) end))))) ∷ node Kind.MethodDefinition 22 (more (child (node Kind.IdentifierName 23 (more (string (codes "n")) end))) (more (child (node Kind.FunctionExpression 24 (more absent (more (list end) (more (child (node Kind.BlockStatement 25 (more (list (trees (node Kind.ExpressionStatement 26 (more (child (node Kind.CallExpression 32 (more (child (node Kind.MemberExpression 33 (more (child (node Kind.IdentifierReference 34 (more (string (codes "babelHelpers")) end))) (more (child (node Kind.IdentifierName 35 (more (string (codes "toPropertyKey")) end))) (more (boolean false) (more (boolean false) end)))))) (more (list (trees (node Kind.AssignmentExpression 18 (more (string (codes "=")) (more (child (node Kind.IdentifierReference 28 (more (string (codes "b")) end))) (more (child (node Kind.IdentifierReference 29 (more (string (codes "o")) end))) end))) ∷ []))) (more (boolean false) end))))) (more no_string end)) ∷ []))) end))) (more (boolean false) (more (boolean false) end))))))) (more (string (codes "method")) (more (boolean false) (more (boolean false) end))))) ∷ []))) end))) end))) ∷ []))) end))

abbrev pub generated_conversion_of_an_assignment_of_another_name : List LedgerEntry
generated_conversion_of_an_assignment_of_another_name = record { name = codes "_"; kind = GeneratedKind.Private (record { 0 = 1 }) } ∷ []

abbrev pub options_conversion_of_an_assignment_of_another_name : Options
options_conversion_of_an_assignment_of_another_name = options_of true None false
