-- Printed by tools/rows/witnesses.js.
use Rattle.std.specs.Prelude.{ℕ, List, [], ◌∷◌, false, codes, Some, None}
use Rattle.es_base.specs.Tree.{Tree, end, more, child, absent, list, string, no_string, boolean, literal, trees}
use Rattle.es_base.specs.declared.kind.Kind.{Kind}
use Rattle.es_base.specs.declared.ledger.GeneratedKind.{GeneratedKind}
use Rattle.es_base.specs.declared.ledger.LedgerEntry.{LedgerEntry}
use Rattle.es_base.specs.declared.literal.LiteralValue.TheVariants as literal_value
use Rattle.es_steps.specs.Generated.{node}
use Rattle.es_steps.specs.Options.{options_of}
use Rattle.es_steps.specs.declared.options.Options.{Options}

-- `x = [class C extends k(() => C) { y = 1; }, f(2)];`
abbrev pub source_call_in_front_of_a_class_with_a_heritage : Tree
source_call_in_front_of_a_class_with_a_heritage = node Kind.Program 0 (more (string (codes "script")) (more (list (trees (node Kind.ExpressionStatement 1 (more (child (node Kind.AssignmentExpression 2 (more (string (codes "=")) (more (child (node Kind.IdentifierReference 3 (more (string (codes "x")) end))) (more (child (node Kind.ArrayExpression 4 (more (list (trees (node Kind.ClassExpression 5 (more (child (node Kind.BindingIdentifier 6 (more (string (codes "C")) end))) (more (child (node Kind.CallExpression 7 (more (child (node Kind.IdentifierReference 8 (more (string (codes "k")) end))) (more (list (trees (node Kind.ArrowFunctionExpression 9 (more (list end) (more (child (node Kind.IdentifierReference 10 (more (string (codes "C")) end))) (more (boolean false) end))) ∷ []))) (more (boolean false) end))))) (more (child (node Kind.ClassBody 11 (more (list (trees (node Kind.PropertyDefinition 12 (more (child (node Kind.IdentifierName 13 (more (string (codes "y")) end))) (more (child (node Kind.Literal 14 (more (literal (literal_value.Number (codes "1"))) end))) (more (boolean false) (more (boolean false) end)))) ∷ []))) end))) end))) ∷ node Kind.CallExpression 15 (more (child (node Kind.IdentifierReference 16 (more (string (codes "f")) end))) (more (list (trees (node Kind.Literal 17 (more (literal (literal_value.Number (codes "2"))) end) ∷ []))) (more (boolean false) end))) ∷ []))) end))) end))))) (more no_string end)) ∷ []))) end))

-- what stands behind a class expression, in front of it, where its heritage has given a function away that reads its name: `var _C, _P, _t; x = [(_P = k(() => _C), _t = f(2), _C = class C extends _P { constructor(..._args) { super(..._args); B.defineProperty(this, "y", 1); } }, _C), _t];`
abbrev pub output_call_in_front_of_a_class_with_a_heritage : Tree
output_call_in_front_of_a_class_with_a_heritage = node Kind.Program 0 (more (string (codes "script")) (more (list (trees (node Kind.VariableDeclaration 18 (more (string (codes "var")) (more (list (trees (node Kind.VariableDeclarator 19 (more (child (node Kind.BindingIdentifier 20 (more (string (codes "_C")) end))) (more absent end)) ∷ node Kind.VariableDeclarator 21 (more (child (node Kind.BindingIdentifier 22 (more (string (codes "_P")) end))) (more absent end)) ∷ node Kind.VariableDeclarator 23 (more (child (node Kind.BindingIdentifier 24 (more (string (codes "_t")) end))) (more absent end)) ∷ []))) end)) ∷ node Kind.ExpressionStatement 1 (more (child (node Kind.AssignmentExpression 2 (more (string (codes "=")) (more (child (node Kind.IdentifierReference 3 (more (string (codes "x")) end))) (more (child (node Kind.ArrayExpression 4 (more (list (trees (node Kind.SequenceExpression 25 (more (list (trees (node Kind.AssignmentExpression 26 (more (string (codes "=")) (more (child (node Kind.IdentifierReference 27 (more (string (codes "_P")) end))) (more (child (node Kind.CallExpression 7 (more (child (node Kind.IdentifierReference 8 (more (string (codes "k")) end))) (more (list (trees (node Kind.ArrowFunctionExpression 9 (more (list end) (more (child (node Kind.IdentifierReference 10 (more (string (codes "_C")) end))) (more (boolean false) end))) ∷ []))) (more (boolean false) end))))) end))) ∷ node Kind.AssignmentExpression 28 (more (string (codes "=")) (more (child (node Kind.IdentifierReference 29 (more (string (codes "_t")) end))) (more (child (node Kind.CallExpression 15 (more (child (node Kind.IdentifierReference 16 (more (string (codes "f")) end))) (more (list (trees (node Kind.Literal 17 (more (literal (literal_value.Number (codes "2"))) end) ∷ []))) (more (boolean false) end))))) end))) ∷ node Kind.AssignmentExpression 30 (more (string (codes "=")) (more (child (node Kind.IdentifierReference 31 (more (string (codes "_C")) end))) (more (child (node Kind.ClassExpression 5 (more (child (node Kind.BindingIdentifier 6 (more (string (codes "C")) end))) (more (child (node Kind.IdentifierReference 32 (more (string (codes "_P")) end))) (more (child (node Kind.ClassBody 11 (more (list (trees (node Kind.MethodDefinition 33 (more (child (node Kind.IdentifierName 34 (more (string (codes "constructor")) end))) (more (child (node Kind.FunctionExpression 35 (more absent (more (list (trees (node Kind.RestElement 36 (more (child (node Kind.BindingIdentifier 37 (more (string (codes "_args")) end))) end) ∷ []))) (more (child (node Kind.BlockStatement 38 (more (list (trees (node Kind.ExpressionStatement 39 (more (child (node Kind.CallExpression 40 (more (child (node Kind.Super 41 end)) (more (list (trees (node Kind.SpreadElement 42 (more (child (node Kind.IdentifierReference 43 (more (string (codes "_args")) end))) end) ∷ []))) (more (boolean false) end))))) (more no_string end)) ∷ node Kind.ExpressionStatement 44 (more (child (node Kind.CallExpression 45 (more (child (node Kind.MemberExpression 46 (more (child (node Kind.IdentifierReference 47 (more (string (codes "babelHelpers")) end))) (more (child (node Kind.IdentifierName 48 (more (string (codes "defineProperty")) end))) (more (boolean false) (more (boolean false) end)))))) (more (list (trees (node Kind.ThisExpression 49 end ∷ node Kind.Literal 50 (more (literal (literal_value.String (codes "y") None)) end) ∷ node Kind.Literal 14 (more (literal (literal_value.Number (codes "1"))) end) ∷ []))) (more (boolean false) end))))) (more no_string end)) ∷ []))) end))) (more (boolean false) (more (boolean false) end))))))) (more (string (codes "constructor")) (more (boolean false) (more (boolean false) end))))) ∷ []))) end))) end))))) end))) ∷ node Kind.IdentifierReference 51 (more (string (codes "_C")) end) ∷ []))) end) ∷ node Kind.IdentifierReference 52 (more (string (codes "_t")) end) ∷ []))) end))) end))))) (more no_string end)) ∷ []))) end))

abbrev pub generated_call_in_front_of_a_class_with_a_heritage : List LedgerEntry
generated_call_in_front_of_a_class_with_a_heritage = record { name = codes "_C"; kind = GeneratedKind.ClassTemp (record { 0 = 5 }) } ∷ record { name = codes "_P"; kind = GeneratedKind.Temp } ∷ record { name = codes "_t"; kind = GeneratedKind.Temp } ∷ record { name = codes "_args"; kind = GeneratedKind.Args } ∷ []

abbrev pub options_call_in_front_of_a_class_with_a_heritage : Options
options_call_in_front_of_a_class_with_a_heritage = options_of false (Some (record { loose = false })) false
