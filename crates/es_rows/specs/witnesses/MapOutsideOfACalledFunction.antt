-- Printed by tools/rows/witnesses.js.
use Rattle.std.specs.Prelude.{ℕ, List, [], ◌∷◌, false, codes, Some}
use Rattle.es_base.specs.Tree.{Tree, end, more, child, absent, list, string, no_string, boolean, literal, trees}
use Rattle.es_base.specs.declared.kind.Kind.{Kind}
use Rattle.es_base.specs.declared.ledger.GeneratedKind.{GeneratedKind}
use Rattle.es_base.specs.declared.ledger.LedgerEntry.{LedgerEntry}
use Rattle.es_base.specs.declared.literal.LiteralValue.TheVariants as literal_value
use Rattle.es_steps.specs.Generated.{node}
use Rattle.es_steps.specs.Options.{options_of}
use Rattle.es_steps.specs.declared.options.Options.{Options}

-- `F(); function F() { class A { #x = 1; } return new A(); }`
abbrev pub source_map_outside_of_a_called_function : Tree
source_map_outside_of_a_called_function = node Kind.Program 0 (more (string (codes "script")) (more (list (trees (node Kind.ExpressionStatement 1 (more (child (node Kind.CallExpression 2 (more (child (node Kind.IdentifierReference 3 (more (string (codes "F")) end))) (more (list end) (more (boolean false) end))))) (more no_string end)) ∷ node Kind.FunctionDeclaration 4 (more (child (node Kind.BindingIdentifier 5 (more (string (codes "F")) end))) (more (list end) (more (child (node Kind.BlockStatement 6 (more (list (trees (node Kind.ClassDeclaration 7 (more (child (node Kind.BindingIdentifier 8 (more (string (codes "A")) end))) (more absent (more (child (node Kind.ClassBody 9 (more (list (trees (node Kind.PropertyDefinition 10 (more (child (node Kind.PrivateIdentifier 11 (more (string (codes "x")) end))) (more (child (node Kind.Literal 12 (more (literal (literal_value.Number (codes "1"))) end))) (more (boolean false) (more (boolean false) end)))) ∷ []))) end))) end))) ∷ node Kind.ReturnStatement 13 (more (child (node Kind.NewExpression 14 (more (child (node Kind.IdentifierReference 15 (more (string (codes "A")) end))) (more (list end) end)))) end) ∷ []))) end))) (more (boolean false) (more (boolean false) end))))) ∷ []))) end))

-- a map made behind a call of the function that its class stands in, where `F(); function F() { var _x = new WeakMap(); class A { constructor() { B.classPrivateFieldInitSpec(this, _x, 1); } }  return new A(); }` is right
abbrev pub output_map_outside_of_a_called_function : Tree
output_map_outside_of_a_called_function = node Kind.Program 0 (more (string (codes "script")) (more (list (trees (node Kind.ExpressionStatement 1 (more (child (node Kind.CallExpression 2 (more (child (node Kind.IdentifierReference 3 (more (string (codes "F")) end))) (more (list end) (more (boolean false) end))))) (more no_string end)) ∷ node Kind.VariableDeclaration 16 (more (string (codes "var")) (more (list (trees (node Kind.VariableDeclarator 17 (more (child (node Kind.BindingIdentifier 18 (more (string (codes "_x")) end))) (more (child (node Kind.NewExpression 19 (more (child (node Kind.IdentifierReference 20 (more (string (codes "WeakMap")) end))) (more (list end) end)))) end)) ∷ []))) end)) ∷ node Kind.FunctionDeclaration 4 (more (child (node Kind.BindingIdentifier 5 (more (string (codes "F")) end))) (more (list end) (more (child (node Kind.BlockStatement 6 (more (list (trees (node Kind.ClassDeclaration 7 (more (child (node Kind.BindingIdentifier 8 (more (string (codes "A")) end))) (more absent (more (child (node Kind.ClassBody 9 (more (list (trees (node Kind.MethodDefinition 21 (more (child (node Kind.IdentifierName 22 (more (string (codes "constructor")) end))) (more (child (node Kind.FunctionExpression 23 (more absent (more (list end) (more (child (node Kind.BlockStatement 24 (more (list (trees (node Kind.ExpressionStatement 25 (more (child (node Kind.CallExpression 26 (more (child (node Kind.MemberExpression 27 (more (child (node Kind.IdentifierReference 28 (more (string (codes "babelHelpers")) end))) (more (child (node Kind.IdentifierName 29 (more (string (codes "classPrivateFieldInitSpec")) end))) (more (boolean false) (more (boolean false) end)))))) (more (list (trees (node Kind.ThisExpression 30 end ∷ node Kind.IdentifierReference 31 (more (string (codes "_x")) end) ∷ node Kind.Literal 12 (more (literal (literal_value.Number (codes "1"))) end) ∷ []))) (more (boolean false) end))))) (more no_string end)) ∷ []))) end))) (more (boolean false) (more (boolean false) end))))))) (more (string (codes "constructor")) (more (boolean false) (more (boolean false) end))))) ∷ []))) end))) end))) ∷ node Kind.ReturnStatement 13 (more (child (node Kind.NewExpression 14 (more (child (node Kind.IdentifierReference 15 (more (string (codes "A")) end))) (more (list end) end)))) end) ∷ []))) end))) (more (boolean false) (more (boolean false) end))))) ∷ []))) end))

abbrev pub generated_map_outside_of_a_called_function : List LedgerEntry
generated_map_outside_of_a_called_function = record { name = codes "_x"; kind = GeneratedKind.WeakMap (record { 0 = 11 }) } ∷ []

abbrev pub options_map_outside_of_a_called_function : Options
options_map_outside_of_a_called_function = options_of false (Some (record { loose = false })) false
