-- Printed by tools/rows/witnesses.js.
use Rattle.std.specs.Prelude.{ℕ, List, [], ◌∷◌, false, codes, Some}
use Rattle.es_base.specs.Tree.{Tree, end, more, child, absent, list, string, no_string, boolean, literal, trees}
use Rattle.es_base.specs.declared.kind.Kind.{Kind}
use Rattle.es_base.specs.declared.ledger.GeneratedKind.{GeneratedKind}
use Rattle.es_base.specs.declared.ledger.LedgerEntry.{LedgerEntry}
use Rattle.es_base.specs.declared.literal.LiteralValue.TheVariants as literal_value
use Rattle.es_steps.specs.Generated.{node}
use Rattle.es_steps.specs.Options.{options_of}
use Rattle.es_steps.specs.declared.options.Options.{Options}

-- `g(new (class { #x = 1; })());`
abbrev pub source_map_made_in_a_called_arrow : Tree
source_map_made_in_a_called_arrow = node Kind.Program 0 (more (string (codes "script")) (more (list (trees (node Kind.ExpressionStatement 1 (more (child (node Kind.CallExpression 2 (more (child (node Kind.IdentifierReference 3 (more (string (codes "g")) end))) (more (list (trees (node Kind.NewExpression 4 (more (child (node Kind.ClassExpression 5 (more absent (more absent (more (child (node Kind.ClassBody 6 (more (list (trees (node Kind.PropertyDefinition 7 (more (child (node Kind.PrivateIdentifier 8 (more (string (codes "x")) end))) (more (child (node Kind.Literal 9 (more (literal (literal_value.Number (codes "1"))) end))) (more (boolean false) (more (boolean false) end)))) ∷ []))) end))) end))))) (more (list end) end)) ∷ []))) (more (boolean false) end))))) (more no_string end)) ∷ []))) end))

-- a map made in an arrow, which runs behind its argument, where `var _x; g(new (_x = new WeakMap(), class { constructor() { B.classPrivateFieldInitSpec(this, _x, 1); } })());` is right
abbrev pub output_map_made_in_a_called_arrow : Tree
output_map_made_in_a_called_arrow = node Kind.Program 0 (more (string (codes "script")) (more (list (trees (node Kind.VariableDeclaration 10 (more (string (codes "var")) (more (list (trees (node Kind.VariableDeclarator 11 (more (child (node Kind.BindingIdentifier 12 (more (string (codes "_x")) end))) (more absent end)) ∷ []))) end)) ∷ node Kind.ExpressionStatement 1 (more (child (node Kind.CallExpression 2 (more (child (node Kind.IdentifierReference 3 (more (string (codes "g")) end))) (more (list (trees (node Kind.CallExpression 13 (more (child (node Kind.ArrowFunctionExpression 14 (more (list (trees (node Kind.BindingIdentifier 15 (more (string (codes "_v")) end) ∷ []))) (more (child (node Kind.SequenceExpression 16 (more (list (trees (node Kind.AssignmentExpression 17 (more (string (codes "=")) (more (child (node Kind.IdentifierReference 18 (more (string (codes "_x")) end))) (more (child (node Kind.NewExpression 19 (more (child (node Kind.IdentifierReference 20 (more (string (codes "WeakMap")) end))) (more (list end) end)))) end))) ∷ node Kind.IdentifierReference 21 (more (string (codes "_v")) end) ∷ []))) end))) (more (boolean false) end))))) (more (list (trees (node Kind.NewExpression 4 (more (child (node Kind.ClassExpression 5 (more absent (more absent (more (child (node Kind.ClassBody 6 (more (list (trees (node Kind.MethodDefinition 22 (more (child (node Kind.IdentifierName 23 (more (string (codes "constructor")) end))) (more (child (node Kind.FunctionExpression 24 (more absent (more (list end) (more (child (node Kind.BlockStatement 25 (more (list (trees (node Kind.ExpressionStatement 26 (more (child (node Kind.CallExpression 27 (more (child (node Kind.MemberExpression 28 (more (child (node Kind.IdentifierReference 29 (more (string (codes "babelHelpers")) end))) (more (child (node Kind.IdentifierName 30 (more (string (codes "classPrivateFieldInitSpec")) end))) (more (boolean false) (more (boolean false) end)))))) (more (list (trees (node Kind.ThisExpression 31 end ∷ node Kind.IdentifierReference 32 (more (string (codes "_x")) end) ∷ node Kind.Literal 9 (more (literal (literal_value.Number (codes "1"))) end) ∷ []))) (more (boolean false) end))))) (more no_string end)) ∷ []))) end))) (more (boolean false) (more (boolean false) end))))))) (more (string (codes "constructor")) (more (boolean false) (more (boolean false) end))))) ∷ []))) end))) end))))) (more (list end) end)) ∷ []))) (more (boolean false) end))) ∷ []))) (more (boolean false) end))))) (more no_string end)) ∷ []))) end))

abbrev pub generated_map_made_in_a_called_arrow : List LedgerEntry
generated_map_made_in_a_called_arrow = record { name = codes "_v"; kind = GeneratedKind.Param } ∷ record { name = codes "_x"; kind = GeneratedKind.WeakMap (record { 0 = 8 }) } ∷ []

abbrev pub options_map_made_in_a_called_arrow : Options
options_map_made_in_a_called_arrow = options_of false (Some (record { loose = false })) false
