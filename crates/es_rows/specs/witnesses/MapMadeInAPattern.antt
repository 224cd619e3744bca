-- Printed by tools/rows/witnesses.js.
use Rattle.std.specs.Prelude.{ℕ, List, [], ◌∷◌, true, false, codes, Some}
use Rattle.es_base.specs.Tree.{Tree, end, more, child, absent, list, string, no_string, boolean, literal, trees}
use Rattle.es_base.specs.declared.kind.Kind.{Kind}
use Rattle.es_base.specs.declared.ledger.GeneratedKind.{GeneratedKind}
use Rattle.es_base.specs.declared.ledger.LedgerEntry.{LedgerEntry}
use Rattle.es_base.specs.declared.literal.LiteralValue.TheVariants as literal_value
use Rattle.es_steps.specs.Generated.{node}
use Rattle.es_steps.specs.Options.{options_of}
use Rattle.es_steps.specs.declared.options.Options.{Options}

-- `var { [k()]: a } = new (class { #x = 1; })();`
abbrev pub source_map_made_in_a_pattern : Tree
source_map_made_in_a_pattern = node Kind.Program 0 (more (string (codes "script")) (more (list (trees (node Kind.VariableDeclaration 1 (more (string (codes "var")) (more (list (trees (node Kind.VariableDeclarator 2 (more (child (node Kind.ObjectPattern 3 (more (list (trees (node Kind.BindingProperty 4 (more (child (node Kind.CallExpression 5 (more (child (node Kind.IdentifierReference 6 (more (string (codes "k")) end))) (more (list end) (more (boolean false) end))))) (more (child (node Kind.BindingIdentifier 7 (more (string (codes "a")) end))) (more (string (codes "init")) (more (boolean false) (more (boolean false) (more (boolean true) end)))))) ∷ []))) end))) (more (child (node Kind.NewExpression 8 (more (child (node Kind.ClassExpression 9 (more absent (more absent (more (child (node Kind.ClassBody 10 (more (list (trees (node Kind.PropertyDefinition 11 (more (child (node Kind.PrivateIdentifier 12 (more (string (codes "x")) end))) (more (child (node Kind.Literal 13 (more (literal (literal_value.Number (codes "1"))) end))) (more (boolean false) (more (boolean false) end)))) ∷ []))) end))) end))))) (more (list end) end)))) end)) ∷ []))) end)) ∷ []))) end))

-- a map made in a pattern, which runs behind the value, where `var _x; var { [k()]: a } = new (_x = new WeakMap(), class { constructor() { B.classPrivateFieldInitSpec(this, _x, 1); } })();` is right
abbrev pub output_map_made_in_a_pattern : Tree
output_map_made_in_a_pattern = node Kind.Program 0 (more (string (codes "script")) (more (list (trees (node Kind.VariableDeclaration 14 (more (string (codes "var")) (more (list (trees (node Kind.VariableDeclarator 15 (more (child (node Kind.BindingIdentifier 16 (more (string (codes "_x")) end))) (more absent end)) ∷ []))) end)) ∷ node Kind.VariableDeclaration 1 (more (string (codes "var")) (more (list (trees (node Kind.VariableDeclarator 2 (more (child (node Kind.ObjectPattern 3 (more (list (trees (node Kind.BindingProperty 4 (more (child (node Kind.SequenceExpression 17 (more (list (trees (node Kind.AssignmentExpression 18 (more (string (codes "=")) (more (child (node Kind.IdentifierReference 19 (more (string (codes "_x")) end))) (more (child (node Kind.NewExpression 20 (more (child (node Kind.IdentifierReference 21 (more (string (codes "WeakMap")) end))) (more (list end) end)))) end))) ∷ node Kind.CallExpression 5 (more (child (node Kind.IdentifierReference 6 (more (string (codes "k")) end))) (more (list end) (more (boolean false) end))) ∷ []))) end))) (more (child (node Kind.BindingIdentifier 7 (more (string (codes "a")) end))) (more (string (codes "init")) (more (boolean false) (more (boolean false) (more (boolean true) end)))))) ∷ []))) end))) (more (child (node Kind.NewExpression 8 (more (child (node Kind.ClassExpression 9 (more absent (more absent (more (child (node Kind.ClassBody 10 (more (list (trees (node Kind.MethodDefinition 22 (more (child (node Kind.IdentifierName 23 (more (string (codes "constructor")) end))) (more (child (node Kind.FunctionExpression 24 (more absent (more (list end) (more (child (node Kind.BlockStatement 25 (more (list (trees (node Kind.ExpressionStatement 26 (more (child (node Kind.CallExpression 27 (more (child (node Kind.MemberExpression 28 (more (child (node Kind.IdentifierReference 29 (more (string (codes "babelHelpers")) end))) (more (child (node Kind.IdentifierName 30 (more (string (codes "classPrivateFieldInitSpec")) end))) (more (boolean false) (more (boolean false) end)))))) (more (list (trees (node Kind.ThisExpression 31 end ∷ node Kind.IdentifierReference 32 (more (string (codes "_x")) end) ∷ node Kind.Literal 13 (more (literal (literal_value.Number (codes "1"))) end) ∷ []))) (more (boolean false) end))))) (more no_string end)) ∷ []))) end))) (more (boolean false) (more (boolean false) end))))))) (more (string (codes "constructor")) (more (boolean false) (more (boolean false) end))))) ∷ []))) end))) end))))) (more (list end) end)))) end)) ∷ []))) end)) ∷ []))) end))

abbrev pub generated_map_made_in_a_pattern : List LedgerEntry
generated_map_made_in_a_pattern = record { name = codes "_x"; kind = GeneratedKind.WeakMap (record { 0 = 12 }) } ∷ []

abbrev pub options_map_made_in_a_pattern : Options
options_map_made_in_a_pattern = options_of false (Some (record { loose = false })) false
