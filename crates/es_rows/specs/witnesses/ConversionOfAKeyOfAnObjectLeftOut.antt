-- Printed by tools/rows/witnesses.js.
use Rattle.std.specs.Prelude.{ℕ, List, [], ◌∷◌, true, false, codes, None}
use Rattle.es_base.specs.Tree.{Tree, end, more, child, absent, list, string, no_string, boolean, literal, trees}
use Rattle.es_base.specs.declared.kind.Kind.{Kind}
use Rattle.es_base.specs.declared.ledger.GeneratedKind.{GeneratedKind}
use Rattle.es_base.specs.declared.ledger.LedgerEntry.{LedgerEntry}
use Rattle.es_base.specs.declared.literal.LiteralValue.TheVariants as literal_value
use Rattle.es_steps.specs.Generated.{node}
use Rattle.es_steps.specs.Options.{options_of}
use Rattle.es_steps.specs.declared.options.Options.{Options}

-- `({ [k()]: class { static { f(1); } } });`
abbrev pub source_conversion_of_a_key_of_an_object_left_out : Tree
source_conversion_of_a_key_of_an_object_left_out = node Kind.Program 0 (more (string (codes "script")) (more (list (trees (node Kind.ExpressionStatement 1 (more (child (node Kind.ObjectExpression 2 (more (list (trees (node Kind.Property 3 (more (child (node Kind.CallExpression 4 (more (child (node Kind.IdentifierReference 5 (more (string (codes "k")) end))) (more (list end) (more (boolean false) end))))) (more (child (node Kind.ClassExpression 6 (more absent (more absent (more (child (node Kind.ClassBody 7 (more (list (trees (node Kind.StaticBlock 8 (more (list (trees (node Kind.ExpressionStatement 9 (more (child (node Kind.CallExpression 10 (more (child (node Kind.IdentifierReference 11 (more (string (codes "f")) end))) (more (list (trees (node Kind.Literal 12 (more (literal (literal_value.Number (codes "1"))) end) ∷ []))) (more (boolean false) end))))) (more no_string end)) ∷ []))) end) ∷ []))) end))) end))))) (more (string (codes "init")) (more (boolean false) (more (boolean false) (more (boolean true) end)))))) ∷ []))) end))) (more no_string end)) ∷ []))) end))

-- a key of an object that is converted twice, where it is and where it names the value, where `var _staticBlock; let _key; ({ [_key = B.toPropertyKey(k())]: (((_name, _object) => _object[_name])(_key, { [_key]: class { static #_ = _staticBlock = () => (f(1), this); } }), _staticBlock()) });` is right
abbrev pub output_conversion_of_a_key_of_an_object_left_out : Tree
output_conversion_of_a_key_of_an_object_left_out = node Kind.Program 0 (more (string (codes "script")) (more (list (trees (node Kind.VariableDeclaration 13 (more (string (codes "var")) (more (list (trees (node Kind.VariableDeclarator 14 (more (child (node Kind.BindingIdentifier 15 (more (string (codes "_staticBlock")) end))) (more absent end)) ∷ []))) end)) ∷ node Kind.VariableDeclaration 16 (more (string (codes "let")) (more (list (trees (node Kind.VariableDeclarator 17 (more (child (node Kind.BindingIdentifier 18 (more (string (codes "_key")) end))) (more absent end)) ∷ []))) end)) ∷ node Kind.ExpressionStatement 1 (more (child (node Kind.ObjectExpression 2 (more (list (trees (node Kind.Property 3 (more (child (node Kind.AssignmentExpression 19 (more (string (codes "=")) (more (child (node Kind.IdentifierReference 20 (more (string (codes "_key")) end))) (more (child (node Kind.CallExpression 4 (more (child (node Kind.IdentifierReference 5 (more (string (codes "k")) end))) (more (list end) (more (boolean false) end))))) end))))) (more (child (node Kind.SequenceExpression 21 (more (list (trees (node Kind.CallExpression 22 (more (child (node Kind.ArrowFunctionExpression 23 (more (list (trees (node Kind.BindingIdentifier 24 (more (string (codes "_name")) end) ∷ node Kind.BindingIdentifier 25 (more (string (codes "_object")) end) ∷ []))) (more (child (node Kind.MemberExpression 26 (more (child (node Kind.IdentifierReference 27 (more (string (codes "_object")) end))) (more (child (node Kind.IdentifierReference 28 (more (string (codes "_name")) end))) (more (boolean true) (more (boolean false) end)))))) (more (boolean false) end))))) (more (list (trees (node Kind.IdentifierReference 29 (more (string (codes "_key")) end) ∷ node Kind.ObjectExpression 30 (more (list (trees (node Kind.Property 31 (more (child (node Kind.IdentifierReference 32 (more (string (codes "_key")) end))) (more (child (node Kind.ClassExpression 6 (more absent (more absent (more (child (node Kind.ClassBody 7 (more (list (trees (node Kind.PropertyDefinition 33 (more (child (node Kind.PrivateIdentifier 34 (more (string (codes "_")) end))) (more (child (node Kind.AssignmentExpression 35 (more (string (codes "=")) (more (child (node Kind.IdentifierReference 36 (more (string (codes "_staticBlock")) end))) (more (child (node Kind.ArrowFunctionExpression 37 (more (list end) (more (child (node Kind.SequenceExpression 38 (more (list (trees (node Kind.CallExpression 10 (more (child (node Kind.IdentifierReference 11 (more (string (codes "f")) end))) (more (list (trees (node Kind.Literal 12 (more (literal (literal_value.Number (codes "1"))) end) ∷ []))) (more (boolean false) end))) ∷ node Kind.ThisExpression 39 end ∷ []))) end))) (more (boolean false) end))))) end))))) (more (boolean false) (more (boolean true) end)))) ∷ []))) end))) end))))) (more (string (codes "init")) (more (boolean false) (more (boolean false) (more (boolean true) end)))))) ∷ []))) end) ∷ []))) (more (boolean false) end))) ∷ node Kind.CallExpression 40 (more (child (node Kind.IdentifierReference 41 (more (string (codes "_staticBlock")) end))) (more (list end) (more (boolean false) end))) ∷ []))) end))) (more (string (codes "init")) (more (boolean false) (more (boolean false) (more (boolean true) end)))))) ∷ []))) end))) (more no_string end)) ∷ []))) end))

abbrev pub generated_conversion_of_a_key_of_an_object_left_out : List LedgerEntry
generated_conversion_of_a_key_of_an_object_left_out = record { name = codes "_"; kind = GeneratedKind.Private (record { 0 = 6 }) } ∷ record { name = codes "_key"; kind = GeneratedKind.Temp } ∷ record { name = codes "_name"; kind = GeneratedKind.Param } ∷ record { name = codes "_object"; kind = GeneratedKind.Param } ∷ record { name = codes "_staticBlock"; kind = GeneratedKind.Closure } ∷ []

abbrev pub options_conversion_of_a_key_of_an_object_left_out : Options
options_conversion_of_a_key_of_an_object_left_out = options_of true None false
