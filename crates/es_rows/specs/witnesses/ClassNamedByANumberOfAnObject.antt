-- Printed by tools/rows/witnesses.js.
use Rattle.std.specs.Prelude.{ℕ, List, [], ◌∷◌, true, false, codes, None}
use Rattle.es_base.specs.Tree.{Tree, end, more, child, absent, list, string, no_string, boolean, literal, trees}
use Rattle.es_base.specs.declared.kind.Kind.{Kind}
use Rattle.es_base.specs.declared.ledger.GeneratedKind.{GeneratedKind}
use Rattle.es_base.specs.declared.ledger.LedgerEntry.{LedgerEntry}
use Rattle.es_base.specs.declared.literal.LiteralValue.TheVariants as literal_value
use Rattle.es_steps.specs.Generated.{node}
use Rattle.es_steps.specs.Options.{options_of}
use Rattle.es_steps.specs.declared.options.Options.{Options}

-- `g({ 7: class { static { f(1); } } });`
abbrev pub source_class_named_by_a_number_of_an_object : Tree
source_class_named_by_a_number_of_an_object = node Kind.Program 0 (more (string (codes "script")) (more (list (trees (node Kind.ExpressionStatement 1 (more (child (node Kind.CallExpression 2 (more (child (node Kind.IdentifierReference 3 (more (string (codes "g")) end))) (more (list (trees (node Kind.ObjectExpression 4 (more (list (trees (node Kind.Property 5 (more (child (node Kind.Literal 6 (more (literal (literal_value.Number (codes "7"))) end))) (more (child (node Kind.ClassExpression 7 (more absent (more absent (more (child (node Kind.ClassBody 8 (more (list (trees (node Kind.StaticBlock 9 (more (list (trees (node Kind.ExpressionStatement 10 (more (child (node Kind.CallExpression 11 (more (child (node Kind.IdentifierReference 12 (more (string (codes "f")) end))) (more (list (trees (node Kind.Literal 13 (more (literal (literal_value.Number (codes "1"))) end) ∷ []))) (more (boolean false) end))))) (more no_string end)) ∷ []))) end) ∷ []))) end))) end))))) (more (string (codes "init")) (more (boolean false) (more (boolean false) (more (boolean false) end)))))) ∷ []))) end) ∷ []))) (more (boolean false) end))))) (more no_string end)) ∷ []))) end))

-- the value of a number that is a key of an object, a class that keeps the name that it gives, as `var _staticBlock; let _key; g({ [_key = B.toPropertyKey(7)]: (((_name, _object) => _object[_name])(_key, { [_key]: class { static #_ = _staticBlock = () => (f(1), this); } }), _staticBlock()) });` means
abbrev pub output_class_named_by_a_number_of_an_object : Tree
output_class_named_by_a_number_of_an_object = node Kind.Program 0 (more (string (codes "script")) (more (list (trees (node Kind.VariableDeclaration 14 (more (string (codes "var")) (more (list (trees (node Kind.VariableDeclarator 15 (more (child (node Kind.BindingIdentifier 16 (more (string (codes "_staticBlock")) end))) (more absent end)) ∷ []))) end)) ∷ node Kind.VariableDeclaration 17 (more (string (codes "let")) (more (list (trees (node Kind.VariableDeclarator 18 (more (child (node Kind.BindingIdentifier 19 (more (string (codes "_key")) end))) (more absent end)) ∷ []))) end)) ∷ node Kind.ExpressionStatement 1 (more (child (node Kind.CallExpression 2 (more (child (node Kind.IdentifierReference 3 (more (string (codes "g")) end))) (more (list (trees (node Kind.ObjectExpression 4 (more (list (trees (node Kind.Property 5 (more (child (node Kind.AssignmentExpression 20 (more (string (codes "=")) (more (child (node Kind.IdentifierReference 21 (more (string (codes "_key")) end))) (more (child (node Kind.CallExpression 22 (more (child (node Kind.MemberExpression 23 (more (child (node Kind.IdentifierReference 24 (more (string (codes "babelHelpers")) end))) (more (child (node Kind.IdentifierName 25 (more (string (codes "toPropertyKey")) end))) (more (boolean false) (more (boolean false) end)))))) (more (list (trees (node Kind.Literal 6 (more (literal (literal_value.Number (codes "7"))) end) ∷ []))) (more (boolean false) end))))) end))))) (more (child (node Kind.SequenceExpression 26 (more (list (trees (node Kind.CallExpression 27 (more (child (node Kind.ArrowFunctionExpression 28 (more (list (trees (node Kind.BindingIdentifier 29 (more (string (codes "_name")) end) ∷ node Kind.BindingIdentifier 30 (more (string (codes "_object")) end) ∷ []))) (more (child (node Kind.MemberExpression 31 (more (child (node Kind.IdentifierReference 32 (more (string (codes "_object")) end))) (more (child (node Kind.IdentifierReference 33 (more (string (codes "_name")) end))) (more (boolean true) (more (boolean false) end)))))) (more (boolean false) end))))) (more (list (trees (node Kind.IdentifierReference 34 (more (string (codes "_key")) end) ∷ node Kind.ObjectExpression 35 (more (list (trees (node Kind.Property 36 (more (child (node Kind.IdentifierReference 37 (more (string (codes "_key")) end))) (more (child (node Kind.ClassExpression 7 (more absent (more absent (more (child (node Kind.ClassBody 8 (more (list (trees (node Kind.PropertyDefinition 38 (more (child (node Kind.PrivateIdentifier 39 (more (string (codes "_")) end))) (more (child (node Kind.AssignmentExpression 40 (more (string (codes "=")) (more (child (node Kind.IdentifierReference 41 (more (string (codes "_staticBlock")) end))) (more (child (node Kind.ArrowFunctionExpression 42 (more (list end) (more (child (node Kind.SequenceExpression 43 (more (list (trees (node Kind.CallExpression 11 (more (child (node Kind.IdentifierReference 12 (more (string (codes "f")) end))) (more (list (trees (node Kind.Literal 13 (more (literal (literal_value.Number (codes "1"))) end) ∷ []))) (more (boolean false) end))) ∷ node Kind.ThisExpression 44 end ∷ []))) end))) (more (boolean false) end))))) end))))) (more (boolean false) (more (boolean true) end)))) ∷ []))) end))) end))))) (more (string (codes "init")) (more (boolean false) (more (boolean false) (more (boolean true) end)))))) ∷ []))) end) ∷ []))) (more (boolean false) end))) ∷ node Kind.CallExpression 45 (more (child (node Kind.IdentifierReference 46 (more (string (codes "_staticBlock")) end))) (more (list end) (more (boolean false) end))) ∷ []))) end))) (more (string (codes "init")) (more (boolean false) (more (boolean false) (more (boolean true) end)))))) ∷ []))) end) ∷ []))) (more (boolean false) end))))) (more no_string end)) ∷ []))) end))

abbrev pub generated_class_named_by_a_number_of_an_object : List LedgerEntry
generated_class_named_by_a_number_of_an_object = record { name = codes "_key"; kind = GeneratedKind.Temp } ∷ record { name = codes "_name"; kind = GeneratedKind.Param } ∷ record { name = codes "_object"; kind = GeneratedKind.Param } ∷ record { name = codes "_staticBlock"; kind = GeneratedKind.Closure } ∷ record { name = codes "_"; kind = GeneratedKind.Private (record { 0 = 7 }) } ∷ []

abbrev pub options_class_named_by_a_number_of_an_object : Options
options_class_named_by_a_number_of_an_object = options_of true None false
