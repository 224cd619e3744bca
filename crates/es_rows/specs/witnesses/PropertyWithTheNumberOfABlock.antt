-- Printed by tools/rows/witnesses.js.
use Rattle.std.specs.Prelude.{ℕ, List, [], ◌∷◌, true, false, codes, None}
use Rattle.es_base.specs.Tree.{Tree, end, more, child, absent, list, string, no_string, boolean, literal, trees}
use Rattle.es_base.specs.declared.kind.Kind.{Kind}
use Rattle.es_base.specs.declared.ledger.GeneratedKind.{GeneratedKind}
use Rattle.es_base.specs.declared.ledger.LedgerEntry.{LedgerEntry}
use Rattle.es_base.specs.declared.literal.LiteralValue.TheVariants as literal_value
use Rattle.es_steps.specs.Generated.{node}
use Rattle.es_steps.specs.Options.{options_of}
use Rattle.es_steps.specs.declared.options.Options.{Options}

-- `class A { [k()] = class { static { g(); } }; } f(Object.values(new A())[0]);`
abbrev pub source_property_with_the_number_of_a_block : Tree
source_property_with_the_number_of_a_block = node Kind.Program 0 (more (string (codes "script")) (more (list (trees (node Kind.ClassDeclaration 1 (more (child (node Kind.BindingIdentifier 2 (more (string (codes "A")) end))) (more absent (more (child (node Kind.ClassBody 3 (more (list (trees (node Kind.PropertyDefinition 4 (more (child (node Kind.CallExpression 5 (more (child (node Kind.IdentifierReference 6 (more (string (codes "k")) end))) (more (list end) (more (boolean false) end))))) (more (child (node Kind.ClassExpression 7 (more absent (more absent (more (child (node Kind.ClassBody 8 (more (list (trees (node Kind.StaticBlock 9 (more (list (trees (node Kind.ExpressionStatement 10 (more (child (node Kind.CallExpression 11 (more (child (node Kind.IdentifierReference 12 (more (string (codes "g")) end))) (more (list end) (more (boolean false) end))))) (more no_string end)) ∷ []))) end) ∷ []))) end))) end))))) (more (boolean true) (more (boolean false) end)))) ∷ []))) end))) end))) ∷ node Kind.ExpressionStatement 13 (more (child (node Kind.CallExpression 14 (more (child (node Kind.IdentifierReference 15 (more (string (codes "f")) end))) (more (list (trees (node Kind.MemberExpression 16 (more (child (node Kind.CallExpression 17 (more (child (node Kind.MemberExpression 18 (more (child (node Kind.IdentifierReference 19 (more (string (codes "Object")) end))) (more (child (node Kind.IdentifierName 20 (more (string (codes "values")) end))) (more (boolean false) (more (boolean false) end)))))) (more (list (trees (node Kind.NewExpression 21 (more (child (node Kind.IdentifierReference 22 (more (string (codes "A")) end))) (more (list end) end)) ∷ []))) (more (boolean false) end))))) (more (child (node Kind.Literal 23 (more (literal (literal_value.Number (codes "0"))) end))) (more (boolean true) (more (boolean false) end)))) ∷ []))) (more (boolean false) end))))) (more no_string end)) ∷ []))) end))

-- a kept key that is not converted, of a property with the number of a static block: `var _k; class A { [_k = k()] = ((_n, _o) => _o[_n])(_k, { [_k]: class { static #_ = g(); } }); } f(Object.values(new A())[0]);`
abbrev pub output_property_with_the_number_of_a_block : Tree
output_property_with_the_number_of_a_block = node Kind.Program 0 (more (string (codes "script")) (more (list (trees (node Kind.VariableDeclaration 24 (more (string (codes "var")) (more (list (trees (node Kind.VariableDeclarator 25 (more (child (node Kind.BindingIdentifier 26 (more (string (codes "_k")) end))) (more absent end)) ∷ []))) end)) ∷ node Kind.ClassDeclaration 1 (more (child (node Kind.BindingIdentifier 2 (more (string (codes "A")) end))) (more absent (more (child (node Kind.ClassBody 3 (more (list (trees (node Kind.PropertyDefinition 4 (more (child (node Kind.AssignmentExpression 27 (more (string (codes "=")) (more (child (node Kind.IdentifierReference 28 (more (string (codes "_k")) end))) (more (child (node Kind.CallExpression 5 (more (child (node Kind.IdentifierReference 6 (more (string (codes "k")) end))) (more (list end) (more (boolean false) end))))) end))))) (more (child (node Kind.CallExpression 29 (more (child (node Kind.ArrowFunctionExpression 30 (more (list (trees (node Kind.BindingIdentifier 31 (more (string (codes "_n")) end) ∷ node Kind.BindingIdentifier 32 (more (string (codes "_o")) end) ∷ []))) (more (child (node Kind.MemberExpression 33 (more (child (node Kind.IdentifierReference 34 (more (string (codes "_o")) end))) (more (child (node Kind.IdentifierReference 35 (more (string (codes "_n")) end))) (more (boolean true) (more (boolean false) end)))))) (more (boolean false) end))))) (more (list (trees (node Kind.IdentifierReference 36 (more (string (codes "_k")) end) ∷ node Kind.ObjectExpression 37 (more (list (trees (node Kind.Property 9 (more (child (node Kind.IdentifierReference 38 (more (string (codes "_k")) end))) (more (child (node Kind.ClassExpression 7 (more absent (more absent (more (child (node Kind.ClassBody 8 (more (list (trees (node Kind.PropertyDefinition 39 (more (child (node Kind.PrivateIdentifier 40 (more (string (codes "_")) end))) (more (child (node Kind.CallExpression 11 (more (child (node Kind.IdentifierReference 12 (more (string (codes "g")) end))) (more (list end) (more (boolean false) end))))) (more (boolean false) (more (boolean true) end)))) ∷ []))) end))) end))))) (more (string (codes "init")) (more (boolean false) (more (boolean false) (more (boolean true) end)))))) ∷ []))) end) ∷ []))) (more (boolean false) end))))) (more (boolean true) (more (boolean false) end)))) ∷ []))) end))) end))) ∷ node Kind.ExpressionStatement 13 (more (child (node Kind.CallExpression 14 (more (child (node Kind.IdentifierReference 15 (more (string (codes "f")) end))) (more (list (trees (node Kind.MemberExpression 16 (more (child (node Kind.CallExpression 17 (more (child (node Kind.MemberExpression 18 (more (child (node Kind.IdentifierReference 19 (more (string (codes "Object")) end))) (more (child (node Kind.IdentifierName 20 (more (string (codes "values")) end))) (more (boolean false) (more (boolean false) end)))))) (more (list (trees (node Kind.NewExpression 21 (more (child (node Kind.IdentifierReference 22 (more (string (codes "A")) end))) (more (list end) end)) ∷ []))) (more (boolean false) end))))) (more (child (node Kind.Literal 23 (more (literal (literal_value.Number (codes "0"))) end))) (more (boolean true) (more (boolean false) end)))) ∷ []))) (more (boolean false) end))))) (more no_string end)) ∷ []))) end))

abbrev pub generated_property_with_the_number_of_a_block : List LedgerEntry
generated_property_with_the_number_of_a_block = record { name = codes "_k"; kind = GeneratedKind.Temp } ∷ record { name = codes "_n"; kind = GeneratedKind.Param } ∷ record { name = codes "_o"; kind = GeneratedKind.Param } ∷ record { name = codes "_"; kind = GeneratedKind.Private (record { 0 = 7 }) } ∷ []

abbrev pub options_property_with_the_number_of_a_block : Options
options_property_with_the_number_of_a_block = options_of true None false
