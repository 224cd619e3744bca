-- Printed by tools/rows/witnesses.js.
use Rattle.std.specs.Prelude.{ℕ, List, [], ◌∷◌, true, false, codes, None}
use Rattle.es_base.specs.Tree.{Tree, end, more, child, absent, list, string, no_string, boolean, literal, trees}
use Rattle.es_base.specs.declared.kind.Kind.{Kind}
use Rattle.es_base.specs.declared.ledger.GeneratedKind.{GeneratedKind}
use Rattle.es_base.specs.declared.ledger.LedgerEntry.{LedgerEntry}
use Rattle.es_base.specs.declared.literal.LiteralValue.TheVariants as literal_value
use Rattle.es_steps.specs.Generated.{node}
use Rattle.es_steps.specs.Options.{options_of}
use Rattle.es_steps.specs.declared.options.Options.{Options}

-- `class A { [o.toPropertyKey()] = class { static { g(); } }; } f(Object.values(new A())[0]);`
abbrev pub source_key_of_another_member : Tree
source_key_of_another_member = node Kind.Program 0 (more (string (codes "script")) (more (list (trees (node Kind.ClassDeclaration 1 (more (child (node Kind.BindingIdentifier 2 (more (string (codes "A")) end))) (more absent (more (child (node Kind.ClassBody 3 (more (list (trees (node Kind.PropertyDefinition 4 (more (child (node Kind.CallExpression 5 (more (child (node Kind.MemberExpression 6 (more (child (node Kind.IdentifierReference 7 (more (string (codes "o")) end))) (more (child (node Kind.IdentifierName 8 (more (string (codes "toPropertyKey")) end))) (more (boolean false) (more (boolean false) end)))))) (more (list end) (more (boolean false) end))))) (more (child (node Kind.ClassExpression 9 (more absent (more absent (more (child (node Kind.ClassBody 10 (more (list (trees (node Kind.StaticBlock 11 (more (list (trees (node Kind.ExpressionStatement 12 (more (child (node Kind.CallExpression 13 (more (child (node Kind.IdentifierReference 14 (more (string (codes "g")) end))) (more (list end) (more (boolean false) end))))) (more no_string end)) ∷ []))) end) ∷ []))) end))) end))))) (more (boolean true) (more (boolean false) end)))) ∷ []))) end))) end))) ∷ node Kind.ExpressionStatement 15 (more (child (node Kind.CallExpression 16 (more (child (node Kind.IdentifierReference 17 (more (string (codes "f")) end))) (more (list (trees (node Kind.MemberExpression 18 (more (child (node Kind.CallExpression 19 (more (child (node Kind.MemberExpression 20 (more (child (node Kind.IdentifierReference 21 (more (string (codes "Object")) end))) (more (child (node Kind.IdentifierName 22 (more (string (codes "values")) end))) (more (boolean false) (more (boolean false) end)))))) (more (list (trees (node Kind.NewExpression 23 (more (child (node Kind.IdentifierReference 24 (more (string (codes "A")) end))) (more (list end) end)) ∷ []))) (more (boolean false) end))))) (more (child (node Kind.Literal 25 (more (literal (literal_value.Number (codes "0"))) end))) (more (boolean true) (more (boolean false) end)))) ∷ []))) (more (boolean false) end))))) (more no_string end)) ∷ []))) end))

-- a key that a member `toPropertyKey` of another object gave: `var _k; class A { [_k = o.toPropertyKey()] = ((_n, _o) => _o[_n])(_k, { [_k]: class { static #_ = g(); } }); } f(Object.values(new A())[0]);`
abbrev pub output_key_of_another_member : Tree
output_key_of_another_member = node Kind.Program 0 (more (string (codes "script")) (more (list (trees (node Kind.VariableDeclaration 26 (more (string (codes "var")) (more (list (trees (node Kind.VariableDeclarator 27 (more (child (node Kind.BindingIdentifier 28 (more (string (codes "_k")) end))) (more absent end)) ∷ []))) end)) ∷ node Kind.ClassDeclaration 1 (more (child (node Kind.BindingIdentifier 2 (more (string (codes "A")) end))) (more absent (more (child (node Kind.ClassBody 3 (more (list (trees (node Kind.PropertyDefinition 4 (more (child (node Kind.AssignmentExpression 29 (more (string (codes "=")) (more (child (node Kind.IdentifierReference 30 (more (string (codes "_k")) end))) (more (child (node Kind.CallExpression 5 (more (child (node Kind.MemberExpression 6 (more (child (node Kind.IdentifierReference 7 (more (string (codes "o")) end))) (more (child (node Kind.IdentifierName 8 (more (string (codes "toPropertyKey")) end))) (more (boolean false) (more (boolean false) end)))))) (more (list end) (more (boolean false) end))))) end))))) (more (child (node Kind.CallExpression 31 (more (child (node Kind.ArrowFunctionExpression 32 (more (list (trees (node Kind.BindingIdentifier 33 (more (string (codes "_n")) end) ∷ node Kind.BindingIdentifier 34 (more (string (codes "_o")) end) ∷ []))) (more (child (node Kind.MemberExpression 35 (more (child (node Kind.IdentifierReference 36 (more (string (codes "_o")) end))) (more (child (node Kind.IdentifierReference 37 (more (string (codes "_n")) end))) (more (boolean true) (more (boolean false) end)))))) (more (boolean false) end))))) (more (list (trees (node Kind.IdentifierReference 38 (more (string (codes "_k")) end) ∷ node Kind.ObjectExpression 39 (more (list (trees (node Kind.Property 40 (more (child (node Kind.IdentifierReference 41 (more (string (codes "_k")) end))) (more (child (node Kind.ClassExpression 9 (more absent (more absent (more (child (node Kind.ClassBody 42 (more (list (trees (node Kind.PropertyDefinition 43 (more (child (node Kind.PrivateIdentifier 44 (more (string (codes "_")) end))) (more (child (node Kind.CallExpression 13 (more (child (node Kind.IdentifierReference 14 (more (string (codes "g")) end))) (more (list end) (more (boolean false) end))))) (more (boolean false) (more (boolean true) end)))) ∷ []))) end))) end))))) (more (string (codes "init")) (more (boolean false) (more (boolean false) (more (boolean true) end)))))) ∷ []))) end) ∷ []))) (more (boolean false) end))))) (more (boolean true) (more (boolean false) end)))) ∷ []))) end))) end))) ∷ node Kind.ExpressionStatement 15 (more (child (node Kind.CallExpression 16 (more (child (node Kind.IdentifierReference 17 (more (string (codes "f")) end))) (more (list (trees (node Kind.MemberExpression 18 (more (child (node Kind.CallExpression 19 (more (child (node Kind.MemberExpression 20 (more (child (node Kind.IdentifierReference 21 (more (string (codes "Object")) end))) (more (child (node Kind.IdentifierName 22 (more (string (codes "values")) end))) (more (boolean false) (more (boolean false) end)))))) (more (list (trees (node Kind.NewExpression 23 (more (child (node Kind.IdentifierReference 24 (more (string (codes "A")) end))) (more (list end) end)) ∷ []))) (more (boolean false) end))))) (more (child (node Kind.Literal 25 (more (literal (literal_value.Number (codes "0"))) end))) (more (boolean true) (more (boolean false) end)))) ∷ []))) (more (boolean false) end))))) (more no_string end)) ∷ []))) end))

abbrev pub generated_key_of_another_member : List LedgerEntry
generated_key_of_another_member = record { name = codes "_k"; kind = GeneratedKind.Temp } ∷ record { name = codes "_"; kind = GeneratedKind.Private (record { 0 = 9 }) } ∷ record { name = codes "_n"; kind = GeneratedKind.Param } ∷ record { name = codes "_o"; kind = GeneratedKind.Param } ∷ []

abbrev pub options_key_of_another_member : Options
options_key_of_another_member = options_of true None false
