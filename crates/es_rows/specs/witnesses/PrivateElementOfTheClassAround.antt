-- Printed by tools/rows/witnesses.js.
use Rattle.std.specs.Prelude.{ℕ, List, [], ◌∷◌, true, false, codes, None}
use Rattle.es_base.specs.Tree.{Tree, end, more, child, absent, list, string, no_string, boolean, literal, trees}
use Rattle.es_base.specs.declared.kind.Kind.{Kind}
use Rattle.es_base.specs.declared.ledger.GeneratedKind.{GeneratedKind}
use Rattle.es_base.specs.declared.ledger.LedgerEntry.{LedgerEntry}
use Rattle.es_base.specs.declared.literal.LiteralValue.TheVariants as literal_value
use Rattle.es_steps.specs.Generated.{node}
use Rattle.es_steps.specs.Options.{options_of}
use Rattle.es_steps.specs.declared.options.Options.{Options}

-- `class A { static x = class D { static { f().a; } }; }`
abbrev pub source_private_element_of_the_class_around : Tree
source_private_element_of_the_class_around = node Kind.Program 0 (more (string (codes "script")) (more (list (trees (node Kind.ClassDeclaration 1 (more (child (node Kind.BindingIdentifier 2 (more (string (codes "A")) end))) (more absent (more (child (node Kind.ClassBody 3 (more (list (trees (node Kind.PropertyDefinition 4 (more (child (node Kind.IdentifierName 5 (more (string (codes "x")) end))) (more (child (node Kind.ClassExpression 6 (more (child (node Kind.BindingIdentifier 7 (more (string (codes "D")) end))) (more absent (more (child (node Kind.ClassBody 8 (more (list (trees (node Kind.StaticBlock 9 (more (list (trees (node Kind.ExpressionStatement 10 (more (child (node Kind.MemberExpression 11 (more (child (node Kind.CallExpression 12 (more (child (node Kind.IdentifierReference 13 (more (string (codes "f")) end))) (more (list end) (more (boolean false) end))))) (more (child (node Kind.IdentifierName 14 (more (string (codes "a")) end))) (more (boolean false) (more (boolean false) end)))))) (more no_string end)) ∷ []))) end) ∷ []))) end))) end))))) (more (boolean false) (more (boolean true) end)))) ∷ []))) end))) end))) ∷ []))) end))

-- a generated private element that is read in front of its value, where the class around has one of that name: `class A { static #_ = f(); static x = class D { static #_y = D.#_.a; static #_ = 0; }; }`
abbrev pub output_private_element_of_the_class_around : Tree
output_private_element_of_the_class_around = node Kind.Program 0 (more (string (codes "script")) (more (list (trees (node Kind.ClassDeclaration 1 (more (child (node Kind.BindingIdentifier 2 (more (string (codes "A")) end))) (more absent (more (child (node Kind.ClassBody 3 (more (list (trees (node Kind.PropertyDefinition 15 (more (child (node Kind.PrivateIdentifier 16 (more (string (codes "_")) end))) (more (child (node Kind.CallExpression 12 (more (child (node Kind.IdentifierReference 13 (more (string (codes "f")) end))) (more (list end) (more (boolean false) end))))) (more (boolean false) (more (boolean true) end)))) ∷ node Kind.PropertyDefinition 4 (more (child (node Kind.IdentifierName 5 (more (string (codes "x")) end))) (more (child (node Kind.ClassExpression 6 (more (child (node Kind.BindingIdentifier 7 (more (string (codes "D")) end))) (more absent (more (child (node Kind.ClassBody 8 (more (list (trees (node Kind.PropertyDefinition 17 (more (child (node Kind.PrivateIdentifier 18 (more (string (codes "_y")) end))) (more (child (node Kind.MemberExpression 11 (more (child (node Kind.PrivateField 19 (more (child (node Kind.IdentifierReference 20 (more (string (codes "D")) end))) (more (child (node Kind.PrivateIdentifier 21 (more (string (codes "_")) end))) (more (boolean false) (more (boolean false) end)))))) (more (child (node Kind.IdentifierName 14 (more (string (codes "a")) end))) (more (boolean false) (more (boolean false) end)))))) (more (boolean false) (more (boolean true) end)))) ∷ node Kind.PropertyDefinition 22 (more (child (node Kind.PrivateIdentifier 23 (more (string (codes "_")) end))) (more (child (node Kind.Literal 24 (more (literal (literal_value.Number (codes "0"))) end))) (more (boolean false) (more (boolean true) end)))) ∷ []))) end))) end))))) (more (boolean false) (more (boolean true) end)))) ∷ []))) end))) end))) ∷ []))) end))

abbrev pub generated_private_element_of_the_class_around : List LedgerEntry
generated_private_element_of_the_class_around = record { name = codes "_"; kind = GeneratedKind.Private (record { 0 = 1 }) } ∷ record { name = codes "_y"; kind = GeneratedKind.Private (record { 0 = 6 }) } ∷ record { name = codes "_"; kind = GeneratedKind.Private (record { 0 = 6 }) } ∷ []

abbrev pub options_private_element_of_the_class_around : Options
options_private_element_of_the_class_around = options_of true None false
